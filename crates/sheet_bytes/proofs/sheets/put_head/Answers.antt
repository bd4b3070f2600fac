use Rattle.sheet_bytes.specs.Bytes.{head_bytes}
use Rattle.sheet_bytes.proofs.Appending.{put_then}
use Rattle.sheet_bytes.proofs.sheets.put_head.Goals as goal

pub returns : goal.returns
unfolding head_bytes
returns c =
    put_then _ _ _ _ (put_then _ _ _ _ (put_then _ _ _ _ c.put_bytes.ensures c.put_number.ensures) c.put_number-2.ensures) c.put_number-3.ensures

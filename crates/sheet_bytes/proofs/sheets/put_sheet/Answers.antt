use Rattle.sheet.specs.Contents.{content_of}
use Rattle.sheet_bytes.proofs.SheetBytes.{put_sheet}
use Rattle.sheet_bytes.proofs.sheets.put_sheet.Goals as goal

pub returns : goal.returns
returns c =
    put_sheet (content_of c.args.sheet.now) _ _ _ _ _ c.ins.ensures.value c.outs.ensures.value c.put_head.ensures c.put_list.ensures c.put_list-2.ensures

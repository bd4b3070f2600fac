use Rattle.std.proofs.Common.{length, ap, ◌∙◌}
use Rattle.digest.proofs.Blocks.{hashed_alone}
use Rattle.digest.proofs.Endings.{key_written, length_padded_key}
use Rattle.digest.proofs.padding.key_block.Goals as goal

pub returns : goal.returns
returns c =
    let key = c.args.key.now in
    let is = key_written key _ c.told-key c.copy_from_slice.ensures.after in
    record { value = is; alone = hashed_alone key _ is (ap length is ∙ length_padded_key key c.told-key) }

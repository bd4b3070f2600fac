use Rattle.std.proofs.Common.{◌∙◌}
use Rattle.digest.specs.Sha256.{bytes_of}
use Rattle.digest.proofs.state.State.to_bytes.Goals as goal

pub returns : goal.returns
unfolding bytes_of
returns c =
    c.copy_from_slice.ensures.after ∙ c.as_flattened.ensures.value
    ∙ rw (
      c.to_be_bytes-8.ensures,
      c.to_be_bytes-7.ensures,
      c.to_be_bytes-6.ensures,
      c.to_be_bytes-5.ensures,
      c.to_be_bytes-4.ensures,
      c.to_be_bytes-3.ensures,
      c.to_be_bytes-2.ensures,
      c.to_be_bytes.ensures,
    )

use mathlib.Core.Path.{◌∙◌, ap}
use Rattle.digest.specs.Sha256.{sha256}
use Rattle.small_keys.proofs.lock_of.Goals as goal

pub returns : goal.returns
returns c = c.lock.ensures ∙ ap sha256 c.key_of.ensures

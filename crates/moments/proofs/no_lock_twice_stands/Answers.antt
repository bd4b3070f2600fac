use Rattle.moments.proofs.Theorems.{no_lock_twice}
use Rattle.moments.proofs.no_lock_twice_stands.Goals as goal

pub returns : goal.returns
returns c = no_lock_twice

use Rattle.change.proofs.Same.{same_change}
use Rattle.change.proofs.same_change_stands.Goals as goal

pub returns : goal.returns
returns c = same_change

use Rattle.moments.proofs.Theorems.{total_kept}
use Rattle.moments.proofs.total_kept_stands.Goals as goal

pub returns : goal.returns
returns c = total_kept

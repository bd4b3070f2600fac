use Rattle.change.proofs.Same.{keeps_total}
use Rattle.change.proofs.keeps_total_stands.Goals as goal

pub returns : goal.returns
returns c = keeps_total

use Rattle.register.proofs.Laws.{nothing_lost}
use Rattle.register.proofs.nothing_lost_stands.Goals as goal

pub returns : goal.returns
returns c = nothing_lost

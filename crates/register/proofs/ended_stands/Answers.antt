use Rattle.register.proofs.Laws.{ended_for_good}
use Rattle.register.proofs.ended_stands.Goals as goal

pub returns : goal.returns
returns c = ended_for_good

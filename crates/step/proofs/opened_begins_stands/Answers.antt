use Rattle.step.proofs.Continuing.{opened_begins}
use Rattle.step.proofs.opened_begins_stands.Goals as goal

pub returns : goal.returns
returns c = opened_begins

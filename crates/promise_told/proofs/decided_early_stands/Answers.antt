use Rattle.promise_told.proofs.Always.{decided_early}
use Rattle.promise_told.proofs.decided_early_stands.Goals as goal

pub returns : goal.returns
returns c = decided_early

use Rattle.promise_told.proofs.Always.{main}
use Rattle.promise_told.proofs.main_stands.Goals as goal

pub returns : goal.returns
returns c = main

use Rattle.promise_told.proofs.Always.{in_time_lem}
use Rattle.promise_told.proofs.in_time_stands.Goals as goal

pub returns : goal.returns
returns c = in_time_lem

use Rattle.promise_told.proofs.Always.{no_older}
use Rattle.promise_told.proofs.no_older_stands.Goals as goal

pub returns : goal.returns
returns c = no_older

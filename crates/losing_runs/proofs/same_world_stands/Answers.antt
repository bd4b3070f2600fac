use Rattle.losing_runs.proofs.Same.{same_world}
use Rattle.losing_runs.proofs.same_world_stands.Goals as goal

pub returns : goal.returns
returns c = same_world

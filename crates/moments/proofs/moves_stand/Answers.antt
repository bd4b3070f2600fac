use Rattle.moments.proofs.Theorems.{runs_are_moves}
use Rattle.moments.proofs.moves_stand.Goals as goal

pub returns : goal.returns
returns c = runs_are_moves

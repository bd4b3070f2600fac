use Rattle.counting.proofs.Lowest.{found_is_least}
use Rattle.counting.proofs.found_is_least_stands.Goals as goal

pub returns : goal.returns
returns c = found_is_least

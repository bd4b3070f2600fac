use Rattle.moments.proofs.Theorems.{passed_once, not_again}
use Rattle.moments.proofs.passed_once_stands.Goals as goal

pub returns : goal.returns
returns c = record { stays = passed_once; refused = not_again }

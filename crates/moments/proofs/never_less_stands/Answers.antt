use Rattle.moments.proofs.Theorems.{never_less, passed_on_pays, paid_known}
use Rattle.moments.proofs.never_less_stands.Goals as goal

pub returns : goal.returns
returns c = record { plain = never_less; harder = passed_on_pays; known = paid_known }

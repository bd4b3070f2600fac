use Rattle.moments.proofs.Theorems.{two_at_most, own_number}
use Rattle.moments.proofs.two_at_most_stands.Goals as goal

pub returns : goal.returns
returns c = record { two = two_at_most; place = own_number }

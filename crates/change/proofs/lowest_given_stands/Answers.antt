use Rattle.change.proofs.Lowest.{lowest_given, none_applies}
use Rattle.change.proofs.lowest_given_stands.Goals as goal

pub returns : goal.returns
returns c = record { lowest = lowest_given; none = none_applies }

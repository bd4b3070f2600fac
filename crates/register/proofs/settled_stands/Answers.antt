use Rattle.register.proofs.Laws.{settled_for_good, stays_settled}
use Rattle.register.proofs.settled_stands.Goals as goal

pub returns : goal.returns
returns c = record { payout = settled_for_good; settled = stays_settled }

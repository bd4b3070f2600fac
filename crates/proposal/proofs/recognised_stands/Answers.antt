use Rattle.proposal.proofs.Meanings.{recognised_is_meant, none_overlooked}
use Rattle.proposal.proofs.recognised_stands.Goals as goal

pub returns : goal.returns
returns c = record { meant = recognised_is_meant; complete = none_overlooked }

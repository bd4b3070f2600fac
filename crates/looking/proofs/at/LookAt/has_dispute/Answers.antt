use Rattle.std.proofs.Common.{rules, true}
use Rattle.looking.proofs.at.LookAt.has_dispute.Goals as goal

pub returns : goal.returns
returns c = c.any_dispute.ensures (λ number until. true) (λ number until r k. search rules)

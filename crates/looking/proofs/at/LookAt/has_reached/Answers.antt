use Rattle.std.proofs.Common.{rules, nat_le}
use Rattle.looking.proofs.at.LookAt.has_reached.Goals as goal

pub returns : goal.returns
returns c = c.any_dispute.ensures (λ number until. nat_le c.args.least number) (λ number until r k. search rules)

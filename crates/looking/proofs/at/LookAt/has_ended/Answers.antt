use Rattle.std.proofs.Common.{rules, nat_le}
use Rattle.looking.proofs.at.LookAt.has_ended.Goals as goal

pub returns : goal.returns
returns c = c.any_dispute.ensures (λ number until. nat_le until c.args.self.now.tick) (λ number until r k. search rules)

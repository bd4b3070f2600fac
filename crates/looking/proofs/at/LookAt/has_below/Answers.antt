use Rattle.std.proofs.Common.{rules, nat_lt, ◌&&◌}
use Rattle.looking.proofs.at.LookAt.has_below.Goals as goal

pub returns : goal.returns
returns c = c.any_dispute.ensures (λ number until. nat_lt c.args.self.now.tick until && nat_lt number c.args.held) (λ number until r k. search rules)

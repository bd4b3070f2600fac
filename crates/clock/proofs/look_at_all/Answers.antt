use Rattle.std.proofs.Common.{rules, ◌∙◌, ap}
use Rattle.node_state.specs.Nodes.{state_of, with_accounts}
use Rattle.clock.specs.Clocks.{looked_at}
use Rattle.clock.proofs.Rounds.{each_is_map}
use Rattle.clock.proofs.look_at_all.Goals as goal

pub returns : goal.returns
returns c =
    c.change_each.ensures (λ i a. looked_at c.args.tick a) (λ i a b k. search rules)
    ∙ ap (with_accounts (state_of c.args.node.now)) (each_is_map (looked_at c.args.tick) 0 (state_of c.args.node.now).accounts)

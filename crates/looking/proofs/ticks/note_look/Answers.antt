use Rattle.std.proofs.Common.{rules, ap, ◌∙◌}
use Rattle.node_state.specs.Nodes.{state_of, with_accounts}
use Rattle.looking.specs.Looking.{looked_of, each_from}
use Rattle.looking.proofs.Rounds.{same_each}
use Rattle.looking.proofs.ticks.note_look.Goals as goal

pub returns : goal.returns
returns c =
    let n = state_of c.args.node.now in
    c.change_each.ensures (looked_of c.terms-delay.result.delay c.args.tick c.args.shown.now) (λ i a b k. search rules)
    ∙ ap (with_accounts n) (same_each (looked_of c.terms-delay.result.delay c.args.tick c.args.shown.now) 0 n.accounts)
    ∙ ap (λ t. with_accounts n (each_from (looked_of t.delay c.args.tick c.args.shown.now) 0 n.accounts)) c.terms-delay.ensures

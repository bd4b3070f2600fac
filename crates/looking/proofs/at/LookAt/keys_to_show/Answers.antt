use Rattle.std.proofs.Common.{[], refl, ap, ◌∙◌}
use Rattle.account.specs.Accounts.{standing_of}
use Rattle.node_state.specs.Nodes.{state_of}
use Rattle.looking.specs.Looking.{ins_of}
use Rattle.looking.proofs.Gatherings.{all_shown}
use Rattle.looking.proofs.at.LookAt.keys_to_show.Goals as goal

pub returns-in_default : goal.returns-in_default
returns-in_default c =
    let look = c.args.self.now in
    all_shown (state_of c.args.node.now) look.tick look.i look.shown.now (standing_of c.args.account.now) _ _ _ _ _ _ []
    c.new-keys.ensures c.terms.ensures c.near_below-below.ensures c.ins.ensures.value (ap ins_of c.in_default.ensures) c.gather.ensures.value refl

pub returns : goal.returns
returns c =
    let look = c.args.self.now in
    all_shown (state_of c.args.node.now) look.tick look.i look.shown.now (standing_of c.args.account.now) _ _ _ _ _ _ _
    c.new-keys.ensures c.terms.ensures c.near_below-below.ensures c.ins.ensures.value (c.ins-2.ensures.value ∙ ap ins_of c.in-Some.ensures) c.gather.ensures.value c.gather-2.ensures.value

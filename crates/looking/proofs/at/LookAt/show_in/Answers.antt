use Rattle.std.proofs.Common.{◌∙◌}
use Rattle.account.specs.Accounts.{standing_of}
use Rattle.node_state.specs.Nodes.{state_of}
use Rattle.looking.proofs.Doing.{did_failed}
use Rattle.looking.proofs.Showings.{sheet_failed, keys_failed, shown_both}
use Rattle.looking.proofs.at.LookAt.show_in.Goals as goal

pub returns-in_err-show_held : goal.returns-in_err-show_held
returns-in_err-show_held g c =
    let look = c.args.self.now in
    did_failed _ _ _ c.from_residual.result c.from_residual.ensures.0
    (sheet_failed (state_of c.args.node.now) look.tick look.shown.now look.i (standing_of c.args.account.now) look.delay c.requires _ _ c.in_err-show_held.ensures)

pub returns-in_err-show_keys : goal.returns-in_err-show_keys
returns-in_err-show_keys g c =
    let look = c.args.self.now in
    did_failed _ _ _ c.from_residual-in_err-show_keys.result c.from_residual-in_err-show_keys.ensures.0
    (keys_failed (state_of c.args.node.now) look.tick look.shown.now look.i (standing_of c.args.account.now) look.delay c.requires _ _ c.in_ok-show_held.ensures c.as_slice.result.now (c.as_slice.ensures.value ∙ c.keys_to_show-keys.ensures) _ c.in_err-show_keys.ensures)

pub returns : goal.returns
returns g c =
    let look = c.args.self.now in
    shown_both (state_of c.args.node.now) look.tick look.shown.now look.i (standing_of c.args.account.now) look.delay c.requires _ _ c.in_ok-show_held.ensures c.as_slice.result.now (c.as_slice.ensures.value ∙ c.keys_to_show-keys.ensures) _ c.in_ok-show_keys.ensures

use Rattle.std.proofs.Common.{sym}
use Rattle.node_state.specs.Nodes.{state_of}
use Rattle.looking.proofs.Doing.{did_failed}
use Rattle.looking.proofs.Showings.{account_more, account_failed, accounts_done}
use Rattle.looking.proofs.showing.show_all.Goals as goal

pub returns-in_err-show_in : goal.returns-in_err-show_in
returns-in_err-show_in g c =
    did_failed _ _ _ c.from_residual.result c.from_residual.ensures.0
    (account_failed (state_of c.args.node.now) c.args.tick c.args.shown.now c.loop-i.i _ _ _ c.accounts-account-items.result.now c.accounts-account-items.ensures.value c.account-item.result c.loop-i-test.true (sym c.account-item.is) c.loop-i.invariant _ c.in_err-show_in.ensures)

pub loop-i-preserved : goal.loop-i-preserved
loop-i-preserved g c =
    account_more (state_of c.args.node.now) c.args.tick c.args.shown.now c.loop-i.i _ _ _ c.accounts-account-items.result.now c.accounts-account-items.ensures.value c.account-item.result c.loop-i-test.true (sym c.account-item.is) c.loop-i.invariant _ c.in_ok-show_in.ensures

pub returns : goal.returns
returns g c =
    accounts_done (state_of c.args.node.now) c.args.tick c.args.shown.now c.loop-i.i _ _ _ c.accounts-account-items.result.now c.accounts-account-items.ensures.value c.loop-i-test.false c.loop-i.invariant

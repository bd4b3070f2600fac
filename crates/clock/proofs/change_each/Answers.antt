use Rattle.std.proofs.Common.{ap, ◌∙◌, arith}
use Rattle.account.specs.Accounts.{standing_of}
use Rattle.node_state.specs.Nodes.{state_of, with_accounts}
use Rattle.clock.proofs.Rounds.{account_changed, changed_all}
use Rattle.clock.proofs.change_each.Goals as goal

pub loop-i-preserved : goal.loop-i-preserved
loop-i-preserved g c =
    λ meaning means.
    account_changed meaning (state_of c.args.node.now) (state_of c.loop-i.node) (state_of c.put.new.self) c.loop-i.i (standing_of c.account-account.result) (standing_of c.change-after.result) (omega arith) (c.loop-i.invariant meaning means) c.account-account.ensures (means _ _ _ c.change-after.ensures) c.put.ensures

pub returns : goal.returns
returns g c =
    λ meaning means.
    c.loop-i.invariant meaning means
    ∙ ap (with_accounts (state_of c.args.node.now)) (changed_all meaning (state_of c.args.node.now).accounts c.loop-i.i (omega arith))

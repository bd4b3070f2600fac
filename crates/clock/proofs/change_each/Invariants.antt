use Rattle.std.proofs.Common.{◌≡◌, ℕ}
use Rattle.account.specs.declared.types.Account.{Account}
use Rattle.account.specs.Accounts.{Standing, standing_of}
use Rattle.node_state.specs.Nodes.{state_of, with_accounts}
use Rattle.clock.proofs.Rounds.{changed_to}
use Rattle.clock.proofs.change_each.Given as goal

abbrev pub invariant-loop-i : goal.invariant-loop-i
invariant-loop-i g l =
    (meaning : ℕ → Standing → Standing) → ((i : ℕ) (a : _) (b : Account) → goal.F-post g l.change i a b → standing_of b ≡ meaning i (standing_of a.now)) → state_of l.node ≡ with_accounts (state_of l.initial.node) (changed_to meaning (state_of l.initial.node).accounts l.i)

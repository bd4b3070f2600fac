-- What the node keeps, and how that changes. Assumes nothing.
use Rattle.std.specs.Prelude.{ℕ, Bool, true, false, cond, ◌||◌, List, [], ◌∷◌, ◌++◌, map, length, None, Option, nat_lt, slice_index_or, slice_set}
use Rattle.sheet.specs.declared.types.Payment.{Payment}
use Rattle.sheet.specs.Contents.{Content, first_of}
use Rattle.account.specs.Accounts.{Standing, standing_of, opened_of, on_either}
use Rattle.lockmap.specs.Maps.{lookup, with_at}
use Rattle.schedule.specs.declared.types.Terms.{Terms}
use Rattle.node_state.specs.declared.types.Route.{Route}
use Rattle.node_state.specs.declared.node.Node.{Node}

-- `key_of lock`: the key of a lock, if the node has it; `route_of lock`: from where to where the lock was passed on, if it was.
pub record NodeState : Type 0 where
  pub terms : Terms
  pub accounts : List Standing
  pub key_of : List ℕ → Option (List ℕ)
  pub route_of : List ℕ → Option Route

-- What the fields of a node mean.
abbrev pub state_of : Node → NodeState
state_of n =
    record { terms = n.terms; accounts = map standing_of n.accounts.items; key_of = lookup n.keys; route_of = lookup n.routes }

-- The account with a number; of no matter where there is none.
abbrev pub account_at : NodeState → ℕ → Standing
account_at n i = slice_index_or n.accounts i (opened_of (first_of 0 0 0))

-- The node with other accounts; with one account, where there is one of that number, that is this from now on.
abbrev pub with_accounts : NodeState → List Standing → NodeState
with_accounts n list = record { terms = n.terms; accounts = list; key_of = n.key_of; route_of = n.route_of }

abbrev pub with_account : NodeState → ℕ → Standing → NodeState
with_account n i a = with_accounts n (slice_set n.accounts i a)

-- A node with no accounts, which knows nothing yet.
abbrev pub empty_of : Terms → NodeState
empty_of terms = record { terms = terms; accounts = []; key_of = λ l. None; route_of = λ l. None }

-- One account more, with its two deposits, where there are fewer than 16; else no change.
abbrev pub with_opened : NodeState → (own theirs : ℕ) → Bool × NodeState
with_opened n own theirs =
    cond (nat_lt (length n.accounts) 16)
    (true, with_accounts n (n.accounts ++ opened_of (first_of (length n.accounts) own theirs) ∷ [])) (false, n)

-- What is known of one lock more.
abbrev pub with_key : NodeState → (lock key : List ℕ) → NodeState
with_key n lock key = record { terms = n.terms; accounts = n.accounts; key_of = with_at n.key_of lock key; route_of = n.route_of }

abbrev pub with_route : NodeState → List ℕ → Route → NodeState
with_route n lock route = record { terms = n.terms; accounts = n.accounts; key_of = n.key_of; route_of = with_at n.route_of lock route }

-- Does a sheet that may count, of any account, have an in, or an out, with the lock.
abbrev pub any_has : (Content → List Payment) → List Standing → List ℕ → Bool
any_has side [] lock = false
any_has side (a ∷ others) lock = on_either side a lock || any_has side others lock

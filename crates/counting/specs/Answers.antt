-- What the function answers. Assumes nothing.
use Rattle.std.specs.Prelude.{◌≡◌, ℕ, ◌<◌, true, false, List, length, pos, ◌-ℤ◌, Some, None, Ok, Err, Option, Result}
use Rattle.node_state.specs.Nodes.{NodeState, account_at}
use Rattle.counting.specs.declared.types.Count.{Count}
use Rattle.counting.specs.declared.types.Disorder.{Disorder}
use Rattle.counting.specs.Deposits.{deposits_of}
use Rattle.counting.specs.Outcomes.{IsLeast}
use Rattle.counting.specs.Orders.{is_orderly, Orderly}
use Rattle.counting.specs.Leasts.{least_of}

-- This is the first account whose sheets are not in order.
abbrev pub FirstDisorder : NodeState → ℕ → Type 0
FirstDisorder n k = (k < length n.accounts) × (is_orderly (account_at n k) ≡ false) × ((j : ℕ) → j < k → is_orderly (account_at n j) ≡ true)

abbrev pub Searched : NodeState → Option ℕ → Type 0
Searched n None = Orderly n
Searched n (Some k) = FirstDisorder n k

-- The least where all sheets are in order, else the first account where they aren't.
abbrev pub Counted : NodeState → Result ℕ Disorder → Type 0
Counted n (Ok least) = Orderly n × (least ≡ least_of n) × IsLeast n least
Counted n (Err e) = FirstDisorder n e.account

-- The same beside the deposits, with the difference as a signed number.
abbrev pub Compared : NodeState → List ℕ → Result Count Disorder → Type 0
Compared n bytes (Ok c) = Counted n (Ok c.least) × (c.deposits ≡ deposits_of n bytes) × (c.difference ≡ pos c.least -ℤ pos c.deposits)
Compared n bytes (Err e) = Counted n (Err e)

-- What a look at a tick does to the clock of each account. Assumes nothing.
use Rattle.std.specs.Prelude.{ℕ, ◌+◌, Bool, false, cond, ◌||◌, List, [], ◌∷◌, map, Some, None, Ok, Err, Option, Result, nat_lt}
use Rattle.refusal.specs.declared.Refusal.{Refusal}
use Rattle.refusal.specs.declared.Refusal.TheVariants.{Unreadable}
use Rattle.account.specs.Accounts.{Standing}
use Rattle.node_state.specs.Nodes.{NodeState, with_accounts}

-- The account has been looked at, at this tick.
abbrev pub looked_at : ℕ → Standing → Standing
looked_at tick a = record { held = a.held; next = a.next; looked = Some tick; disputed = a.disputed; sent = a.sent }

-- Each account with its number, from i up, changed in one way.
abbrev pub each_from : (ℕ → Standing → Standing) → ℕ → List Standing → List Standing
each_from f i [] = []
each_from f i (a ∷ others) = f i a ∷ each_from f (i + 1) others

-- The last look was later than the tick.
abbrev pub is_later : Option ℕ → ℕ → Bool
is_later None tick = false
is_later (Some last) tick = nat_lt tick last

abbrev pub any_later : List Standing → ℕ → Bool
any_later [] tick = false
any_later (a ∷ others) tick = is_later a.looked tick || any_later others tick

-- A look at a tick before the last one is refused; else every account has been looked at.
abbrev pub ticked : NodeState → ℕ → Result (Unit {0}) Refusal × NodeState
ticked n tick = cond (any_later n.accounts tick) (Err Unreadable, n) (Ok tt, with_accounts n (map (looked_at tick) n.accounts))

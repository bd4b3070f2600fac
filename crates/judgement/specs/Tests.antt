-- What the rules ask of the node before it signs. Assumes nothing.
use Rattle.std.specs.Prelude.{ℕ, ◌+◌, Bool, false, cond, ◌||◌, List, length, is_some, Some, None, Ok, Err, Option, Result, nat_le, nat_lt}
use Rattle.std.specs.Option.{unwrap_or}
use Rattle.refusal.specs.Number.{number_of}
use Rattle.refusal.specs.declared.Refusal.{Refusal}
use Rattle.sheet.specs.declared.types.Payment.{Payment}
use Rattle.sheet.specs.Contents.{Content}
use Rattle.account.specs.Accounts.{Standing, is_frozen, on_either}
use Rattle.node_state.specs.declared.types.Route.{Route}
use Rattle.node_state.specs.Nodes.{NodeState, account_at, any_has}

-- The sheet that would be signed, with one refusal more that applies or not: the lowest number is given.
abbrev pub lower : Refusal → Result Content Refusal → Result Content Refusal
lower e (Ok s) = Err e
lower e (Err f) = Err (cond (nat_le (number_of f) (number_of e)) f e)

abbrev pub unless : Bool → Refusal → Result Content Refusal → Result Content Refusal
unless applies e r = cond applies (lower e r) r

-- No such account, or the node signs nothing there now.
abbrev pub is_shut : NodeState → ℕ → Bool
is_shut n i = nat_le (length n.accounts) i || is_frozen (account_at n i)

-- The account that a message comes for is shut, or the sender's number for it is none.
abbrev pub is_closed : NodeState → ℕ → (accountByte : ℕ) → Bool
is_closed n i accountByte = is_shut n i || nat_lt 15 accountByte

abbrev pub is_under_way : Standing → Bool
is_under_way a = is_some a.next

abbrev pub has_key : NodeState → List ℕ → Bool
has_key n lock = is_some (n.key_of lock)

-- A lock can't be offered that is in an in of a sheet that may count, of any account, or was passed on.
abbrev pub used_in : NodeState → List ℕ → Bool
used_in n lock = any_has (λ s. s.ins) n.accounts lock || is_some (n.route_of lock)

-- A lock can't be passed on that was passed on, or is in an out of a sheet that may count, of any account.
abbrev pub used_out : NodeState → List ℕ → Bool
used_out n lock = any_has (λ s. s.outs) n.accounts lock || is_some (n.route_of lock)

-- The tick of the last look at an account.
abbrev pub looked_at : Standing → ℕ
looked_at a = unwrap_or a.looked 0

-- The ends of an in and of the out p for it are too close, or one is past.
abbrev pub too_near : (gap : ℕ) → (from to : Standing) → (incoming p : Payment) → Bool
too_near gap from to incoming p =
    nat_lt incoming.end (p.end + gap) || nat_lt incoming.end (looked_at from) || nat_lt p.end (looked_at to)

-- An out for the in may still come to count: its lock was passed on, and a sheet that may count there has the out.
abbrev pub out_stands : NodeState → List ℕ → Option Route → Bool
out_stands n lock None = false
out_stands n lock (Some r) = on_either (λ s. s.outs) (account_at n r.to) lock

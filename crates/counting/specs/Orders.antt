-- Which of an account's two sheets is never worth more than the other, whichever keys are shown. Assumes nothing.
use Rattle.std.specs.Prelude.{◌≡◌, ℕ, ◌+◌, ◌-◌, ◌<◌, Bool, true, cond, ◌&&◌, ◌||◌, List, [], ◌∷◌, length, Some, None, Option, ◌==◌, nat_le}
use Rattle.sheet.specs.declared.types.Payment.{Payment}
use Rattle.sheet.specs.Contents.{Content}
use Rattle.account.specs.Accounts.{Standing}
use Rattle.change.specs.Totals.{amounts}
use Rattle.proposal.specs.Sames.{same_payment}
use Rattle.node_state.specs.Nodes.{NodeState, account_at}

-- What is left of xs where each payment of ys, in order, takes away the first that is left, if it is the same.
abbrev pub matched : List Payment → Payment → List Payment
matched [] y = []
matched (x ∷ xs) y = cond (same_payment x y) xs (x ∷ xs)

abbrev pub left_of : List Payment → List Payment → List Payment
left_of xs [] = xs
left_of xs (y ∷ ys) = left_of (matched xs y) ys

-- The payments of xs stand among those of ys, in the same order.
abbrev pub is_part : List Payment → List Payment → Bool
is_part xs ys = length (left_of xs ys) == 0

-- One list is the other with payments added or taken off.
abbrev pub is_beside : List Payment → List Payment → Bool
is_beside xs ys = is_part xs ys || is_part ys xs

-- Own of x, with all that its payments have more than those of y, is at most own of y.
abbrev pub is_below : Content → Content → Bool
is_below x y = nat_le (x.own + (amounts x.ins - amounts y.ins) + (amounts x.outs - amounts y.outs)) y.own

-- The two sheets of an account are in order: they differ by payments added or taken off, and one of the two is never worth
-- more. Each of the six changes makes such a next.
abbrev pub in_order : Content → Option Content → Bool
in_order held None = true
in_order held (Some s) = (is_beside held.ins s.ins && is_beside held.outs s.outs) && (is_below s held || is_below held s)

abbrev pub is_orderly : Standing → Bool
is_orderly a = in_order a.held a.next

abbrev pub Orderly : NodeState → Type 0
Orderly n = (k : ℕ) → k < length n.accounts → is_orderly (account_at n k) ≡ true

-- The sheet that is worth no more than the other.
abbrev pub lesser_of : Content → Option Content → Content
lesser_of held None = held
lesser_of held (Some s) = cond (is_below s held) s held

abbrev pub lesser : Standing → Content
lesser a = lesser_of a.held a.next

-- The money of an account stays the same. Assumes nothing.
use Rattle.std.specs.Prelude.{◌≡◌, ℕ, ◌+◌, List, Ok, sum_by}
use Rattle.sheet.specs.declared.types.Payment.{Payment}
use Rattle.sheet.specs.Contents.{Content}
use Rattle.change.specs.declared.types.Change.{Change}
use Rattle.change.specs.Changes.{changed}
use Rattle.change.specs.Follows.{Next}

-- What the payments of a list amount to.
abbrev pub amounts : List Payment → ℕ
amounts ps = sum_by (λ p. p.amount) ps

-- All the money of an account: both sides' own, and what the payments hold.
abbrev pub total_of : Content → ℕ
total_of s = s.own + s.theirs + amounts s.ins + amounts s.outs

-- Each change gives a next sheet of the account with the same total.
abbrev pub KeepsTotal : Type 0
KeepsTotal = (s : Content) (c : Change) (p : Payment) (t : Content) → changed s c p ≡ Ok t → (total_of t ≡ total_of s) × Next s t

-- Which refusals apply to a change, and that the one with the lowest number is given. Assumes nothing.
use Rattle.std.specs.Prelude.{◌≡◌, ℕ, ◌-◌, ◌<◌, ◌≤◌, ◌⊎◌, List, length, Ok, Err}
use Rattle.std.specs.List.{ContainsAt as Has}
use Rattle.refusal.specs.declared.Refusal.{Refusal}
use Rattle.refusal.specs.declared.Refusal.TheVariants.{Mismatch, LockUsed, NotCovered, TooLarge}
use Rattle.refusal.specs.Number.{number_of}
use Rattle.sheet.specs.declared.types.Payment.{Payment}
use Rattle.sheet.specs.Contents.{Content}
use Rattle.change.specs.declared.types.Change.{Change}
use Rattle.change.specs.declared.types.Change.TheVariants.{Offered, PassingOn, Paying, Getting, Returned, GivingUp}
use Rattle.change.specs.Changes.{most, changed}
use Rattle.change.specs.Follows.{NotAmong, TakenOff}

-- Some payment of the list has the lock.
abbrev pub Among : List ℕ → List Payment → Type 0
Among lock ps = (q : Payment) × Has ps q × (q.lock ≡ lock)

-- The next sheet's number, or one of these amounts, would be above the largest.
abbrev pub Beyond : Content → (a b : ℕ) → Type 0
Beyond s a b = (most ≤ s.number) ⊎ ((most < a) ⊎ (most < b))

-- Why a payment can't be added to a list, out of `from`; `other` is the amount that stays as it is.
pub data CannotAdd (s : Content) (p : Payment) (ps : List Payment) (from other : ℕ) : Refusal → Type 0 where
  stands_already : Among p.lock ps → CannotAdd s p ps from other LockUsed
  not_covered : from < p.amount → CannotAdd s p ps from other NotCovered
  no_room : 32 ≤ length ps → CannotAdd s p ps from other NotCovered
  too_large : Beyond s (from - p.amount) other → CannotAdd s p ps from other TooLarge

-- Why a payment with the lock can't be taken off a list, to `to`; `other` is the amount that stays as it is.
pub data CannotTakeOff (s : Content) (lock : List ℕ) (ps : List Payment) (to other : ℕ) : Refusal → Type 0 where
  not_there : NotAmong lock ps → CannotTakeOff s lock ps to other Mismatch
  large_already : Beyond s to other → CannotTakeOff s lock ps to other TooLarge
  sum_too_large : (qs : List Payment) (more : ℕ) → TakenOff lock ps qs to more → most < more → CannotTakeOff s lock ps to other TooLarge

-- The refusals that apply to a change; no others do.
abbrev pub Applies : Content → Change → Payment → Refusal → Type 0
Applies s Offered p e = CannotAdd s p s.ins s.theirs s.own e
Applies s PassingOn p e = CannotAdd s p s.outs s.own s.theirs e
Applies s Paying p e = CannotTakeOff s p.lock s.outs s.theirs s.own e
Applies s Getting p e = CannotTakeOff s p.lock s.ins s.own s.theirs e
Applies s Returned p e = CannotTakeOff s p.lock s.outs s.own s.theirs e
Applies s GivingUp p e = CannotTakeOff s p.lock s.ins s.theirs s.own e

-- A refusal that is given applies, and none with a lower number does.
abbrev pub LowestGiven : Type 0
LowestGiven = (s : Content) (c : Change) (p : Payment) (e : Refusal) → changed s c p ≡ Err e → Applies s c p e × ((f : Refusal) → Applies s c p f → number_of e ≤ number_of f)

-- Where a sheet is given, no refusal applies.
abbrev pub NoneApplies : Type 0
NoneApplies = (s : Content) (c : Change) (p : Payment) (t : Content) → changed s c p ≡ Ok t → (f : Refusal) → Applies s c p f → ⊥

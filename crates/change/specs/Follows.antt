-- What each of the six changes does, in the words of the rules: the sheets that follow a sheet. Assumes nothing.
use Rattle.std.specs.Prelude.{◌≡◌, ℕ, ◌+◌, ◌<◌, ◌≤◌, List, ◌∷◌, ◌++◌, length, Ok, ◌≢◌}
use Rattle.std.specs.List.{AllByRecursion}
use Rattle.sheet.specs.declared.types.Payment.{Payment}
use Rattle.sheet.specs.Contents.{Content}
use Rattle.change.specs.declared.types.Change.{Change}
use Rattle.change.specs.declared.types.Change.TheVariants.{Offered, PassingOn, Paying, Getting, Returned, GivingUp}
use Rattle.change.specs.Changes.{most, changed}

-- No payment of the list has the lock.
abbrev pub NotAmong : List ℕ → List Payment → Type 0
NotAmong lock ps = AllByRecursion (λ q. q.lock ≢ lock) ps

-- The payment comes first, before the others, and its amount is taken out of `from`, which leaves `left`.
pub record AddedTo (p : Payment) (ps qs : List Payment) (from left : ℕ) : Type 0 where
  pub new : NotAmong p.lock ps
  pub room : length ps < 32
  pub list : qs ≡ p ∷ ps
  pub covered : left + p.amount ≡ from

-- The first payment with the lock is gone, the others keep their order, and its amount goes to `to`, which makes `more`.
pub record TakenOff (lock : List ℕ) (ps qs : List Payment) (to more : ℕ) : Type 0 where
  pub payment : Payment
  pub front : List Payment
  pub back : List Payment
  pub stands : ps ≡ front ++ payment ∷ back
  pub has : payment.lock ≡ lock
  pub first : NotAmong lock front
  pub others : qs ≡ front ++ back
  pub gets : more ≡ to + payment.amount

-- The next sheet of the same account. No number on it is above the largest.
pub record Next (s t : Content) : Type 0 where
  pub account : t.account ≡ s.account
  pub number : t.number ≡ s.number + 1
  pub number_fits : t.number ≤ most
  pub own_fits : t.own ≤ most
  pub theirs_fits : t.theirs ≤ most

-- With this change and this payment, t follows s. Of a payment that is taken off only the lock counts.
abbrev pub Follows : Content → Change → Payment → Content → Type 0
Follows s Offered p t = Next s t × AddedTo p s.ins t.ins s.theirs t.theirs × (t.own ≡ s.own) × (t.outs ≡ s.outs)
Follows s PassingOn p t = Next s t × AddedTo p s.outs t.outs s.own t.own × (t.theirs ≡ s.theirs) × (t.ins ≡ s.ins)
Follows s Paying p t = Next s t × TakenOff p.lock s.outs t.outs s.theirs t.theirs × (t.own ≡ s.own) × (t.ins ≡ s.ins)
Follows s Getting p t = Next s t × TakenOff p.lock s.ins t.ins s.own t.own × (t.theirs ≡ s.theirs) × (t.outs ≡ s.outs)
Follows s Returned p t = Next s t × TakenOff p.lock s.outs t.outs s.own t.own × (t.theirs ≡ s.theirs) × (t.ins ≡ s.ins)
Follows s GivingUp p t = Next s t × TakenOff p.lock s.ins t.ins s.theirs t.theirs × (t.own ≡ s.own) × (t.outs ≡ s.outs)

-- What is computed is just that: the sheet that follows, where there is one.
abbrev pub SameChange : Type 0
SameChange = (s : Content) (c : Change) (p : Payment) (t : Content) → (changed s c p ≡ Ok t → Follows s c p t) × (Follows s c p t → changed s c p ≡ Ok t)

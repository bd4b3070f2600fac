-- What a recognised proposal says of the two sheets, and that none is overlooked. Assumes nothing.
use Rattle.std.specs.Prelude.{◌≡◌, ℕ, ◌+◌, ◌⊎◌, List, ◌∷◌, Some, Ok, Err}
use Rattle.refusal.specs.declared.Refusal.{Refusal}
use Rattle.sheet.specs.declared.types.Payment.{Payment}
use Rattle.sheet.specs.Contents.{Content, found}
use Rattle.change.specs.declared.types.Change.{Change}
use Rattle.change.specs.declared.types.Change.TheVariants.{Offered, PassingOn, Paying, Getting, Returned, GivingUp}
use Rattle.change.specs.Changes.{changed}
use Rattle.change.specs.Reasons.{Applies}
use Rattle.proposal.specs.Proposals.{proposal_of}

-- The proposed sheet t is s with p before its ins, and is what the change gives, unless a refusal applies.
pub record OfferMeant (s t : Content) (p : Payment) : Type 0 where
  pub ins : t.ins ≡ p ∷ s.ins
  pub outs : t.outs ≡ s.outs
  pub own : t.own ≡ s.own
  pub account : t.account ≡ s.account
  pub number : t.number ≡ s.number + 1
  pub result : (changed s Offered p ≡ Ok t) ⊎ ((e : Refusal) × (changed s Offered p ≡ Err e) × Applies s Offered p e)

-- The proposed sheet is what the change gives, and p itself stands on the held list.
abbrev pub RemovalMeant : Content → Content → Change → Payment → List Payment → Type 0
RemovalMeant s t c p list = (changed s c p ≡ Ok t) × (found p.lock list ≡ Some p)

-- What each change that is recognised means. The other three are a node's own, and no neighbour's.
abbrev pub Meant : Content → Content → Change → Payment → Type 0
Meant s t Offered p = OfferMeant s t p
Meant s t Returned p = RemovalMeant s t Returned p s.outs
Meant s t Getting p = RemovalMeant s t Getting p s.ins
Meant s t PassingOn p = ⊥
Meant s t Paying p = ⊥
Meant s t GivingUp p = ⊥

-- Whatever is recognised is meant.
abbrev pub RecognisedIsMeant : Type 0
RecognisedIsMeant = (s t : Content) (c : Change) (p : Payment) → proposal_of s t ≡ Some (record { change = c; payment = p }) → Meant s t c p

-- The change is recognised, with a payment of that lock.
abbrev pub Recognised : Content → Content → Change → List ℕ → Type 0
Recognised s t c lock = (q : Payment) × (q.lock ≡ lock) × (proposal_of s t ≡ Some (record { change = c; payment = q }))

-- A sheet that one of the three changes gives with p is recognised as that.
pub record Recognises (s t : Content) (p : Payment) : Type 0 where
  pub offered : changed s Offered p ≡ Ok t → proposal_of s t ≡ Some (record { change = Offered; payment = p })
  pub returned : changed s Returned p ≡ Ok t → Recognised s t Returned p.lock
  pub getting : changed s Getting p ≡ Ok t → Recognised s t Getting p.lock

-- So None says that none of the three gives the proposed sheet.
abbrev pub NoneOverlooked : Type 0
NoneOverlooked = (s t : Content) (p : Payment) → Recognises s t p

-- Which change a neighbour proposes, from the held sheet and the proposed one. Assumes nothing.
use Rattle.std.specs.Prelude.{◌+◌, ◌-◌, Bool, false, cond, ◌&&◌, ◌||◌, List, [], ◌∷◌, Some, None, Ok, Err, Option, Result, ◌==◌, nat_lt}
use Rattle.std.specs.Option.{option_or}
use Rattle.refusal.specs.declared.Refusal.{Refusal}
use Rattle.sheet.specs.declared.types.Payment.{Payment}
use Rattle.sheet.specs.Contents.{Content}
use Rattle.change.specs.declared.types.Change.{Change}
use Rattle.change.specs.declared.types.Change.TheVariants.{Offered, Getting, Returned}
use Rattle.change.specs.Changes.{changed}
use Rattle.proposal.specs.declared.types.Proposal.{Proposal}
use Rattle.proposal.specs.Sames.{same_payment, same_payments, same_content}

-- The proposed sheet t is the held one, s, with p before its ins: `others` are the proposed ins after p.
-- Where p isn't covered no amount could be right, so what is left of `theirs` is not looked at.
abbrev pub adds_in : Content → Content → Payment → List Payment → Bool
adds_in s t p others =
    same_payments others s.ins
    && same_payments t.outs s.outs
    && t.own == s.own
    && t.account == s.account
    && t.number == s.number + 1
    && (nat_lt s.theirs p.amount || t.theirs == s.theirs - p.amount)

-- An offer of the first of the proposed ins.
abbrev pub offer_of : Content → Content → List Payment → Option Proposal
offer_of s t [] = None
offer_of s t (p ∷ others) = cond (adds_in s t p others) (Some (record { change = Offered; payment = p })) None

-- The first payment that differs from what stands at its place in the other list, or has nothing there.
abbrev pub missing_from : List Payment → List Payment → Option Payment
missing_from [] qs = None
missing_from (p ∷ ps) [] = Some p
missing_from (p ∷ ps) (q ∷ qs) = cond (same_payment p q) (missing_from ps qs) (Some p)

-- Is this sheet given.
abbrev pub gives : Result Content Refusal → Content → Bool
gives (Ok s) t = same_content s t
gives (Err e) t = false

-- A change that takes off what is missing, if that makes t of s.
abbrev pub removal_of : Content → Content → Change → Option Payment → Option Proposal
removal_of s t c None = None
removal_of s t c (Some p) = cond (gives (changed s c p) t) (Some (record { change = c; payment = p })) None

-- The change that makes t of s: an offer, an out that is returned, or an in that is paid.
abbrev pub proposal_of : Content → Content → Option Proposal
proposal_of s t =
    option_or (offer_of s t t.ins)
    (option_or (removal_of s t Returned (missing_from s.outs t.outs))
    (removal_of s t Getting (missing_from s.ins t.ins)))

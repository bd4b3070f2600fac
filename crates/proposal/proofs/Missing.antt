-- The payment that is missing stands after those that are the same in both lists.
use Rattle.std.proofs.Common.{◌≡◌, ℕ, suc, ◌+◌, Bool, true, false, List, [], ◌∷◌, length, Some, None, Option, refl, sym, ap, ◌∙◌, arith}
use denote.Ref.{Bor}
use Rattle.std.specs.Option.{option_map}
use Rattle.std.specs.Slice.{IsItemAt}
use Rattle.std.proofs.lemmas.Option.{slice_get_past, slice_get_read}
use Rattle.std.specs.Prelude.{take_while, zip}
use Rattle.std.specs.List.{prefix_len, slice_get}
use Rattle.std.proofs.lemmas.Bool.{cond-true, cond-false}
use Rattle.std.proofs.lemmas.List.Folds.{length-prefix_len}
use Rattle.sheet.specs.declared.types.Payment.{Payment}
use Rattle.sheet.specs.Contents.{payment_eq}
use Rattle.proposal.specs.Proposals.{missing_from}

abbrev same : Payment × Payment → Bool
same p = payment_eq p.0 p.1

-- past the payments that are the same
past : (p q : Payment) (ps qs : List Payment) (b : Bool) → same (p, q) ≡ b → slice_get ps (prefix_len same (zip ps qs)) ≡ missing_from ps qs → slice_get (p ∷ ps) (prefix_len same (zip (p ∷ ps) (q ∷ qs))) ≡ missing_from (p ∷ ps) (q ∷ qs)
past p q ps qs true e h =
    let n : ℕ = prefix_len same (zip ps qs) in
    let next : 1 + n ≡ suc n = omega arith in
    ap (slice_get (p ∷ ps)) (cond-true (same (p, q)) (1 + n) 0 e ∙ next) ∙ h ∙ sym (cond-true (same (p, q)) (missing_from ps qs) (Some p) e)
past p q ps qs false e h =
    ap (slice_get (p ∷ ps)) (cond-false (same (p, q)) (1 + prefix_len same (zip ps qs)) 0 e) ∙ sym (cond-false (same (p, q)) (missing_from ps qs) (Some p) e)

missing_past : (ps qs : List Payment) → slice_get ps (prefix_len same (zip ps qs)) ≡ missing_from ps qs
missing_past [] qs = refl
missing_past (p ∷ ps) [] = refl
missing_past (p ∷ ps) (q ∷ qs) = past p q ps qs (same (p, q)) refl (missing_past ps qs)

pub missing_told : (r : Option Payment) (ps qs : List Payment) (n : ℕ) → r ≡ slice_get ps n → n ≡ length (take_while same (zip ps qs)) → r ≡ missing_from ps qs
missing_told r ps qs n f e = f ∙ ap (slice_get ps) (e ∙ length-prefix_len same (zip ps qs)) ∙ missing_past ps qs

-- what `get` lends is the element at that place
pub lent : (ps : List Payment) (i : ℕ) (r : Option (Bor Payment)) → IsItemAt ps i r → option_map (λ (x : Bor Payment). x.now) r ≡ slice_get ps i
lent ps i None h = sym (slice_get_past ps i h.3)
lent ps i (Some x) h = sym (slice_get_read ps (length ps) i x.now refl h.3.0 h.1)

-- A payment is taken from among others at the place where a search finds it.
use Rattle.std.proofs.Common.{◌≡◌, ℕ, zero, suc, ◌<◌, ◌≤◌, Bool, true, false, List, [], ◌∷◌, length, get_or, Some, None, ltb, refl, sym, ap, ◌∙◌, arith}
use Rattle.std.specs.List.{position, position_or_len, remove}
use Rattle.std.proofs.lemmas.Bool.{cond-true, cond-false, ltb-false}
use Rattle.std.proofs.lemmas.List.Quantifiers.{position-Some}
use Rattle.std.proofs.lemmas.Option.{none-some}
use Rattle.sheet.specs.declared.types.Payment.{Payment}
use Rattle.sheet.specs.Contents.{is_for, without}

module _ (lock : List ℕ) where
  first_gone : (ps : List Payment) (i : ℕ) (d : Payment) → i < length ps → is_for lock (get_or ps i d) ≡ true → ((k : ℕ) → k < i → is_for lock (get_or ps k d) ≡ false) → remove ps i ≡ without lock ps
  first_gone [] i d h t f = absurd (omega arith)
  first_gone (p ∷ ps) zero d h t f = sym (cond-true (is_for lock p) ps (p ∷ without lock ps) t)
  first_gone (p ∷ ps) (suc i) d h t f =
      ap (λ zs. p ∷ zs) (first_gone ps i d (omega arith) t (λ k l. f (suc k) (omega arith))) ∙ sym (cond-false (is_for lock p) ps (p ∷ without lock ps) (f 0 (omega arith)))

  pub removed_at : (ps : List Payment) (i : ℕ) → position (is_for lock) ps ≡ Some i → (i < length ps) × (remove ps i ≡ without lock ps)
  removed_at ps i e =
      let d : Payment = record { lock = []; amount = 0; end = 0 } in
      let h = position-Some (is_for lock) ps i d e in
      (h.0, first_gone ps i d h.0 h.1 h.2)

  all_stay : (ps : List Payment) → length ps ≤ position_or_len (is_for lock) ps → ps ≡ without lock ps
  all_stay [] h = refl
  all_stay (p ∷ ps) h = by (is_for lock p) refl (all_stay ps)
    where
      by : (b : Bool) → is_for lock p ≡ b → (length ps ≤ position_or_len (is_for lock) ps → ps ≡ without lock ps) → p ∷ ps ≡ without lock (p ∷ ps)
      by true e rest = let k = rw e at h in absurd (omega arith)
      by false e rest = let k = rw e at h in ap (λ zs. p ∷ zs) (rest (omega arith)) ∙ sym (cond-false (is_for lock p) ps (p ∷ without lock ps) e)

  pub removed_nowhere : (ps : List Payment) → position (is_for lock) ps ≡ None → ps ≡ without lock ps
  removed_nowhere ps e = by (ltb (position_or_len (is_for lock) ps) (length ps)) refl
    where
      by : (b : Bool) → ltb (position_or_len (is_for lock) ps) (length ps) ≡ b → ps ≡ without lock ps
      by true f = absurd (none-some _ (sym e ∙ cond-true (ltb (position_or_len (is_for lock) ps) (length ps)) (Some (position_or_len (is_for lock) ps)) None f))
      by false f = all_stay ps (ltb-false _ _ f)

-- Whether a payment with a lock stands in a list, and what is left without it.
use Rattle.std.proofs.Common.{◌≡◌, ℕ, ◌+◌, Bool, true, false, List, [], ◌∷◌, ◌++◌, Some, None, Option, sym, refl, ap, ◌∙◌, arith}
use Rattle.std.proofs.lemmas.Slice.Eq.{bytes_eq-Decides}
use Rattle.std.proofs.lemmas.Bool.Decides.{not_from_Decides}
use Rattle.std.proofs.lemmas.Bool.{cond-true, cond-false}
use Rattle.sheet.specs.declared.types.Payment.{Payment}
use Rattle.sheet.specs.Contents.{is_for, found, without}
use Rattle.change.specs.Follows.{NotAmong, TakenOff}

pub none_some : {X : Type 0} {x : X} → ◌≡◌ {A = Option X} None (Some x) → ⊥
none_some e = let z : ◌≡◌ {A = ℕ} 0 1 = cc in absurd (omega arith)

pub same_some : {X : Type 0} {x y : X} → ◌≡◌ {A = Option X} (Some x) (Some y) → x ≡ y
same_some e = cc

module _ (lock : List ℕ) where
  is_for_lem : (q : Payment) → is_for lock q ≡ true → q.lock ≡ lock
  is_for_lem q e = (bytes_eq-Decides q.lock lock).0 e

  not_for : (q : Payment) → is_for lock q ≡ false → q.lock ≡ lock → ⊥
  not_for q e = not_from_Decides (is_for lock q) (bytes_eq-Decides q.lock lock) e

  for_is : (q : Payment) → q.lock ≡ lock → is_for lock q ≡ true
  for_is q e = (bytes_eq-Decides q.lock lock).1 e

  for_not : (q : Payment) → (q.lock ≡ lock → ⊥) → is_for lock q ≡ false
  for_not q h = by (is_for lock q) refl
    where
      by : (b : Bool) → is_for lock q ≡ b → b ≡ false
      by true e = absurd (h (is_for_lem q e))
      by false e = refl

  pub none_found : (ps : List Payment) → NotAmong lock ps → found lock ps ≡ None
  none_found [] h = refl
  none_found (q ∷ ps) h = cond-false (is_for lock q) (Some q) (found lock ps) (for_not q h.0) ∙ none_found ps h.1

  pub found_none : (ps : List Payment) → found lock ps ≡ None → NotAmong lock ps
  found_none [] e = tt
  found_none (q ∷ ps) e = by (is_for lock q) refl (λ g. found_none ps g)
    where
      by : (b : Bool) → is_for lock q ≡ b → (found lock ps ≡ None → NotAmong lock ps) → NotAmong lock (q ∷ ps)
      by true f rest = absurd (none_some (sym e ∙ cond-true (is_for lock q) (Some q) (found lock ps) f))
      by false f rest = (not_for q f, rest (sym (cond-false (is_for lock q) (Some q) (found lock ps) f) ∙ e))

  -- what is found is taken off
  found_taken : (ps : List Payment) (x : Payment) (to : ℕ) → found lock ps ≡ Some x → TakenOff lock ps (without lock ps) to (to + x.amount)
  found_taken [] x to e = absurd (none_some e)
  found_taken (q ∷ ps) x to e = by (is_for lock q) refl (λ g. found_taken ps x to g)
    where
      by : (b : Bool) → is_for lock q ≡ b → (found lock ps ≡ Some x → TakenOff lock ps (without lock ps) to (to + x.amount)) → TakenOff lock (q ∷ ps) (without lock (q ∷ ps)) to (to + x.amount)
      by true f rest =
          let same : q ≡ x = same_some (sym (cond-true (is_for lock q) (Some q) (found lock ps) f) ∙ e) in
          record {
            payment = q;
            front = [];
            back = ps;
            stands = refl;
            has = is_for_lem q f;
            first = tt;
            others = cond-true (is_for lock q) ps (q ∷ without lock ps) f;
            gets = ap (λ (z : Payment). to + z.amount) (sym same);
          }
      by false f rest =
          let r = rest (sym (cond-false (is_for lock q) (Some q) (found lock ps) f) ∙ e) in
          record {
            payment = r.payment;
            front = q ∷ r.front;
            back = r.back;
            stands = ap (λ zs. q ∷ zs) r.stands;
            has = r.has;
            first = (not_for q f, r.first);
            others = cond-false (is_for lock q) ps (q ∷ without lock ps) f ∙ ap (λ zs. q ∷ zs) r.others;
            gets = r.gets;
          }

  pub taken : (ps qs : List Payment) (x : Payment) (to more : ℕ) → found lock ps ≡ Some x → qs ≡ without lock ps → more ≡ to + x.amount → TakenOff lock ps qs to more
  taken ps qs x to more e f g =
      let r = found_taken ps x to e in
      record {
        payment = r.payment;
        front = r.front;
        back = r.back;
        stands = r.stands;
        has = r.has;
        first = r.first;
        others = f ∙ r.others;
        gets = g ∙ r.gets;
      }

  -- the first payment with the lock is found, and the others are what is left
  past_front : (front back : List Payment) (x : Payment) → NotAmong lock front → x.lock ≡ lock → (found lock (front ++ x ∷ back) ≡ Some x) × (without lock (front ++ x ∷ back) ≡ front ++ back)
  past_front [] back x h e = (cond-true (is_for lock x) (Some x) (found lock back) (for_is x e), cond-true (is_for lock x) back (x ∷ without lock back) (for_is x e))
  past_front (q ∷ front) back x h e =
      let r = past_front front back x h.1 e in
      let f = for_not q h.0 in (
        cond-false (is_for lock q) (Some q) (found lock (front ++ x ∷ back)) f ∙ r.0,
        cond-false (is_for lock q) (front ++ x ∷ back) (q ∷ without lock (front ++ x ∷ back)) f ∙ ap (λ zs. q ∷ zs) r.1,
      )

  pub taken_found : {ps qs : List Payment} {to more : ℕ} (r : TakenOff lock ps qs to more) → found lock ps ≡ Some r.payment
  taken_found r = ap (found lock) r.stands ∙ (past_front r.front r.back r.payment r.first r.has).0

  pub taken_without : {ps qs : List Payment} {to more : ℕ} (r : TakenOff lock ps qs to more) → without lock ps ≡ qs
  taken_without r = ap (without lock) r.stands ∙ (past_front r.front r.back r.payment r.first r.has).1 ∙ sym r.others

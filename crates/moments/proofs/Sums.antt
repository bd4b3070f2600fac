-- Sums over accounts, sums over payments, and what stands in a list.
use Rattle.std.proofs.Common.{◌≡◌, ℕ, zero, suc, ◌+◌, ◌<◌, ◌≤◌, Bool, true, false, cond, eqb, ◌⊎◌, List, [], ◌∷◌, ◌++◌, sym, refl, ap, ◌∙◌, subst, inl, inr, arith}
use Rattle.std.proofs.lemmas.List.Sums.{sum_by-cons, sum_by-append}
use Rattle.std.proofs.lemmas.Bool.{cond-true, cond-false, eqb-true, eqb-false, ne_eqb}
use Rattle.sheet.specs.declared.types.Payment.{Payment}
use Rattle.change.specs.Follows.{NotAmong, TakenOff, AddedTo}
use Rattle.moments.specs.Moments.{Stands, Apart, sum_to, those}

-- sums over accounts
pub sum_mono : (n : ℕ) (f g : ℕ → ℕ) → ((k : ℕ) → k < n → f k ≤ g k) → sum_to n f ≤ sum_to n g
sum_mono zero f g h = omega arith
sum_mono (suc n) f g h = omega (arith, h n (omega arith), sum_mono n f g (λ k l. h k (omega arith)))

-- one account has more
abbrev pub plus : ℕ → ℕ → (ℕ → ℕ) → ℕ → ℕ
plus i a f k = cond (eqb k i) (f k + a) (f k)

sum_plus_past : (n i a : ℕ) (f : ℕ → ℕ) → n ≤ i → sum_to n (plus i a f) ≡ sum_to n f
sum_plus_past zero i a f h = refl
sum_plus_past (suc n) i a f h =
    let here : plus i a f n ≡ f n = cond-false (eqb n i) (f n + a) (f n) (ne_eqb n i (λ e. omega arith)) in
    omega (arith, sum_plus_past n i a f (omega arith))

pub sum_plus : (n i a : ℕ) (f : ℕ → ℕ) → i < n → sum_to n (plus i a f) ≡ sum_to n f + a
sum_plus zero i a f h = absurd (omega arith)
sum_plus (suc n) i a f h = by (eqb n i) refl (λ l. sum_plus n i a f l)
  where
    by : (b : Bool) → eqb n i ≡ b → (i < n → sum_to n (plus i a f) ≡ sum_to n f + a) → sum_to (suc n) (plus i a f) ≡ sum_to (suc n) f + a
    by true e rest =
        let here : plus i a f n ≡ f n + a = cond-true (eqb n i) (f n + a) (f n) e in
        omega (arith, sum_plus_past n i a f (omega (arith, eqb-true n i e)))
    by false e rest =
        let here : plus i a f n ≡ f n = cond-false (eqb n i) (f n + a) (f n) e in
        let ne : n ≡ i → ⊥ = eqb-false n i e in
        omega (arith, rest (omega arith))

-- sums over payments
pub those_cons : (f : List ℕ → Bool) (p : Payment) (ps : List Payment) → those f (p ∷ ps) ≡ cond (f p.lock) p.amount 0 + those f ps
those_cons f p ps = sum_by-cons (λ (q : Payment). cond (f q.lock) q.amount 0) p ps

pub those_mono : (f g : List ℕ → Bool) (ps : List Payment) → ((p : Payment) → Stands p ps → f p.lock ≡ true → g p.lock ≡ true) → those f ps ≤ those g ps
those_mono f g [] h = omega arith
those_mono f g (p ∷ ps) h = by (f p.lock) refl (those_mono f g ps (λ q m. h q (inr m)))
  where
    by : (b : Bool) → f p.lock ≡ b → those f ps ≤ those g ps → those f (p ∷ ps) ≤ those g (p ∷ ps)
    by true e rest =
        let old : cond (f p.lock) p.amount 0 ≡ p.amount = cond-true (f p.lock) p.amount 0 e in
        let new : cond (g p.lock) p.amount 0 ≡ p.amount = cond-true (g p.lock) p.amount 0 (h p (inl refl) e) in
        omega (arith, those_cons f p ps, those_cons g p ps)
    by false e rest =
        let old : cond (f p.lock) p.amount 0 ≡ 0 = cond-false (f p.lock) p.amount 0 e in
        omega (arith, those_cons f p ps, those_cons g p ps)

-- one payment more passes
pub those_gain : (f g : List ℕ → Bool) (ps : List Payment) (x : Payment) → ((p : Payment) → f p.lock ≡ true → g p.lock ≡ true) → Stands x ps → f x.lock ≡ false → g x.lock ≡ true → those f ps + x.amount ≤ those g ps
those_gain f g [] x h m off on = absurd m
those_gain f g (p ∷ ps) x h (inl e) off on =
    let old : cond (f p.lock) p.amount 0 ≡ 0 = cond-false (f p.lock) p.amount 0 (ap (λ (z : Payment). f z.lock) e ∙ off) in
    let new : cond (g p.lock) p.amount 0 ≡ p.amount = cond-true (g p.lock) p.amount 0 (ap (λ (z : Payment). g z.lock) e ∙ on) in
    let same : p.amount ≡ x.amount = ap (λ (z : Payment). z.amount) e in
    omega (arith, those_cons f p ps, those_cons g p ps, those_mono f g ps (λ q _. h q))
those_gain f g (p ∷ ps) x h (inr m) off on =
    let one : those f (p ∷ []) ≤ those g (p ∷ []) = those_mono f g (p ∷ []) (λ q _. h q) in
    omega (arith, those_cons f p ps, those_cons g p ps, those_cons f p [], those_cons g p [], those_gain f g ps x h m off on)

-- a list from which a payment was taken off
pub those_taken : (f : List ℕ → Bool) {lock : List ℕ} {ps qs : List Payment} {to more : ℕ} (r : TakenOff lock ps qs to more) → those f ps ≡ those f qs + cond (f lock) r.payment.amount 0
those_taken f {lock} {ps} {qs} {to} {more} r =
    let g : Payment → ℕ = λ (q : Payment). cond (f q.lock) q.amount 0 in
    let all : those f ps ≡ those f r.front + those f (r.payment ∷ r.back) = ap (those f) r.stands ∙ sum_by-append g r.front (r.payment ∷ r.back) in
    let one : those f (r.payment ∷ r.back) ≡ cond (f r.payment.lock) r.payment.amount 0 + those f r.back = those_cons f r.payment r.back in
    let others : those f qs ≡ those f r.front + those f r.back = ap (those f) r.others ∙ sum_by-append g r.front r.back in
    let same : cond (f r.payment.lock) r.payment.amount 0 ≡ cond (f lock) r.payment.amount 0 = ap (λ (l : List ℕ). cond (f l) r.payment.amount 0) r.has in
    omega arith

-- what stands in a list
pub stands_past : (x y : Payment) (ps qs : List Payment) → Stands x (ps ++ qs) → Stands x (ps ++ y ∷ qs)
stands_past x y [] qs h = inr h
stands_past x y (p ∷ ps) qs (inl e) = inl e
stands_past x y (p ∷ ps) qs (inr h) = inr (stands_past x y ps qs h)

stands_mid : (x : Payment) (ps qs : List Payment) → Stands x (ps ++ x ∷ qs)
stands_mid x [] qs = inl refl
stands_mid x (p ∷ ps) qs = inr (stands_mid x ps qs)

pub taken_stands : {lock : List ℕ} {ps qs : List Payment} {to more : ℕ} (r : TakenOff lock ps qs to more) (x : Payment) → Stands x qs → Stands x ps
taken_stands r x h = subst (λ (zs : List Payment). Stands x zs) (sym r.stands) (stands_past x r.payment r.front r.back (subst (λ (zs : List Payment). Stands x zs) r.others h))

pub taken_stood : {lock : List ℕ} {ps qs : List Payment} {to more : ℕ} (r : TakenOff lock ps qs to more) → Stands r.payment ps
taken_stood r = subst (λ (zs : List Payment). Stands r.payment zs) (sym r.stands) (stands_mid r.payment r.front r.back)

pub not_among : (lock : List ℕ) (ps : List Payment) (x : Payment) → NotAmong lock ps → Stands x ps → x.lock ≡ lock → ⊥
not_among lock [] x h m e = m
not_among lock (p ∷ ps) x h (inl q) e = h.0 (ap (λ (z : Payment). z.lock) q ∙ e)
not_among lock (p ∷ ps) x h (inr m) e = not_among lock ps x h.1 m e

not_among_part : (lock : List ℕ) (y : Payment) (ps qs : List Payment) → NotAmong lock (ps ++ y ∷ qs) → NotAmong lock (ps ++ qs)
not_among_part lock y [] qs h = h.1
not_among_part lock y (p ∷ ps) qs h = (h.0, not_among_part lock y ps qs h.1)

apart_part : (y : Payment) (ps qs : List Payment) → Apart (ps ++ y ∷ qs) → Apart (ps ++ qs)
apart_part y [] qs h = h.1
apart_part y (p ∷ ps) qs h = (not_among_part p.lock y ps qs h.0, apart_part y ps qs h.1)

pub taken_apart : {lock : List ℕ} {ps qs : List Payment} {to more : ℕ} → TakenOff lock ps qs to more → Apart ps → Apart qs
taken_apart r h = subst Apart (sym r.others) (apart_part r.payment r.front r.back (subst Apart r.stands h))

pub added_apart : {p : Payment} {ps qs : List Payment} {from left : ℕ} → AddedTo p ps qs from left → Apart ps → Apart qs
added_apart r h = subst Apart (sym r.list) (r.new, h)

pub added_stands : {p : Payment} {ps qs : List Payment} {from left : ℕ} (r : AddedTo p ps qs from left) (x : Payment) → Stands x qs → Stands x ps ⊎ (x ≡ p)
added_stands {p} {ps} {qs} {from} {left} r x h = by (subst (λ (zs : List Payment). Stands x zs) r.list h)
  where
    by : Stands x (p ∷ ps) → Stands x ps ⊎ (x ≡ p)
    by (inl e) = inr (sym e)
    by (inr m) = inl m

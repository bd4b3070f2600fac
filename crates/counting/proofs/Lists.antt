-- Sums over the payments of sheets, and what one lock has in them.
use Rattle.std.proofs.Common.{◌≡◌, ℕ, zero, suc, ◌+◌, Bool, true, false, cond, not, ◌&&◌, List, [], ◌∷◌, length, get_or, sum_by, sym, refl, ap, ◌∙◌, arith}
use Rattle.std.specs.List.{flat_map}
use Rattle.std.specs.Str.{bytes_eq}
use Rattle.std.proofs.lemmas.List.Sums.{sum_by-cons, sum_by-append}
use Rattle.std.proofs.lemmas.Slice.Eq.{bytes_eq-Decides}
use Rattle.sheet.specs.declared.types.Payment.{Payment}
use Rattle.sheet.specs.Contents.{Content}
use Rattle.moments.specs.Moments.{sum_to, those, worth_by}
use Rattle.moments.proofs.Sums.{those_cons}
use Rattle.counting.specs.Leasts.{with_lock}

-- a sum by place is the sum over the list
sum_first : (n : ℕ) (f : ℕ → ℕ) → sum_to (suc n) f ≡ f 0 + sum_to n (λ k. f (suc k))
sum_first zero f = refl
sum_first (suc n) f = omega (arith, sum_first n f)

pub sum_places : {X : Type 0} (w : X → ℕ) (xs : List X) (d : X) → sum_to (length xs) (λ k. w (get_or xs k d)) ≡ sum_by w xs
sum_places w [] d = refl
sum_places w (x ∷ xs) d = omega (arith, sum_first (length xs) (λ k. w (get_or (x ∷ xs) k d)), sum_places w xs d, sum_by-cons w x xs)

-- all payments of the sheets as one list
pub those_joined : (f : List ℕ → Bool) (side : Content → List Payment) (cs : List Content) → sum_by (λ s. those f (side s)) cs ≡ those f (flat_map side cs)
those_joined f side [] = refl
those_joined f side (c ∷ cs) =
    omega (
      arith,
      sum_by-cons (λ (s : Content). those f (side s)) c cs,
      sum_by-append (λ (p : Payment). cond (f p.lock) p.amount 0) (side c) (flat_map side cs),
      those_joined f side cs,
    )

pub worth_joined : (comes shown : List ℕ → Bool) (cs : List Content) →
    sum_by (worth_by comes shown) cs ≡ sum_by (λ s. s.own) cs + those comes (flat_map (λ s. s.ins) cs) + those (λ lock. not (shown lock)) (flat_map (λ s. s.outs) cs)
worth_joined comes shown [] = refl
worth_joined comes shown (c ∷ cs) =
    omega (
      arith,
      sum_by-cons (worth_by comes shown) c cs,
      sum_by-cons (λ (s : Content). s.own) c cs,
      sum_by-append (λ (p : Payment). cond (comes p.lock) p.amount 0) c.ins (flat_map (λ s. s.ins) cs),
      sum_by-append (λ (p : Payment). cond (not (shown p.lock)) p.amount 0) c.outs (flat_map (λ s. s.outs) cs),
      worth_joined comes shown cs,
    )

-- what passes a test: the payments with one lock, all or none, and the others
split_one : (same here all : Bool) → (same ≡ true → here ≡ all) → (amount with passing others : ℕ) → passing ≡ cond all with 0 + others →
    cond here amount 0 + passing ≡ cond all (cond same amount 0 + with) 0 + (cond (not same && here) amount 0 + others)
split_one true true true h a w t o e = omega arith
split_one true true false h a w t o e = let z : ◌≡◌ {A = ℕ} 0 1 = cc (h refl) in absurd (omega arith)
split_one true false true h a w t o e = let z : ◌≡◌ {A = ℕ} 0 1 = cc (h refl) in absurd (omega arith)
split_one true false false h a w t o e = omega arith
split_one false true true h a w t o e = omega arith
split_one false true false h a w t o e = omega arith
split_one false false true h a w t o e = omega arith
split_one false false false h a w t o e = omega arith

pub those_split : (f : List ℕ → Bool) (lock : List ℕ) (ps : List Payment) → those f ps ≡ cond (f lock) (with_lock lock ps) 0 + those (λ x. not (bytes_eq x lock) && f x) ps
those_split f lock [] = by (f lock)
  where
    by : (b : Bool) → 0 ≡ cond b 0 0 + 0
    by true = refl
    by false = refl
those_split f lock (p ∷ ps) =
    let one =
    split_one (bytes_eq p.lock lock) (f p.lock) (f lock) (λ e. ap f ((bytes_eq-Decides p.lock lock).0 e)) p.amount
    (with_lock lock ps) (those f ps) (those (λ x. not (bytes_eq x lock) && f x) ps) (those_split f lock ps)
    in
    those_cons f p ps ∙ one
    ∙ ap (λ (k : ℕ). cond (f lock) k 0 + (cond (not (bytes_eq p.lock lock) && f p.lock) p.amount 0 + those (λ x. not (bytes_eq x lock) && f x) ps)) (sym (those_cons (λ x. bytes_eq x lock) p ps))
    ∙ ap (λ (k : ℕ). cond (f lock) (with_lock lock (p ∷ ps)) 0 + k) (sym (those_cons (λ x. not (bytes_eq x lock) && f x) p ps))

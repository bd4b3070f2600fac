-- Lists of which one is the other with payments added or taken off: what they amount to, and when they are so.
use Rattle.std.proofs.Common.{◌≡◌, ℕ, suc, ◌+◌, ◌-◌, ◌≤◌, Bool, true, false, cond, eqb, List, [], ◌∷◌, ◌++◌, length, refl, ap, ◌∙◌, inl, inr, arith}
use Rattle.std.proofs.lemmas.List.Sums.{sum_by-cons}
use Rattle.std.proofs.lemmas.Bool.{or_cases, eqb-true}
use Rattle.sheet.specs.declared.types.Payment.{Payment}
use Rattle.change.specs.Totals.{amounts}
use Rattle.proposal.specs.Sames.{same_payment}
use Rattle.proposal.proofs.Equalities.{same_payment_decides}
use Rattle.moments.specs.Moments.{those}
use Rattle.moments.proofs.Sums.{those_cons}
use Rattle.counting.specs.Orders.{matched, left_of, is_part, is_beside}

pub amounts_cons : (p : Payment) (ps : List Payment) → amounts (p ∷ ps) ≡ p.amount + amounts ps
amounts_cons p ps = sum_by-cons (λ (q : Payment). q.amount) p ps

if_at_most : (b : Bool) (a : ℕ) → cond b a 0 ≤ a
if_at_most true a = omega arith
if_at_most false a = omega arith

module _ (f : List ℕ → Bool) where
  abbrev passing : Payment → ℕ
  passing p = cond (f p.lock) p.amount 0

  matched_those : (xs : List Payment) (y : Payment) → those f xs ≤ passing y + those f (matched xs y)
  matched_those [] y = omega arith
  matched_those (x ∷ xs) y = by (same_payment x y) refl
    where
      by : (b : Bool) → same_payment x y ≡ b → those f (x ∷ xs) ≤ passing y + those f (cond b xs (x ∷ xs))
      by true e = omega (arith, those_cons f x xs, ap passing ((same_payment_decides x y).0 e))
      by false e = omega arith

  left_those : (xs ys : List Payment) → those f xs ≤ those f ys + those f (left_of xs ys)
  left_those xs [] = omega arith
  left_those xs (y ∷ ys) = omega (arith, those_cons f y ys, matched_those xs y, left_those (matched xs y) ys)

  matched_amounts : (ys : List Payment) (x : Payment) → passing x + amounts ys + those f (matched ys x) ≤ those f ys + x.amount + amounts (matched ys x)
  matched_amounts [] x = omega (arith, if_at_most (f x.lock) x.amount)
  matched_amounts (y ∷ ys) x = by (same_payment y x) refl
    where
      by : (b : Bool) → same_payment y x ≡ b → passing x + amounts (y ∷ ys) + those f (cond b ys (y ∷ ys)) ≤ those f (y ∷ ys) + x.amount + amounts (cond b ys (y ∷ ys))
      by true e =
          let same = (same_payment_decides y x).0 e in
          omega (arith, those_cons f y ys, amounts_cons y ys, ap passing same, ap (λ (p : Payment). p.amount) same)
      by false e = omega (arith, if_at_most (f x.lock) x.amount)

  left_amounts : (xs ys : List Payment) → those f xs + amounts ys ≤ those f ys + amounts xs + amounts (left_of ys xs)
  left_amounts [] ys = omega arith
  left_amounts (x ∷ xs) ys = omega (arith, those_cons f x xs, amounts_cons x xs, matched_amounts ys x, left_amounts xs (matched ys x))

none_left : (ps : List Payment) → eqb (length ps) 0 ≡ true → ps ≡ []
none_left [] e = refl
none_left (p ∷ ps) e = absurd (omega (arith, eqb-true (length (p ∷ ps)) 0 e))

pub beside_those : (f : List ℕ → Bool) (xs ys : List Payment) → is_beside xs ys ≡ true → those f xs ≤ those f ys + (amounts xs - amounts ys)
beside_those f xs ys h =
    elim (or_cases (is_part xs ys) (is_part ys xs) h) [
      | inl e ↦ omega (arith, left_those f xs ys, ap (those f) (none_left (left_of xs ys) e))
      | inr e ↦ omega (arith, left_amounts f xs ys, ap amounts (none_left (left_of ys xs) e))
    ]

-- a list with one more
abbrev Part : List Payment → List Payment → Type 0
Part xs ys = left_of xs ys ≡ []

no_cons : {p : Payment} {ps : List Payment} → p ∷ ps ≡ [] → ⊥
no_cons {p} {ps} e = let z : ◌≡◌ {A = ℕ} (suc (length ps)) 0 = ap length e in omega arith

module _ (ys : List Payment) (tail : (x : Payment) (xs : List Payment) → Part (x ∷ xs) ys → Part xs ys) where
  matched_part : (xs : List Payment) (y : Payment) → Part xs ys → Part (matched xs y) ys
  matched_part [] y h = h
  matched_part (x ∷ xs) y h = by (same_payment x y)
    where
      by : (b : Bool) → Part (cond b xs (x ∷ xs)) ys
      by true = tail x xs h
      by false = h

part_tail : (ys : List Payment) (x : Payment) (xs : List Payment) → Part (x ∷ xs) ys → Part xs ys
part_tail [] x xs h = absurd (no_cons h)
part_tail (y ∷ ys) x xs h = matched_part ys (λ z zs. part_tail ys z zs) xs y (by (same_payment x y) h (λ g. part_tail ys x xs g))
  where
    by : (b : Bool) → Part (cond b xs (x ∷ xs)) ys → (Part (x ∷ xs) ys → Part xs ys) → Part xs ys
    by true g rest = g
    by false g rest = rest g

part_more : (xs ys : List Payment) (y : Payment) → Part xs ys → Part xs (y ∷ ys)
part_more xs ys y h = matched_part ys (λ z zs. part_tail ys z zs) xs y h

first_same : (x : Payment) (xs ys : List Payment) → Part xs ys → Part (x ∷ xs) (x ∷ ys)
first_same x xs ys h = ap (λ (b : Bool). left_of (cond b xs (x ∷ xs)) ys) ((same_payment_decides x x).1 refl) ∙ h

part_self : (xs : List Payment) → Part xs xs
part_self [] = refl
part_self (x ∷ xs) = first_same x xs xs (part_self xs)

part_mid : (front : List Payment) (p : Payment) (back : List Payment) → Part (front ++ back) (front ++ p ∷ back)
part_mid [] p back = part_more back back p (part_self back)
part_mid (x ∷ front) p back = first_same x (front ++ back) (front ++ p ∷ back) (part_mid front p back)

is_part_lem : (xs ys : List Payment) → Part xs ys → is_part xs ys ≡ true
is_part_lem xs ys h = ap (λ (ps : List Payment). eqb (length ps) 0) h

pub self_part : (xs : List Payment) → is_part xs xs ≡ true
self_part xs = is_part_lem xs xs (part_self xs)

pub more_part : (p : Payment) (xs : List Payment) → is_part xs (p ∷ xs) ≡ true
more_part p xs = is_part_lem xs (p ∷ xs) (part_more xs xs p (part_self xs))

pub less_part : (front : List Payment) (p : Payment) (back : List Payment) → is_part (front ++ back) (front ++ p ∷ back) ≡ true
less_part front p back = is_part_lem (front ++ back) (front ++ p ∷ back) (part_mid front p back)

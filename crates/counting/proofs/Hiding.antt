-- With each key shown just where that is worse, no set of keys gives less.
use Rattle.std.proofs.Common.{◌≡◌, ℕ, ◌+◌, ◌≤◌, Bool, true, false, cond, not, ◌&&◌, ◌||◌, leb, List, [], ◌∷◌, ◌++◌, sym, refl, ap, ◌∙◌, subst, inl, inr, arith}
use Rattle.std.specs.Str.{bytes_eq}
use Rattle.std.proofs.lemmas.Slice.Eq.{bytes_eq-Decides}
use Rattle.std.proofs.lemmas.Bool.{cond-true, cond_both, leb-true, leb-false}
use Rattle.sheet.specs.declared.types.Payment.{Payment}
use Rattle.moments.specs.Moments.{those, Stands}
use Rattle.moments.proofs.Sums.{those_mono}
use Rattle.counting.specs.Leasts.{with_lock}
use Rattle.counting.proofs.Lists.{those_split}

-- one lock: the ins and outs that it has, and whether its key is shown
one_known : (here : Bool) (a b : ℕ) → a ≤ cond (here || true) a 0 + cond (not here) b 0
one_known true a b = omega arith
one_known false a b = omega arith

one_unknown : (t : Bool) (here : Bool) (a b : ℕ) → leb a b ≡ t → cond (t || false) a 0 + cond (not t) b 0 ≤ cond (here || false) a 0 + cond (not here) b 0
one_unknown true true a b e = omega arith
one_unknown true false a b e = omega (arith, leb-true a b e)
one_unknown false true a b e = omega (arith, leb-false a b e)
one_unknown false false a b e = omega arith

one : (known here : Bool) (a b : ℕ) → cond ((known || leb a b) || known) a 0 + cond (not (known || leb a b)) b 0 ≤ cond (here || known) a 0 + cond (not here) b 0
one true here a b = omega (arith, one_known here a b)
one false here a b = one_unknown (leb a b) here a b refl

one_lock : (known here worse : Bool) (a b : ℕ) → worse ≡ (known || leb a b) → cond (worse || known) a 0 + cond (not worse) b 0 ≤ cond (here || known) a 0 + cond (not here) b 0
one_lock known here worse a b e =
    subst (λ (s : Bool). cond (s || known) a 0 + cond (not s) b 0 ≤ cond (here || known) a 0 + cond (not here) b 0) (sym e) (one known here a b)

-- of another lock nothing changes
others_in : (same s t k : Bool) → (not same && (cond same s t || k)) ≡ true → (not same && (t || k)) ≡ true
others_in true s t k e = e
others_in false s t k e = e

others_out : (same s t : Bool) → (not same && not (cond same s t)) ≡ true → (not same && not t) ≡ true
others_out true s t e = e
others_out false s t e = e

stands_left : (x : Payment) (xs ys : List Payment) → Stands x xs → Stands x (xs ++ ys)
stands_left x [] ys m = absurd m
stands_left x (p ∷ xs) ys (inl e) = inl e
stands_left x (p ∷ xs) ys (inr m) = inr (stands_left x xs ys m)

stands_right : (x : Payment) (xs ys : List Payment) → Stands x ys → Stands x (xs ++ ys)
stands_right x [] ys m = m
stands_right x (p ∷ xs) ys m = inr (stands_right x xs ys m)

module _ (known worse : List ℕ → Bool) (ins outs : List Payment) (is : (l : List ℕ) → worse l ≡ (known l || leb (with_lock l ins) (with_lock l outs))) where
  abbrev pub worth : (List ℕ → Bool) → ℕ
  worth shown = those (λ x. shown x || known x) ins + those (λ x. not (shown x)) outs

  -- one lock as is worse
  abbrev flip : List ℕ → (List ℕ → Bool) → List ℕ → Bool
  flip l shown x = cond (bytes_eq x l) (worse x) (shown x)

  flip_less : (l : List ℕ) (shown : List ℕ → Bool) → worth (flip l shown) ≤ worth shown
  flip_less l shown =
      let here : flip l shown l ≡ worse l = cond-true (bytes_eq l l) (worse l) (shown l) ((bytes_eq-Decides l l).1 refl) in
      omega (
        arith,
        those_split (λ x. flip l shown x || known x) l ins,
        those_split (λ x. shown x || known x) l ins,
        those_split (λ x. not (flip l shown x)) l outs,
        those_split (λ x. not (shown x)) l outs,
        ap (λ (b : Bool). cond (b || known l) (with_lock l ins) 0) here,
        ap (λ (b : Bool). cond (not b) (with_lock l outs) 0) here,
        one_lock (known l) (shown l) (worse l) (with_lock l ins) (with_lock l outs) (is l),
        those_mono (λ x. not (bytes_eq x l) && (flip l shown x || known x)) (λ x. not (bytes_eq x l) && (shown x || known x)) ins
            (λ p _ e. others_in (bytes_eq p.lock l) (worse p.lock) (shown p.lock) (known p.lock) e),
        those_mono (λ x. not (bytes_eq x l) && not (flip l shown x)) (λ x. not (bytes_eq x l) && not (shown x)) outs
            (λ p _ e. others_out (bytes_eq p.lock l) (worse p.lock) (shown p.lock) e),
      )

  -- the locks of all these payments as is worse
  abbrev flips : List Payment → (List ℕ → Bool) → List ℕ → Bool
  flips [] shown = shown
  flips (p ∷ ps) shown = flip p.lock (flips ps shown)

  flips_less : (ps : List Payment) (shown : List ℕ → Bool) → worth (flips ps shown) ≤ worth shown
  flips_less [] shown = omega arith
  flips_less (p ∷ ps) shown = omega (arith, flip_less p.lock (flips ps shown), flips_less ps shown)

  flips_all : (ps : List Payment) (shown : List ℕ → Bool) (x : Payment) → Stands x ps → flips ps shown x.lock ≡ worse x.lock
  flips_all [] shown x m = absurd m
  flips_all (p ∷ ps) shown x (inl e) =
      cond-true (bytes_eq x.lock p.lock) (worse x.lock) (flips ps shown x.lock) ((bytes_eq-Decides x.lock p.lock).1 (ap (λ (z : Payment). z.lock) (sym e)))
  flips_all (p ∷ ps) shown x (inr m) =
      cond_both (bytes_eq x.lock p.lock) (worse x.lock) (flips ps shown x.lock) (λ (b : Bool). b ≡ worse x.lock) (λ _. refl) (λ _. flips_all ps shown x m)

  pub worse_least : (shown : List ℕ → Bool) → worth worse ≤ worth shown
  worse_least shown =
      omega (
        arith,
        flips_less (ins ++ outs) shown,
        those_mono (λ x. worse x || known x) (λ x. flips (ins ++ outs) shown x || known x) ins
            (λ p m e. subst (λ (b : Bool). (b || known p.lock) ≡ true) (sym (flips_all (ins ++ outs) shown p (stands_left p ins outs m))) e),
        those_mono (λ x. not (worse x)) (λ x. not (flips (ins ++ outs) shown x)) outs
            (λ p m e. subst (λ (b : Bool). not b ≡ true) (sym (flips_all (ins ++ outs) shown p (stands_right p ins outs m))) e),
      )

  absorbed : (k t : Bool) → ((k || t) || k) ≡ true → (k || t) ≡ true
  absorbed true t e = refl
  absorbed false true e = refl
  absorbed false false e = e

  kept : (k t : Bool) → t ≡ true → (t || k) ≡ true
  kept k true e = refl
  kept k false e = absurd (let z : ◌≡◌ {A = ℕ} 0 1 = cc in omega arith)

  -- the key of what isn't worse shown isn't known
  pub worse_known : those worse ins ≡ those (λ x. worse x || known x) ins
  worse_known =
      let more : those worse ins ≤ those (λ x. worse x || known x) ins = those_mono worse (λ x. worse x || known x) ins (λ p _ e. kept (known p.lock) (worse p.lock) e) in
      let less : those (λ x. worse x || known x) ins ≤ those worse ins =
      those_mono (λ x. worse x || known x) worse ins
      (λ p _ e. is p.lock ∙ absorbed (known p.lock) (leb (with_lock p.lock ins) (with_lock p.lock outs)) (subst (λ (b : Bool). (b || known p.lock) ≡ true) (is p.lock) e))
      in
      omega arith

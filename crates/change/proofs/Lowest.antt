-- The refusal that is given applies, and none with a lower number does; where a sheet is given, none applies.
use Rattle.std.proofs.Common.{◌≡◌, ℕ, ◌+◌, ◌-◌, ◌<◌, ◌≤◌, Bool, true, false, cond, ◌&&◌, ◌||◌, ltb, leb, List, ◌∷◌, ◌++◌, length, is_some, Some, None, Ok, Err, Option, Result, sym, refl, ap, ◌∙◌, subst, inl, inr, arith}
use Rattle.std.proofs.ByRecursion.{all-has, has_get_or, has_append_right}
use Rattle.std.proofs.lemmas.Bool.{ltb-true, ltb-false, leb-true, leb-false, and_cases, or_cases, or_parts, cond-true, cond-false}
use Rattle.std.specs.List.{ContainsAt as Has}
use Rattle.refusal.specs.declared.Refusal.{Refusal}
use Rattle.refusal.specs.declared.Refusal.TheVariants.{Mismatch, LockUsed, NotCovered, TooLarge}
use Rattle.refusal.specs.Number.{number_of}
use Rattle.sheet.specs.declared.types.Payment.{Payment}
use Rattle.sheet.specs.Contents.{Content, found, without}
use Rattle.change.specs.declared.types.Change.{Change}
use Rattle.change.specs.declared.types.Change.TheVariants.{Offered, PassingOn, Paying, Getting, Returned, GivingUp}
use Rattle.change.specs.Changes.{most, after, adding, taking}
use Rattle.change.specs.Follows.{NotAmong, AddedTo, TakenOff, Next, Follows}
use Rattle.change.specs.Reasons.{Among, Beyond, CannotAdd, stands_already, not_covered, no_room, too_large, CannotTakeOff, not_there, large_already, sum_too_large, Applies, LowestGiven, NoneApplies}
use Rattle.change.proofs.Standing.{none_some, same_some, found_none, none_found, taken, taken_found}
use Rattle.change.proofs.Same.{err_ok, follows}

same_err : {X Y : Type 0} {x y : Y} → ◌≡◌ {A = Result X Y} (Err x) (Err y) → x ≡ y
same_err e = cc

found_among : (lock : List ℕ) (ps : List Payment) (x : Payment) → found lock ps ≡ Some x → Among lock ps
found_among lock ps x e =
    let r = taken lock ps (without lock ps) x 0 (0 + x.amount) e refl refl in
    let at_front : Has (r.payment ∷ r.back) r.payment = has_get_or (r.payment ∷ r.back) 0 r.payment (omega arith) in
    let somewhere : Has (r.front ++ r.payment ∷ r.back) r.payment = has_append_right r.front (r.payment ∷ r.back) r.payment at_front in
    (r.payment, subst (λ (zs : List Payment). Has zs r.payment) (sym r.stands) somewhere, r.has)

not_both : (lock : List ℕ) (ps : List Payment) → NotAmong lock ps → Among lock ps → ⊥
not_both lock ps h a = all-has (λ (q : Payment). q.lock ≡ lock → ⊥) ps a.0 h a.1 a.2

-- a sheet is refused only where it would be too large
module _ (s : Content) (own theirs : ℕ) (ins outs : List Payment) (e : Refusal) where
  after_err : after s own theirs ins outs ≡ Err e → (TooLarge ≡ e) × Beyond s own theirs
  after_err r = by (ltb s.number most && leb own most && leb theirs most) refl
    where
      beyond : (ltb s.number most && leb own most && leb theirs most) ≡ false → Beyond s own theirs
      beyond f =
          elim (and_cases (ltb s.number most && leb own most) (leb theirs most) f) [
            | inl g ↦ elim (and_cases (ltb s.number most) (leb own most) g) [ inl k ↦ inl (ltb-false s.number most k) | inr k ↦ inr (inl (leb-false own most k)) ]
            | inr g ↦ inr (inr (leb-false theirs most g))
          ]

      by : (b : Bool) → (ltb s.number most && leb own most && leb theirs most) ≡ b → (TooLarge ≡ e) × Beyond s own theirs
      by true f = absurd (err_ok (sym r ∙ cond-true (ltb s.number most && leb own most && leb theirs most) (Ok (record { account = s.account; number = s.number + 1; own = own; theirs = theirs; ins = ins; outs = outs })) (Err TooLarge) f))
      by false f = (same_err (sym (cond-false (ltb s.number most && leb own most && leb theirs most) (Ok (record { account = s.account; number = s.number + 1; own = own; theirs = theirs; ins = ins; outs = outs })) (Err TooLarge) f) ∙ r), beyond f)

-- what is lowest of the refusals of a change
abbrev Lowest : (Refusal → Type 0) → Refusal → Type 0
Lowest R e = R e × ((f : Refusal) → R f → number_of e ≤ number_of f)

module _ (s : Content) (p : Payment) (ps : List Payment) (from other : ℕ) where
  least_used : (f : Refusal) → CannotAdd s p ps from other f → 5 ≤ number_of f
  least_used _ (stands_already a) = omega arith
  least_used _ (not_covered h) = omega arith
  least_used _ (no_room h) = omega arith
  least_used _ (too_large h) = omega arith

  least_uncovered : NotAmong p.lock ps → (f : Refusal) → CannotAdd s p ps from other f → 6 ≤ number_of f
  least_uncovered new _ (stands_already a) = absurd (not_both p.lock ps new a)
  least_uncovered new _ (not_covered h) = omega arith
  least_uncovered new _ (no_room h) = omega arith
  least_uncovered new _ (too_large h) = omega arith

  least_large : NotAmong p.lock ps → p.amount ≤ from → length ps < 32 → (f : Refusal) → CannotAdd s p ps from other f → 10 ≤ number_of f
  least_large new covered room _ (stands_already a) = absurd (not_both p.lock ps new a)
  least_large new covered room _ (not_covered h) = absurd (omega arith)
  least_large new covered room _ (no_room h) = absurd (omega arith)
  least_large new covered room _ (too_large h) = omega arith

  lowest_adding : (next : Result Content Refusal) (e : Refusal) → (next ≡ Err e → (TooLarge ≡ e) × Beyond s (from - p.amount) other) → adding p ps from next ≡ Err e → Lowest (CannotAdd s p ps from other) e
  lowest_adding next e fails r = by (found p.lock ps) refl
    where
      later : NotAmong p.lock ps → (b : Bool) → (ltb from p.amount || leb 32 (length ps)) ≡ b → cond (ltb from p.amount || leb 32 (length ps)) (Err NotCovered) next ≡ Err e → Lowest (CannotAdd s p ps from other) e
      later new true f g =
          let same : NotCovered ≡ e = same_err (sym (cond-true (ltb from p.amount || leb 32 (length ps)) (Err NotCovered) next f) ∙ g) in
          let why : CannotAdd s p ps from other NotCovered = elim (or_cases (ltb from p.amount) (leb 32 (length ps)) f) [ inl k ↦ not_covered (ltb-true from p.amount k) | inr k ↦ no_room (leb-true 32 (length ps) k) ] in
          subst (λ (x : Refusal). Lowest (CannotAdd s p ps from other) x) same (why, least_uncovered new)
      later new false f g =
          let parts = or_parts (ltb from p.amount) (leb 32 (length ps)) f in
          let large = fails (sym (cond-false (ltb from p.amount || leb 32 (length ps)) (Err NotCovered) next f) ∙ g) in
          subst (λ (x : Refusal). Lowest (CannotAdd s p ps from other) x) large.0 (too_large large.1, least_large new (ltb-false from p.amount parts.0) (leb-false 32 (length ps) parts.1))

      by : (o : Option Payment) → found p.lock ps ≡ o → Lowest (CannotAdd s p ps from other) e
      by None f =
          later (found_none p.lock ps f) (ltb from p.amount || leb 32 (length ps)) refl
          (sym (ap (λ (o : Option Payment). cond (is_some o) (Err LockUsed) (cond (ltb from p.amount || leb 32 (length ps)) (Err NotCovered) next)) f) ∙ r)
      by (Some x) f =
          let same : LockUsed ≡ e = same_err (sym (ap (λ (o : Option Payment). cond (is_some o) (Err LockUsed) (cond (ltb from p.amount || leb 32 (length ps)) (Err NotCovered) next)) f) ∙ r) in
          subst (λ (x : Refusal). Lowest (CannotAdd s p ps from other) x) same (stands_already (found_among p.lock ps x f), least_used)

module _ (s : Content) (lock : List ℕ) (ps : List Payment) (to other : ℕ) where
  least_absent : (f : Refusal) → CannotTakeOff s lock ps to other f → 4 ≤ number_of f
  least_absent _ (not_there a) = omega arith
  least_absent _ (large_already h) = omega arith
  least_absent _ (sum_too_large qs more h g) = omega arith

  least_there : (x : Payment) → found lock ps ≡ Some x → (f : Refusal) → CannotTakeOff s lock ps to other f → 10 ≤ number_of f
  least_there x e _ (not_there a) = absurd (none_some (sym (none_found lock ps a) ∙ e))
  least_there x e _ (large_already h) = omega arith
  least_there x e _ (sum_too_large qs more h g) = omega arith

  lowest_taking : (next : Payment → Result Content Refusal) (e : Refusal) → ((x : Payment) → next x ≡ Err e → (TooLarge ≡ e) × Beyond s (to + x.amount) other) → taking (found lock ps) next ≡ Err e → Lowest (CannotTakeOff s lock ps to other) e
  lowest_taking next e fails r = by (found lock ps) refl
    where
      why : (x : Payment) → found lock ps ≡ Some x → Beyond s (to + x.amount) other → CannotTakeOff s lock ps to other TooLarge
      why x f (inl h) = large_already (inl h)
      why x f (inr (inl h)) = sum_too_large (without lock ps) (to + x.amount) (taken lock ps (without lock ps) x to (to + x.amount) f refl refl) h
      why x f (inr (inr h)) = large_already (inr (inr h))

      by : (o : Option Payment) → found lock ps ≡ o → Lowest (CannotTakeOff s lock ps to other) e
      by None f =
          let same : Mismatch ≡ e = same_err (sym (ap (λ (o : Option Payment). taking o next) f) ∙ r) in
          subst (λ (x : Refusal). Lowest (CannotTakeOff s lock ps to other) x) same (not_there (found_none lock ps f), least_absent)
      by (Some x) f =
          let large = fails x (sym (ap (λ (o : Option Payment). taking o next) f) ∙ r) in
          subst (λ (y : Refusal). Lowest (CannotTakeOff s lock ps to other) y) large.0 (why x f large.1, least_there x f)

-- own and theirs in the other order
turned : (s : Content) (a b : ℕ) → Beyond s a b → Beyond s b a
turned s a b (inl h) = inl h
turned s a b (inr (inl h)) = inr (inr h)
turned s a b (inr (inr h)) = inr (inl h)

pub lowest_given : LowestGiven
lowest_given s Offered p e r =
    lowest_adding s p s.ins s.theirs s.own (after s s.own (s.theirs - p.amount) (p ∷ s.ins) s.outs) e (λ g. let h = after_err s _ _ _ _ e g in (h.0, turned s _ _ h.1)) r
lowest_given s PassingOn p e r =
    lowest_adding s p s.outs s.own s.theirs (after s (s.own - p.amount) s.theirs s.ins (p ∷ s.outs)) e (λ g. after_err s _ _ _ _ e g) r
lowest_given s Paying p e r =
    lowest_taking s p.lock s.outs s.theirs s.own (λ x. after s s.own (s.theirs + x.amount) s.ins (without p.lock s.outs)) e (λ x g. let h = after_err s _ _ _ _ e g in (h.0, turned s _ _ h.1)) r
lowest_given s Getting p e r =
    lowest_taking s p.lock s.ins s.own s.theirs (λ x. after s (s.own + x.amount) s.theirs (without p.lock s.ins) s.outs) e (λ x g. after_err s _ _ _ _ e g) r
lowest_given s Returned p e r =
    lowest_taking s p.lock s.outs s.own s.theirs (λ x. after s (s.own + x.amount) s.theirs s.ins (without p.lock s.outs)) e (λ x g. after_err s _ _ _ _ e g) r
lowest_given s GivingUp p e r =
    lowest_taking s p.lock s.ins s.theirs s.own (λ x. after s s.own (s.theirs + x.amount) (without p.lock s.ins) s.outs) e (λ x g. let h = after_err s _ _ _ _ e g in (h.0, turned s _ _ h.1)) r

-- what follows is not beyond the largest
within : (s t : Content) (a b : ℕ) → Next s t → a ≤ most → b ≤ most → Beyond s a b → ⊥
within s t a b n h g (inl k) = omega (arith, n.number, n.number_fits)
within s t a b n h g (inr (inl k)) = omega arith
within s t a b n h g (inr (inr k)) = omega arith

none_adding : (s t : Content) (p : Payment) (ps qs : List Payment) (from left other : ℕ) → Next s t → left ≤ most → other ≤ most → AddedTo p ps qs from left → (f : Refusal) → CannotAdd s p ps from other f → ⊥
none_adding s t p ps qs from left other n h g a _ (stands_already k) = not_both p.lock ps a.new k
none_adding s t p ps qs from left other n h g a _ (not_covered k) = omega (arith, a.covered)
none_adding s t p ps qs from left other n h g a _ (no_room k) = omega (arith, a.room)
none_adding s t p ps qs from left other n h g a _ (too_large k) = within s t (from - p.amount) other n (omega (arith, a.covered)) g k

none_taking : (s t : Content) (lock : List ℕ) (ps qs : List Payment) (to more other : ℕ) → Next s t → more ≤ most → other ≤ most → TakenOff lock ps qs to more → (f : Refusal) → CannotTakeOff s lock ps to other f → ⊥
none_taking s t lock ps qs to more other n h g a _ (not_there k) = none_some (sym (none_found lock ps k) ∙ taken_found lock a)
none_taking s t lock ps qs to more other n h g a _ (large_already k) = within s t to other n (omega (arith, a.gets)) g k
none_taking s t lock ps qs to more other n h g a _ (sum_too_large us sum b k) =
    let same : b.payment ≡ a.payment = same_some (sym (taken_found lock b) ∙ taken_found lock a) in
    omega (arith, a.gets, b.gets, ap (λ (x : Payment). x.amount) same)

none : (s : Content) (c : Change) (p : Payment) (t : Content) → Follows s c p t → (f : Refusal) → Applies s c p f → ⊥
none s Offered p t h = none_adding s t p s.ins t.ins s.theirs t.theirs s.own h.0 h.0.theirs_fits (omega (arith, h.0.own_fits, h.2)) h.1
none s PassingOn p t h = none_adding s t p s.outs t.outs s.own t.own s.theirs h.0 h.0.own_fits (omega (arith, h.0.theirs_fits, h.2)) h.1
none s Paying p t h = none_taking s t p.lock s.outs t.outs s.theirs t.theirs s.own h.0 h.0.theirs_fits (omega (arith, h.0.own_fits, h.2)) h.1
none s Getting p t h = none_taking s t p.lock s.ins t.ins s.own t.own s.theirs h.0 h.0.own_fits (omega (arith, h.0.theirs_fits, h.2)) h.1
none s Returned p t h = none_taking s t p.lock s.outs t.outs s.own t.own s.theirs h.0 h.0.own_fits (omega (arith, h.0.theirs_fits, h.2)) h.1
none s GivingUp p t h = none_taking s t p.lock s.ins t.ins s.theirs t.theirs s.own h.0 h.0.theirs_fits (omega (arith, h.0.own_fits, h.2)) h.1

pub none_applies : NoneApplies
none_applies s c p t e = none s c p t (follows s c p t e)

-- What is computed is the sheet that follows, and the money of the account stays the same.
use Rattle.std.proofs.Common.{◌≡◌, ℕ, ◌+◌, ◌-◌, ◌<◌, ◌≤◌, Bool, true, false, cond, ◌&&◌, ◌||◌, ltb, leb, List, ◌∷◌, length, is_some, Some, None, Ok, Err, Option, Result, sym, refl, ap, ◌∙◌, arith}
use Rattle.std.proofs.lemmas.Bool.{ltb-true, ltb-false, leb-true, leb-false, lt-ltb, le-ltb, le-leb, lt-leb, and_parts, and_from, or_parts, or_from, cond-true, cond-false}
use Rattle.std.proofs.lemmas.List.Sums.{sum_by-cons, sum_by-append}
use Rattle.refusal.specs.declared.Refusal.{Refusal}
use Rattle.refusal.specs.declared.Refusal.TheVariants.{LockUsed, NotCovered, TooLarge}
use Rattle.sheet.specs.declared.types.Payment.{Payment}
use Rattle.sheet.specs.Contents.{Content, found, without}
use Rattle.change.specs.declared.types.Change.{Change}
use Rattle.change.specs.declared.types.Change.TheVariants.{Offered, PassingOn, Paying, Getting, Returned, GivingUp}
use Rattle.change.specs.Changes.{most, after, adding, taking, changed}
use Rattle.change.specs.Follows.{NotAmong, AddedTo, TakenOff, Next, Follows, SameChange}
use Rattle.change.specs.Totals.{amounts, total_of, KeepsTotal}
use Rattle.change.proofs.Standing.{none_found, found_none, taken, taken_found, taken_without}

pub err_ok : {X Y : Type 0} {x : X} {y : Y} → ◌≡◌ {A = Result X Y} (Err y) (Ok x) → ⊥
err_ok e = let z : ◌≡◌ {A = ℕ} 0 1 = cc in absurd (omega arith)

same_ok : {X Y : Type 0} {x y : X} → ◌≡◌ {A = Result X Y} (Ok x) (Ok y) → x ≡ y
same_ok e = cc

-- the next sheet, by its parts
pub record NextWith (s t : Content) (own theirs : ℕ) (ins outs : List Payment) : Type 0 where
  pub next : Next s t
  pub own_is : t.own ≡ own
  pub theirs_is : t.theirs ≡ theirs
  pub ins_is : t.ins ≡ ins
  pub outs_is : t.outs ≡ outs

module _ (s t : Content) (own theirs : ℕ) (ins outs : List Payment) where
  pub after_ok : after s own theirs ins outs ≡ Ok t → NextWith s t own theirs ins outs
  after_ok e = by (ltb s.number most && leb own most && leb theirs most) refl
    where
      by : (b : Bool) → (ltb s.number most && leb own most && leb theirs most) ≡ b → NextWith s t own theirs ins outs
      by true f =
          let whole : Content = record { account = s.account; number = s.number + 1; own = own; theirs = theirs; ins = ins; outs = outs } in
          let same : whole ≡ t = same_ok (sym (cond-true (ltb s.number most && leb own most && leb theirs most) (Ok whole) (Err TooLarge) f) ∙ e) in
          let parts = and_parts (ltb s.number most && leb own most) (leb theirs most) f in
          let more = and_parts (ltb s.number most) (leb own most) parts.0 in
          let low : s.number < most = ltb-true s.number most more.0 in
          let a : own ≤ most = leb-true own most more.1 in
          let b : theirs ≤ most = leb-true theirs most parts.1 in
          let n : t.number ≡ s.number + 1 = ap (λ (x : Content). x.number) (sym same) in
          let o : t.own ≡ own = ap (λ (x : Content). x.own) (sym same) in
          let h : t.theirs ≡ theirs = ap (λ (x : Content). x.theirs) (sym same) in
          record {
            next = record { account = ap (λ (x : Content). x.account) (sym same); number = n; number_fits = omega arith; own_fits = omega arith; theirs_fits = omega arith };
            own_is = o;
            theirs_is = h;
            ins_is = ap (λ (x : Content). x.ins) (sym same);
            outs_is = ap (λ (x : Content). x.outs) (sym same);
          }
      by false f = absurd (err_ok (sym (cond-false (ltb s.number most && leb own most && leb theirs most) (Ok (record { account = s.account; number = s.number + 1; own = own; theirs = theirs; ins = ins; outs = outs })) (Err TooLarge) f) ∙ e))

  pub ok_after : NextWith s t own theirs ins outs → after s own theirs ins outs ≡ Ok t
  ok_after h =
      let n : t.number ≡ s.number + 1 = h.next.number in
      let low : s.number < most = omega (arith, h.next.number_fits) in
      let a : own ≤ most = omega (arith, h.next.own_fits, h.own_is) in
      let b : theirs ≤ most = omega (arith, h.next.theirs_fits, h.theirs_is) in
      let whole : ◌≡◌ {A = Content} (record { account = s.account; number = s.number + 1; own = own; theirs = theirs; ins = ins; outs = outs }) (record { account = t.account; number = t.number; own = t.own; theirs = t.theirs; ins = t.ins; outs = t.outs }) = cc (h.next.account, h.own_is, h.theirs_is, h.ins_is, h.outs_is) in
      cond-true (ltb s.number most && leb own most && leb theirs most) (Ok (record { account = s.account; number = s.number + 1; own = own; theirs = theirs; ins = ins; outs = outs })) (Err TooLarge)
      (and_from (ltb s.number most && leb own most) (leb theirs most) (and_from (ltb s.number most) (leb own most) (lt-ltb _ _ low) (le-leb _ _ a)) (le-leb _ _ b))
      ∙ ap (λ (x : Content). Ok x) whole

pub record Addable (p : Payment) (ps : List Payment) (covers : ℕ) : Type 0 where
  pub new : NotAmong p.lock ps
  pub covered : p.amount ≤ covers
  pub room : length ps < 32

module _ (p : Payment) (ps : List Payment) (covers : ℕ) (next : Result Content Refusal) where
  pub adding_ok : (t : Content) → adding p ps covers next ≡ Ok t → Addable p ps covers × (next ≡ Ok t)
  adding_ok t e = by (found p.lock ps) refl
    where
      later : NotAmong p.lock ps → (b : Bool) → (ltb covers p.amount || leb 32 (length ps)) ≡ b → cond (ltb covers p.amount || leb 32 (length ps)) (Err NotCovered) next ≡ Ok t → Addable p ps covers × (next ≡ Ok t)
      later h true f g = absurd (err_ok (sym (cond-true (ltb covers p.amount || leb 32 (length ps)) (Err NotCovered) next f) ∙ g))
      later h false f g =
          let parts = or_parts (ltb covers p.amount) (leb 32 (length ps)) f in
          (record { new = h; covered = ltb-false covers p.amount parts.0; room = leb-false 32 (length ps) parts.1 }, sym (cond-false (ltb covers p.amount || leb 32 (length ps)) (Err NotCovered) next f) ∙ g)

      by : (o : Option Payment) → found p.lock ps ≡ o → Addable p ps covers × (next ≡ Ok t)
      by None f =
          later (found_none p.lock ps f) (ltb covers p.amount || leb 32 (length ps)) refl
          (sym (ap (λ (o : Option Payment). cond (is_some o) (Err LockUsed) (cond (ltb covers p.amount || leb 32 (length ps)) (Err NotCovered) next)) f) ∙ e)
      by (Some x) f = absurd (err_ok (sym (ap (λ (o : Option Payment). cond (is_some o) (Err LockUsed) (cond (ltb covers p.amount || leb 32 (length ps)) (Err NotCovered) next)) f) ∙ e))

  pub added_is : Addable p ps covers → adding p ps covers next ≡ next
  added_is h =
      ap (λ (o : Option Payment). cond (is_some o) (Err LockUsed) (cond (ltb covers p.amount || leb 32 (length ps)) (Err NotCovered) next)) (none_found p.lock ps h.new)
      ∙ cond-false (ltb covers p.amount || leb 32 (length ps)) (Err NotCovered) next (or_from (ltb covers p.amount) (leb 32 (length ps)) (le-ltb covers p.amount h.covered) (lt-leb 32 (length ps) h.room))

pub taking_ok : (o : Option Payment) (f : Payment → Result Content Refusal) (t : Content) → taking o f ≡ Ok t → (x : Payment) × (o ≡ Some x) × (f x ≡ Ok t)
taking_ok None f t e = absurd (err_ok e)
taking_ok (Some x) f t e = (x, refl, e)

added_to_lem : (p : Payment) (ps qs : List Payment) (from left : ℕ) → Addable p ps from → qs ≡ p ∷ ps → left ≡ from - p.amount → AddedTo p ps qs from left
added_to_lem p ps qs from left h e f = record { new = h.new; room = h.room; list = e; covered = omega (arith, h.covered) }

addable : {p : Payment} {ps qs : List Payment} {from left : ℕ} → AddedTo p ps qs from left → Addable p ps from
addable {p} {ps} {qs} {from} {left} h = record { new = h.new; covered = omega (arith, h.covered); room = h.room }

-- the six ways from what is computed to the sheet that follows, and back
pub follows : (s : Content) (c : Change) (p : Payment) (t : Content) → changed s c p ≡ Ok t → Follows s c p t
follows s Offered p t e =
    let g = adding_ok p s.ins s.theirs (after s s.own (s.theirs - p.amount) (p ∷ s.ins) s.outs) t e in
    let a = after_ok s t s.own (s.theirs - p.amount) (p ∷ s.ins) s.outs g.1 in
    (a.next, added_to_lem p s.ins t.ins s.theirs t.theirs g.0 a.ins_is a.theirs_is, a.own_is, a.outs_is)
follows s PassingOn p t e =
    let g = adding_ok p s.outs s.own (after s (s.own - p.amount) s.theirs s.ins (p ∷ s.outs)) t e in
    let a = after_ok s t (s.own - p.amount) s.theirs s.ins (p ∷ s.outs) g.1 in
    (a.next, added_to_lem p s.outs t.outs s.own t.own g.0 a.outs_is a.own_is, a.theirs_is, a.ins_is)
follows s Paying p t e =
    let g = taking_ok (found p.lock s.outs) (λ x. after s s.own (s.theirs + x.amount) s.ins (without p.lock s.outs)) t e in
    let a = after_ok s t s.own (s.theirs + g.0.amount) s.ins (without p.lock s.outs) g.2 in
    (a.next, taken p.lock s.outs t.outs g.0 s.theirs t.theirs g.1 a.outs_is a.theirs_is, a.own_is, a.ins_is)
follows s Getting p t e =
    let g = taking_ok (found p.lock s.ins) (λ x. after s (s.own + x.amount) s.theirs (without p.lock s.ins) s.outs) t e in
    let a = after_ok s t (s.own + g.0.amount) s.theirs (without p.lock s.ins) s.outs g.2 in
    (a.next, taken p.lock s.ins t.ins g.0 s.own t.own g.1 a.ins_is a.own_is, a.theirs_is, a.outs_is)
follows s Returned p t e =
    let g = taking_ok (found p.lock s.outs) (λ x. after s (s.own + x.amount) s.theirs s.ins (without p.lock s.outs)) t e in
    let a = after_ok s t (s.own + g.0.amount) s.theirs s.ins (without p.lock s.outs) g.2 in
    (a.next, taken p.lock s.outs t.outs g.0 s.own t.own g.1 a.outs_is a.own_is, a.theirs_is, a.ins_is)
follows s GivingUp p t e =
    let g = taking_ok (found p.lock s.ins) (λ x. after s s.own (s.theirs + x.amount) (without p.lock s.ins) s.outs) t e in
    let a = after_ok s t s.own (s.theirs + g.0.amount) (without p.lock s.ins) s.outs g.2 in
    (a.next, taken p.lock s.ins t.ins g.0 s.theirs t.theirs g.1 a.ins_is a.theirs_is, a.own_is, a.outs_is)

pub following : (s : Content) (c : Change) (p : Payment) (t : Content) → Follows s c p t → changed s c p ≡ Ok t
following s Offered p t h =
    added_is p s.ins s.theirs _ (addable h.1)
    ∙ ok_after s t s.own (s.theirs - p.amount) (p ∷ s.ins) s.outs (record { next = h.0; own_is = h.2; theirs_is = omega (arith, h.1.covered); ins_is = h.1.list; outs_is = h.3 })
following s PassingOn p t h =
    added_is p s.outs s.own _ (addable h.1)
    ∙ ok_after s t (s.own - p.amount) s.theirs s.ins (p ∷ s.outs) (record { next = h.0; own_is = omega (arith, h.1.covered); theirs_is = h.2; ins_is = h.3; outs_is = h.1.list })
following s Paying p t h =
    ap (λ (o : Option Payment). taking o (λ x. after s s.own (s.theirs + x.amount) s.ins (without p.lock s.outs))) (taken_found p.lock h.1)
    ∙ ok_after s t _ _ _ _ (record { next = h.0; own_is = h.2; theirs_is = h.1.gets; ins_is = h.3; outs_is = sym (taken_without p.lock h.1) })
following s Getting p t h =
    ap (λ (o : Option Payment). taking o (λ x. after s (s.own + x.amount) s.theirs (without p.lock s.ins) s.outs)) (taken_found p.lock h.1)
    ∙ ok_after s t _ _ _ _ (record { next = h.0; own_is = h.1.gets; theirs_is = h.2; ins_is = sym (taken_without p.lock h.1); outs_is = h.3 })
following s Returned p t h =
    ap (λ (o : Option Payment). taking o (λ x. after s (s.own + x.amount) s.theirs s.ins (without p.lock s.outs))) (taken_found p.lock h.1)
    ∙ ok_after s t _ _ _ _ (record { next = h.0; own_is = h.1.gets; theirs_is = h.2; ins_is = h.3; outs_is = sym (taken_without p.lock h.1) })
following s GivingUp p t h =
    ap (λ (o : Option Payment). taking o (λ x. after s s.own (s.theirs + x.amount) (without p.lock s.ins) s.outs)) (taken_found p.lock h.1)
    ∙ ok_after s t _ _ _ _ (record { next = h.0; own_is = h.2; theirs_is = h.1.gets; ins_is = sym (taken_without p.lock h.1); outs_is = h.3 })

pub same_change : SameChange
same_change s c p t = (follows s c p t, following s c p t)

-- what is added to a list is missing on the side that it came from, and back
added_total : (p : Payment) (ps qs : List Payment) (from left : ℕ) → AddedTo p ps qs from left → left + amounts qs ≡ from + amounts ps
added_total p ps qs from left h =
    let more : amounts qs ≡ p.amount + amounts ps = ap amounts h.list ∙ sum_by-cons (λ (q : Payment). q.amount) p ps in
    omega (arith, h.covered)

taken_total : (lock : List ℕ) (ps qs : List Payment) (to more : ℕ) → TakenOff lock ps qs to more → more + amounts qs ≡ to + amounts ps
taken_total lock ps qs to more h =
    let all : amounts ps ≡ amounts h.front + amounts (h.payment ∷ h.back) = ap amounts h.stands ∙ sum_by-append (λ (q : Payment). q.amount) h.front (h.payment ∷ h.back) in
    let one : amounts (h.payment ∷ h.back) ≡ h.payment.amount + amounts h.back = sum_by-cons (λ (q : Payment). q.amount) h.payment h.back in
    let others : amounts qs ≡ amounts h.front + amounts h.back = ap amounts h.others ∙ sum_by-append (λ (q : Payment). q.amount) h.front h.back in
    omega (arith, h.gets)

total : (s : Content) (c : Change) (p : Payment) (t : Content) → Follows s c p t → (total_of t ≡ total_of s) × Next s t
total s Offered p t h = (omega (arith, added_total p s.ins t.ins s.theirs t.theirs h.1, h.2, ap amounts h.3), h.0)
total s PassingOn p t h = (omega (arith, added_total p s.outs t.outs s.own t.own h.1, h.2, ap amounts h.3), h.0)
total s Paying p t h = (omega (arith, taken_total p.lock s.outs t.outs s.theirs t.theirs h.1, h.2, ap amounts h.3), h.0)
total s Getting p t h = (omega (arith, taken_total p.lock s.ins t.ins s.own t.own h.1, h.2, ap amounts h.3), h.0)
total s Returned p t h = (omega (arith, taken_total p.lock s.outs t.outs s.own t.own h.1, h.2, ap amounts h.3), h.0)
total s GivingUp p t h = (omega (arith, taken_total p.lock s.ins t.ins s.theirs t.theirs h.1, h.2, ap amounts h.3), h.0)

pub keeps_total : KeepsTotal
keeps_total s c p t e = total s c p t (follows s c p t e)

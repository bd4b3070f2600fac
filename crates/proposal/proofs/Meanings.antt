-- What is recognised is meant, and what is meant is recognised.
use Rattle.std.proofs.Common.{◌≡◌, ℕ, ◌+◌, ◌-◌, Bool, true, false, ◌&&◌, ◌||◌, eqb, ltb, ◌⊎◌, List, [], ◌∷◌, ◌++◌, length, Some, None, Ok, Err, Option, Result, sym, refl, ap, ◌∙◌, subst, inl, inr, arith}
use Rattle.std.proofs.lemmas.List.{length-append}
use Rattle.std.proofs.lemmas.Bool.{ltb-true, eqb-true, eq-eqb, and_parts, and_from, or_cases, or_right, cond-true, cond-false}
use Rattle.std.specs.Option.{option_or}
use Rattle.refusal.specs.declared.Refusal.{Refusal}
use Rattle.sheet.specs.declared.types.Payment.{Payment}
use Rattle.sheet.specs.Contents.{Content}
use Rattle.change.specs.declared.types.Change.{Change}
use Rattle.change.specs.declared.types.Change.TheVariants.{Offered, Getting, Returned}
use Rattle.change.specs.Changes.{changed}
use Rattle.change.specs.Follows.{Next, TakenOff}
use Rattle.change.specs.Reasons.{Applies}
use Rattle.change.proofs.Standing.{none_some, same_some, taken_found}
use Rattle.change.proofs.Same.{follows, following}
use Rattle.change.proofs.Lowest.{lowest_given}
use Rattle.proposal.specs.declared.types.Proposal.{Proposal}
use Rattle.proposal.specs.Sames.{same_payment, same_payments}
use Rattle.proposal.specs.Proposals.{adds_in, offer_of, missing_from, gives, removal_of}
use Rattle.proposal.specs.Recognised.{RemovalMeant, Meant, RecognisedIsMeant, NoneOverlooked}
use Rattle.proposal.proofs.Equalities.{same_payment_decides, same_payments_decides, same_content_decides}

-- the payment that is taken off is the one that is missing, also before others like it
missing_one : (x : Payment) (ys : List Payment) → missing_from (x ∷ ys) ys ≡ Some x
missing_one x [] = refl
missing_one x (y ∷ ys) = by (same_payment x y) refl (missing_one y ys)
  where
    by : (b : Bool) → same_payment x y ≡ b → missing_from (y ∷ ys) ys ≡ Some y → missing_from (x ∷ y ∷ ys) (y ∷ ys) ≡ Some x
    by true e rest = cond-true (same_payment x y) (missing_from (y ∷ ys) ys) (Some x) e ∙ rest ∙ ap (λ z. Some z) (sym ((same_payment_decides x y).0 e))
    by false e rest = cond-false (same_payment x y) (missing_from (y ∷ ys) ys) (Some x) e

missing_past : (front back : List Payment) (x : Payment) → missing_from (front ++ x ∷ back) (front ++ back) ≡ Some x
missing_past [] back x = missing_one x back
missing_past (q ∷ front) back x = cond-true (same_payment q q) (missing_from (front ++ x ∷ back) (front ++ back)) (Some q) ((same_payment_decides q q).1 refl) ∙ missing_past front back x

missing_taken : {lock : List ℕ} {ps qs : List Payment} {to more : ℕ} (r : TakenOff lock ps qs to more) → missing_from ps qs ≡ Some r.payment
missing_taken {lock} {ps} {qs} {to} {more} r =
    ap (λ zs. missing_from zs qs) r.stands ∙ ap (λ zs. missing_from (r.front ++ r.payment ∷ r.back) zs) r.others ∙ missing_past r.front r.back r.payment

missing_same : (ps : List Payment) → missing_from ps ps ≡ None
missing_same [] = refl
missing_same (p ∷ ps) = cond-true (same_payment p p) (missing_from ps ps) (Some p) ((same_payment_decides p p).1 refl) ∙ missing_same ps

shorter : {lock : List ℕ} {ps qs : List Payment} {to more : ℕ} → TakenOff lock ps qs to more → length qs + 1 ≡ length ps
shorter {lock} {ps} {qs} {to} {more} r =
    omega (arith, ap length r.stands, length-append r.front (r.payment ∷ r.back), ap length r.others, length-append r.front r.back)

or_some : {X : Type 0} (a b : Option X) (x : X) → option_or a b ≡ Some x → (a ≡ Some x) ⊎ (b ≡ Some x)
or_some None b x e = inr e
or_some (Some y) b x e = inl e

-- a removal, from what is recognised and back
gives_ok : (r : Result Content Refusal) (t : Content) → gives r t ≡ true → r ≡ Ok t
gives_ok (Ok s) t e = ap (λ x. Ok x) ((same_content_decides s t).0 e)
gives_ok (Err f) t e = let z : ◌≡◌ {A = ℕ} 0 1 = cc in absurd (omega arith)

pub record Removed (s t : Content) (c d : Change) (gone : Option Payment) (p : Payment) : Type 0 where
  pub which : c ≡ d
  pub one : gone ≡ Some p
  pub result : changed s c p ≡ Ok t

removal_some : (s t : Content) (c d : Change) (gone : Option Payment) (p : Payment) → removal_of s t c gone ≡ Some (record { change = d; payment = p }) → Removed s t c d gone p
removal_some s t c d None p e = absurd (none_some e)
removal_some s t c d (Some q) p e = by (gives (changed s c q) t) refl
  where
    by : (b : Bool) → gives (changed s c q) t ≡ b → Removed s t c d (Some q) p
    by true f =
        let same : ◌≡◌ {A = Proposal} (record { change = c; payment = q }) (record { change = d; payment = p }) = same_some (sym (cond-true (gives (changed s c q) t) (Some (record { change = c; payment = q })) None f) ∙ e) in
        let one : q ≡ p = ap (λ (x : Proposal). x.payment) same in
        record { which = ap (λ (x : Proposal). x.change) same; one = ap (λ z. Some z) one; result = subst (λ (z : Payment). changed s c z ≡ Ok t) one (gives_ok (changed s c q) t f) }
    by false f = absurd (none_some (sym (cond-false (gives (changed s c q) t) (Some (record { change = c; payment = q })) None f) ∙ e))

removal_is : (s t : Content) (c : Change) (o : Option Payment) (p : Payment) → o ≡ Some p → changed s c p ≡ Ok t → removal_of s t c o ≡ Some (record { change = c; payment = p })
removal_is s t c o p e f =
    ap (removal_of s t c) e ∙ cond-true (gives (changed s c p) t) (Some (record { change = c; payment = p })) None (ap (λ r. gives r t) f ∙ (same_content_decides t t).1 refl)

-- an offer, from what is recognised and back
pub record AddsIn (s t : Content) (p : Payment) (others : List Payment) : Type 0 where
  pub ins : others ≡ s.ins
  pub outs : t.outs ≡ s.outs
  pub own : t.own ≡ s.own
  pub account : t.account ≡ s.account
  pub number : t.number ≡ s.number + 1
  pub theirs : (ltb s.theirs p.amount || eqb t.theirs (s.theirs - p.amount)) ≡ true

module _ (s t : Content) (p : Payment) (others : List Payment) where
  adds_in_lem : adds_in s t p others ≡ true → AddsIn s t p others
  adds_in_lem e =
      let a = and_parts (same_payments others s.ins && same_payments t.outs s.outs && eqb t.own s.own && eqb t.account s.account && eqb t.number (s.number + 1)) (ltb s.theirs p.amount || eqb t.theirs (s.theirs - p.amount)) e in
      let b = and_parts (same_payments others s.ins && same_payments t.outs s.outs && eqb t.own s.own && eqb t.account s.account) (eqb t.number (s.number + 1)) a.0 in
      let c = and_parts (same_payments others s.ins && same_payments t.outs s.outs && eqb t.own s.own) (eqb t.account s.account) b.0 in
      let d = and_parts (same_payments others s.ins && same_payments t.outs s.outs) (eqb t.own s.own) c.0 in
      let f = and_parts (same_payments others s.ins) (same_payments t.outs s.outs) d.0 in
      record {
        ins = (same_payments_decides others s.ins).0 f.0;
        outs = (same_payments_decides t.outs s.outs).0 f.1;
        own = eqb-true t.own s.own d.1;
        account = eqb-true t.account s.account c.1;
        number = eqb-true t.number (s.number + 1) b.1;
        theirs = a.1;
      }

  in_added : AddsIn s t p others → adds_in s t p others ≡ true
  in_added h =
      and_from _ _
      (and_from _ _
      (and_from _ _
      (and_from _ _ (and_from _ _ ((same_payments_decides others s.ins).1 h.ins) ((same_payments_decides t.outs s.outs).1 h.outs)) (eq-eqb t.own s.own h.own))
      (eq-eqb t.account s.account h.account))
      (eq-eqb t.number (s.number + 1) h.number))
      h.theirs

pub record OfferFound (s t : Content) (d : Change) (ins : List Payment) (p : Payment) : Type 0 where
  pub which : Offered ≡ d
  pub list : ins ≡ p ∷ s.ins
  pub rest : AddsIn s t p s.ins

offer_some : (s t : Content) (d : Change) (ins : List Payment) (p : Payment) → offer_of s t ins ≡ Some (record { change = d; payment = p }) → OfferFound s t d ins p
offer_some s t d [] p e = absurd (none_some e)
offer_some s t d (q ∷ others) p e = by (adds_in s t q others) refl
  where
    by : (b : Bool) → adds_in s t q others ≡ b → OfferFound s t d (q ∷ others) p
    by true f =
        let same : ◌≡◌ {A = Proposal} (record { change = Offered; payment = q }) (record { change = d; payment = p }) = same_some (sym (cond-true (adds_in s t q others) (Some (record { change = Offered; payment = q })) None f) ∙ e) in
        let one : q ≡ p = ap (λ (x : Proposal). x.payment) same in
        let h = adds_in_lem s t q others f in
        record {
          which = ap (λ (x : Proposal). x.change) same;
          list = ap (λ z. z ∷ others) one ∙ ap (λ zs. p ∷ zs) h.ins;
          rest = record { ins = refl; outs = h.outs; own = h.own; account = h.account; number = h.number; theirs = subst (λ (z : Payment). (ltb s.theirs z.amount || eqb t.theirs (s.theirs - z.amount)) ≡ true) one h.theirs };
        }
    by false f = absurd (none_some (sym (cond-false (adds_in s t q others) (Some (record { change = Offered; payment = q })) None f) ∙ e))

offer_none : (s t : Content) → (length t.ins ≡ length s.ins + 1 → ⊥) → offer_of s t t.ins ≡ None
offer_none s t h = by (offer_of s t t.ins) refl
  where
    by : (o : Option Proposal) → offer_of s t t.ins ≡ o → o ≡ None
    by None e = refl
    by (Some r) e = absurd (h (omega (arith, ap length (offer_some s t r.change t.ins r.payment e).list)))

-- what the change gives is the proposed sheet, or a refusal
offer_result : (s t : Content) (p : Payment) → AddsIn s t p s.ins → t.ins ≡ p ∷ s.ins → (changed s Offered p ≡ Ok t) ⊎ ((e : Refusal) × (changed s Offered p ≡ Err e) × Applies s Offered p e)
offer_result s t p h list = by (changed s Offered p) refl
  where
    by : (r : Result Content Refusal) → changed s Offered p ≡ r → (changed s Offered p ≡ Ok t) ⊎ ((e : Refusal) × (changed s Offered p ≡ Err e) × Applies s Offered p e)
    by (Err e) f = inr (e, f, (lowest_given s Offered p e f).0)
    by (Ok u) f =
        let g = follows s Offered p u f in
        let left : t.theirs ≡ u.theirs = elim (or_cases (ltb s.theirs p.amount) (eqb t.theirs (s.theirs - p.amount)) h.theirs) [ inl k ↦ absurd (omega (arith, ltb-true s.theirs p.amount k, g.1.covered)) | inr k ↦ omega (arith, eqb-true t.theirs (s.theirs - p.amount) k, g.1.covered) ] in
        let whole : ◌≡◌ {A = Content} (record { account = u.account; number = u.number; own = u.own; theirs = u.theirs; ins = u.ins; outs = u.outs }) (record { account = t.account; number = t.number; own = t.own; theirs = t.theirs; ins = t.ins; outs = t.outs }) = cc (g.0.account, g.0.number, g.1.list, g.2, g.3, h.outs, h.own, h.account, h.number) in
        inl (f ∙ ap (λ (x : Content). Ok x) whole)

removal_meant : (s t : Content) (c d : Change) (list proposed : List Payment) (p : Payment) → Removed s t c d (missing_from list proposed) p → (to more : ℕ) → TakenOff p.lock list proposed to more → RemovalMeant s t c p list
removal_meant s t c d list proposed p h to more r = (h.result, taken_found p.lock r ∙ sym (missing_taken r) ∙ h.one)

pub recognised_is_meant : RecognisedIsMeant
recognised_is_meant s t c p e = by (or_some (offer_of s t t.ins) (option_or (removal_of s t Returned (missing_from s.outs t.outs)) (removal_of s t Getting (missing_from s.ins t.ins))) (record { change = c; payment = p }) e)
  where
    later : (removal_of s t Returned (missing_from s.outs t.outs) ≡ Some (record { change = c; payment = p })) ⊎ (removal_of s t Getting (missing_from s.ins t.ins) ≡ Some (record { change = c; payment = p })) → Meant s t c p
    later (inl f) =
        let h = removal_some s t Returned c (missing_from s.outs t.outs) p f in
        subst (λ (x : Change). Meant s t x p) h.which (removal_meant s t Returned c s.outs t.outs p h s.own t.own (follows s Returned p t h.result).1)
    later (inr f) =
        let h = removal_some s t Getting c (missing_from s.ins t.ins) p f in
        subst (λ (x : Change). Meant s t x p) h.which (removal_meant s t Getting c s.ins t.ins p h s.own t.own (follows s Getting p t h.result).1)

    by : (offer_of s t t.ins ≡ Some (record { change = c; payment = p })) ⊎ (option_or (removal_of s t Returned (missing_from s.outs t.outs)) (removal_of s t Getting (missing_from s.ins t.ins)) ≡ Some (record { change = c; payment = p })) → Meant s t c p
    by (inl f) =
        let h = offer_some s t c t.ins p f in
        subst (λ (x : Change). Meant s t x p) h.which (record { ins = h.list; outs = h.rest.outs; own = h.rest.own; account = h.rest.account; number = h.rest.number; result = offer_result s t p h.rest h.list })
    by (inr f) = later (or_some (removal_of s t Returned (missing_from s.outs t.outs)) (removal_of s t Getting (missing_from s.ins t.ins)) (record { change = c; payment = p }) f)

-- of a payment that is taken off only the lock counts
same_removed : (s t : Content) (p q : Payment) → q.lock ≡ p.lock → (changed s Returned p ≡ Ok t → changed s Returned q ≡ Ok t) × (changed s Getting p ≡ Ok t → changed s Getting q ≡ Ok t)
same_removed s t p q e = (
  λ f. following s Returned q t (subst (λ (lock : List ℕ). Next s t × TakenOff lock s.outs t.outs s.own t.own × (t.theirs ≡ s.theirs) × (t.ins ≡ s.ins)) (sym e) (follows s Returned p t f)),
  λ f. following s Getting q t (subst (λ (lock : List ℕ). Next s t × TakenOff lock s.ins t.ins s.own t.own × (t.theirs ≡ s.theirs) × (t.outs ≡ s.outs)) (sym e) (follows s Getting p t f)),
)

pub none_overlooked : NoneOverlooked
none_overlooked s t p =
    record {
      offered = λ e.
          let h = follows s Offered p t e in
          let left : t.theirs ≡ s.theirs - p.amount = omega (arith, h.1.covered) in
          let adds : AddsIn s t p s.ins = record { ins = refl; outs = h.3; own = h.2; account = h.0.account; number = h.0.number; theirs = or_right (ltb s.theirs p.amount) (eqb t.theirs (s.theirs - p.amount)) (eq-eqb t.theirs (s.theirs - p.amount) left) } in
          let found_it : offer_of s t t.ins ≡ Some (record { change = Offered; payment = p }) = ap (offer_of s t) h.1.list ∙ cond-true (adds_in s t p s.ins) (Some (record { change = Offered; payment = p })) None (in_added s t p s.ins adds) in
          ap (λ o. option_or o (option_or (removal_of s t Returned (missing_from s.outs t.outs)) (removal_of s t Getting (missing_from s.ins t.ins)))) found_it;
      returned = λ e.
          let h = follows s Returned p t e in
          let r = h.1 in
          let no-offer : offer_of s t t.ins ≡ None = offer_none s t (λ k. omega (arith, ap length h.3)) in
          let it : removal_of s t Returned (missing_from s.outs t.outs) ≡ Some (record { change = Returned; payment = r.payment }) = removal_is s t Returned (missing_from s.outs t.outs) r.payment (missing_taken r) ((same_removed s t p r.payment r.has).0 e) in (
            r.payment,
            r.has,
            ap (λ o. option_or o (option_or (removal_of s t Returned (missing_from s.outs t.outs)) (removal_of s t Getting (missing_from s.ins t.ins)))) no-offer
                ∙ ap (λ o. option_or o (removal_of s t Getting (missing_from s.ins t.ins))) it,
          );
      getting = λ e.
          let h = follows s Getting p t e in
          let r = h.1 in
          let no-offer : offer_of s t t.ins ≡ None = offer_none s t (λ k. omega (arith, shorter r)) in
          let no_return : removal_of s t Returned (missing_from s.outs t.outs) ≡ None = ap (λ zs. removal_of s t Returned (missing_from s.outs zs)) h.3 ∙ ap (removal_of s t Returned) (missing_same s.outs) in
          let it : removal_of s t Getting (missing_from s.ins t.ins) ≡ Some (record { change = Getting; payment = r.payment }) = removal_is s t Getting (missing_from s.ins t.ins) r.payment (missing_taken r) ((same_removed s t p r.payment r.has).1 e) in (
            r.payment,
            r.has,
            ap (λ o. option_or o (option_or (removal_of s t Returned (missing_from s.outs t.outs)) (removal_of s t Getting (missing_from s.ins t.ins)))) no-offer
                ∙ ap (λ o. option_or o (removal_of s t Getting (missing_from s.ins t.ins))) no_return
                ∙ it,
          );
    }

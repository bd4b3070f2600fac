-- What is found is the least.
use Rattle.std.proofs.Common.{◌≡◌, ℕ, ◌≤◌, Bool, true, false, not, ◌&&◌, ◌||◌, leb, List, [], ◌∷◌, map, length, Some, None, sum_by, Option, sym, refl, ap, ◌∙◌, subst, inl, inr, arith}
use Rattle.std.specs.List.{flat_map}
use Rattle.std.specs.Str.{bytes_eq}
use Rattle.std.proofs.lemmas.List.Sums.{sum_by-cons}
use Rattle.std.proofs.lemmas.Bool.{cond_both, and_parts, or_cases, leb-true, both_ways}
use Rattle.sheet.specs.declared.types.Payment.{Payment}
use Rattle.sheet.specs.Contents.{Content, first_of}
use Rattle.account.specs.Accounts.{Standing, opened_of}
use Rattle.change.proofs.Standing.{none_some, same_some}
use Rattle.node_state.specs.Nodes.{NodeState, account_at}
use Rattle.judgement.specs.Tests.{has_key}
use Rattle.moments.specs.Moments.{sum_to, those, worth_by, Counts}
use Rattle.moments.proofs.Sums.{sum_mono}
use Rattle.counting.specs.Orders.{is_part, is_beside, is_below, in_order, is_orderly, lesser_of, lesser}
use Rattle.counting.specs.Leasts.{outs_with, is_worse_shown, least_by, lessers}
use Rattle.counting.specs.Theorems.{FoundIsLeast}
use Rattle.counting.proofs.Lists.{sum_places, those_joined, worth_joined}
use Rattle.counting.proofs.Hiding.{worse_least, worse_known}
use Rattle.counting.proofs.Parts.{beside_those}

or_swap : (a b : Bool) → (a || b) ≡ true → (b || a) ≡ true
or_swap true true e = refl
or_swap true false e = refl
or_swap false true e = refl
or_swap false false e = e

beside_swap : (xs ys : List Payment) → is_beside xs ys ≡ true → is_beside ys xs ≡ true
beside_swap xs ys h = or_swap (is_part xs ys) (is_part ys xs) h

-- the lesser sheet
module _ (comes shown : List ℕ → Bool) where
  below_worth : (x y : Content) → is_beside x.ins y.ins ≡ true → is_beside x.outs y.outs ≡ true → is_below x y ≡ true → worth_by comes shown x ≤ worth_by comes shown y
  below_worth x y i o b =
      omega (
        arith,
        leb-true _ _ b,
        beside_those comes x.ins y.ins i,
        beside_those (λ lock. not (shown lock)) x.outs y.outs o,
      )

  lesser_least : (a : Standing) → is_orderly a ≡ true → (s : Content) → Counts a s → worth_by comes shown (lesser a) ≤ worth_by comes shown s
  lesser_least a h s c = by a.next refl h
    where
      of : (z : Content) → (a.held ≡ s → worth_by comes shown z ≤ worth_by comes shown a.held) → (a.next ≡ Some s → worth_by comes shown z ≤ worth_by comes shown s) → worth_by comes shown z ≤ worth_by comes shown s
      of z f g = elim c [ inl e ↦ subst (λ (y : Content). worth_by comes shown z ≤ worth_by comes shown y) e (f e) | inr e ↦ g e ]

      by : (o : Option Content) → a.next ≡ o → in_order a.held o ≡ true → worth_by comes shown (lesser_of a.held o) ≤ worth_by comes shown s
      by None e h = of a.held (λ _. omega arith) (λ g. absurd (none_some (sym e ∙ g)))
      by (Some t) e h =
          let parts = and_parts (is_beside a.held.ins t.ins && is_beside a.held.outs t.outs) (is_below t a.held || is_below a.held t) h in
          let sides = and_parts (is_beside a.held.ins t.ins) (is_beside a.held.outs t.outs) parts.0 in
          cond_both (is_below t a.held) t a.held (λ (z : Content). worth_by comes shown z ≤ worth_by comes shown s)
          (λ below.
          of t
          (λ _. below_worth t a.held (beside_swap a.held.ins t.ins sides.0) (beside_swap a.held.outs t.outs sides.1) below)
          (λ g. subst (λ (y : Content). worth_by comes shown t ≤ worth_by comes shown y) (same_some (sym e ∙ g)) (omega arith)))
          (λ above.
          of a.held
          (λ _. omega arith)
          (λ g.
          subst (λ (y : Content). worth_by comes shown a.held ≤ worth_by comes shown y) (same_some (sym e ∙ g))
          (elim (or_cases (is_below t a.held) (is_below a.held t) parts.1) [
            | inl b ↦ absurd (both_ways (is_below t a.held) above b)
            | inr b ↦ below_worth a.held t sides.0 sides.1 b
          ])))

lesser_counts : (a : Standing) → Counts a (lesser a)
lesser_counts a = by a.next refl
  where
    by : (o : Option Content) → a.next ≡ o → Counts a (lesser_of a.held o)
    by None e = inl refl
    by (Some t) e = cond_both (is_below t a.held) t a.held (λ (z : Content). Counts a z) (λ _. inr e) (λ _. inl refl)

pub sum_map : {X Y : Type 0} (w : Y → ℕ) (g : X → Y) (xs : List X) → sum_by w (map g xs) ≡ sum_by (λ x. w (g x)) xs
sum_map w g [] = refl
sum_map w g (x ∷ xs) = omega (arith, sum_by-cons w (g x) (map g xs), sum_by-cons (λ z. w (g z)) x xs, sum_map w g xs)

module _ (known : List ℕ → Bool) (cs : List Content) where
  abbrev all_ins : List Payment
  all_ins = flat_map (λ s. s.ins) cs

  abbrev all_outs : List Payment
  all_outs = flat_map (λ s. s.outs) cs

  is : (l : List ℕ) → is_worse_shown known cs l ≡ (known l || leb (those (λ x. bytes_eq x l) all_ins) (those (λ x. bytes_eq x l) all_outs))
  is l =
      ap (λ (k : ℕ). known l || leb k (outs_with cs l)) (those_joined (λ x. bytes_eq x l) (λ s. s.ins) cs)
      ∙ ap (λ (k : ℕ). known l || leb (those (λ x. bytes_eq x l) all_ins) k) (those_joined (λ x. bytes_eq x l) (λ s. s.outs) cs)

  pub found_at : least_by known cs ≡ sum_by (worth_by (λ l. is_worse_shown known cs l || known l) (is_worse_shown known cs)) cs
  found_at =
      omega (
        arith,
        worth_joined (is_worse_shown known cs) (is_worse_shown known cs) cs,
        worth_joined (λ l. is_worse_shown known cs l || known l) (is_worse_shown known cs) cs,
        worse_known known (is_worse_shown known cs) all_ins all_outs is,
      )

  pub found_least : (shown : List ℕ → Bool) → least_by known cs ≤ sum_by (worth_by (λ l. shown l || known l) shown) cs
  found_least shown =
      omega (
        arith,
        found_at,
        worth_joined (λ l. is_worse_shown known cs l || known l) (is_worse_shown known cs) cs,
        worth_joined (λ l. shown l || known l) shown cs,
        worse_least known (is_worse_shown known cs) all_ins all_outs is shown,
      )

-- the lesser sheets by the accounts' numbers
by_places : (n : NodeState) (w : Content → ℕ) → sum_to (length n.accounts) (λ k. w (lesser (account_at n k))) ≡ sum_by w (lessers n)
by_places n w = sum_places (λ (a : Standing). w (lesser a)) n.accounts (opened_of (first_of 0 0 0)) ∙ sym (sum_map w lesser n.accounts)

pub found_is_least : FoundIsLeast
found_is_least n orderly =
    record {
      none_less = λ choice chosen shown.
          omega (
            arith,
            found_least (has_key n) (lessers n) shown,
            by_places n (worth_by (λ l. shown l || has_key n l) shown),
            sum_mono (length n.accounts) (λ k. worth_by (λ l. shown l || has_key n l) shown (lesser (account_at n k))) (λ k. worth_by (λ l. shown l || has_key n l) shown (choice k))
                (λ k l. lesser_least (λ lock. shown lock || has_key n lock) shown (account_at n k) (orderly k l) (choice k) (chosen k l)),
          );
      choice = λ k. lesser (account_at n k);
      chosen = λ k _. lesser_counts (account_at n k);
      shown = is_worse_shown (has_key n) (lessers n);
      reached = by_places n (worth_by (λ l. is_worse_shown (has_key n) (lessers n) l || has_key n l) (is_worse_shown (has_key n) (lessers n))) ∙ sym (found_at (has_key n) (lessers n));
    }

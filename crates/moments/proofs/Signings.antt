-- What each of the six signings comes to: which ins and outs may count afterwards, and what follows of all of them.
use Rattle.std.proofs.Common.{◌≡◌, ℕ, ◌+◌, ◌<◌, ◌≤◌, ◌⊎◌, List, length, set, Some, None, Option, sym, refl, ap, ◌∙◌, subst, inl, inr}
use Rattle.sheet.specs.declared.types.Payment.{Payment}
use Rattle.sheet.specs.Contents.{Content, first_of}
use Rattle.account.specs.Accounts.{Standing, opened_of, signed_of}
use Rattle.change.specs.declared.types.Change.{Change}
use Rattle.change.specs.declared.types.Change.TheVariants.{Offered, PassingOn, Paying, Getting, Returned, GivingUp}
use Rattle.change.specs.Follows.{Follows}
use Rattle.change.specs.Totals.{total_of}
use Rattle.change.proofs.Standing.{none_some, same_some}
use Rattle.change.proofs.Same.{following, keeps_total}
use Rattle.schedule.specs.declared.types.Terms.{Terms}
use Rattle.node_state.specs.declared.types.Route.{Route}
use Rattle.node_state.specs.Nodes.{NodeState, account_at}
use Rattle.moments.specs.Runs.{Deposit, deposit_at}
use Rattle.moments.specs.Moments.{Counts, Stands, In, Out, Apart, Payments}
use Rattle.moments.specs.Moves.{Fresh}
use Rattle.moments.proofs.Sums.{taken_stands, taken_apart, added_apart, added_stands}
use Rattle.moments.proofs.Places.{at_put, counts_signed}

-- the out p in account i is for an in of another account
pub record PassedAs (n : NodeState) (i : ℕ) (p : Payment) (route : List ℕ → Option Route) : Type 0 where
  pub from : ℕ
  pub incoming : Payment
  pub stands : In n from incoming
  pub lock : incoming.lock ≡ p.lock
  pub unrouted : n.route_of p.lock ≡ None
  pub routed : route p.lock ≡ Some (record { from = from; to = i })
  pub covers : p.amount ≤ incoming.amount
  pub apart : p.end + n.terms.gap ≤ incoming.end

-- s is signed in account i
pub record Signing (n : NodeState) (i : ℕ) (p : Payment) (s : Content) (route : List ℕ → Option Route) : Type 0 where
  pub ins : (x : Payment) → Stands x s.ins → Stands x (account_at n i).held.ins ⊎ ((x ≡ p) × Fresh n p.lock)
  pub outs : (x : Payment) → Stands x s.outs → Stands x (account_at n i).held.outs ⊎ ((x ≡ p) × PassedAs n i p route)
  pub apart_ins : Apart (account_at n i).held.ins → Apart s.ins
  pub apart_outs : Apart (account_at n i).held.outs → Apart s.outs
  pub number : s.number ≡ (account_at n i).held.number + 1
  pub account : s.account ≡ (account_at n i).held.account
  pub total : total_of s ≡ total_of (account_at n i).held

-- what a change wants of the payment that it adds
abbrev pub Adds : NodeState → ℕ → Change → Payment → (List ℕ → Option Route) → Type 0
Adds n i Offered p route = Fresh n p.lock
Adds n i PassingOn p route = PassedAs n i p route
Adds n i Paying p route = Unit {0}
Adds n i Getting p route = Unit {0}
Adds n i Returned p route = Unit {0}
Adds n i GivingUp p route = Unit {0}

kept_stands : {A : Type 0} {ps qs : List Payment} → qs ≡ ps → (x : Payment) → Stands x qs → Stands x ps ⊎ A
kept_stands e x h = inl (subst (λ (zs : List Payment). Stands x zs) e h)

kept_apart : {ps qs : List Payment} → qs ≡ ps → Apart ps → Apart qs
kept_apart e h = subst Apart (sym e) h

more_stands : {A B C : Type 0} → C → A ⊎ B → A ⊎ (B × C)
more_stands a (inl h) = inl h
more_stands a (inr e) = inr (e, a)

pub signing : (n : NodeState) (i : ℕ) (c : Change) (p : Payment) (s : Content) (route : List ℕ → Option Route) → Follows (account_at n i).held c p s → Adds n i c p route → Signing n i p s route
signing n i c p s route h a = by c h a (keeps_total (account_at n i).held c p s (following (account_at n i).held c p s h)).0
  where
    by : (c : Change) → Follows (account_at n i).held c p s → Adds n i c p route → total_of s ≡ total_of (account_at n i).held → Signing n i p s route
    by Offered h a t =
        record { ins = λ x m. more_stands a (added_stands h.1 x m); outs = λ x m. kept_stands h.3 x m; apart_ins = added_apart h.1; apart_outs = kept_apart h.3; number = h.0.number; account = h.0.account; total = t }
    by PassingOn h a t =
        record { ins = λ x m. kept_stands h.3 x m; outs = λ x m. more_stands a (added_stands h.1 x m); apart_ins = kept_apart h.3; apart_outs = added_apart h.1; number = h.0.number; account = h.0.account; total = t }
    by Paying h a t =
        record { ins = λ x m. kept_stands h.3 x m; outs = λ x m. inl (taken_stands h.1 x m); apart_ins = kept_apart h.3; apart_outs = taken_apart h.1; number = h.0.number; account = h.0.account; total = t }
    by Getting h a t =
        record { ins = λ x m. inl (taken_stands h.1 x m); outs = λ x m. kept_stands h.3 x m; apart_ins = taken_apart h.1; apart_outs = kept_apart h.3; number = h.0.number; account = h.0.account; total = t }
    by Returned h a t =
        record { ins = λ x m. kept_stands h.3 x m; outs = λ x m. inl (taken_stands h.1 x m); apart_ins = kept_apart h.3; apart_outs = taken_apart h.1; number = h.0.number; account = h.0.account; total = t }
    by GivingUp h a t =
        record { ins = λ x m. inl (taken_stands h.1 x m); outs = λ x m. kept_stands h.3 x m; apart_ins = taken_apart h.1; apart_outs = kept_apart h.3; number = h.0.number; account = h.0.account; total = t }

-- the node afterwards
abbrev pub signed_as : NodeState → ℕ → Content → (List ℕ → Option Route) → NodeState
signed_as n i s route = record { terms = n.terms; accounts = set n.accounts i (signed_of (account_at n i) s); key_of = n.key_of; route_of = route }

-- what holds of each account and of the payments
pub record Kept (ds : List Deposit) (n : NodeState) : Type 0 where
  pub two : (k : ℕ) (s : Content) → (account_at n k).next ≡ Some s → (s.number ≡ (account_at n k).held.number + 1) × (s.account ≡ (account_at n k).held.account)
  pub total : (k : ℕ) (s : Content) → Counts (account_at n k) s → total_of s ≡ (deposit_at ds k).own + (deposit_at ds k).theirs
  pub place : (k : ℕ) (s : Content) → k < length ds → Counts (account_at n k) s → s.account ≡ k
  pub payments : Payments n

module _ (n : NodeState) (i : ℕ) (p : Payment) (s : Content) (route : List ℕ → Option Route) (new : Signing n i p s route) where
  pub counts_after : (k : ℕ) (r : Content) → Counts (account_at (signed_as n i s route) k) r → Counts (account_at n k) r ⊎ ((k ≡ i) × (r ≡ s))
  counts_after k =
      at_put (λ (k : ℕ) (a : Standing). (r : Content) → Counts a r → Counts (account_at n k) r ⊎ ((k ≡ i) × (r ≡ s))) n.accounts i (signed_of (account_at n i) s) (opened_of (first_of 0 0 0))
      (λ r h. elim (counts_signed (account_at n i) s r h) [ inl g ↦ inl g | inr e ↦ inr (refl, e) ])
      (λ k r h. inl h)
      k

  pub in_after : (k : ℕ) (x : Payment) → In (signed_as n i s route) k x → In n k x ⊎ ((k ≡ i) × (x ≡ p) × Fresh n p.lock)
  in_after k x (r, c, m) =
      elim (counts_after k r c) [
        | inl g ↦ inl (r, g, m)
        | inr g ↦ elim (new.ins x (subst (λ (z : Content). Stands x z.ins) g.1 m)) [
          | inl old ↦ inl (subst (λ (j : ℕ). In n j x) (sym g.0) ((account_at n i).held, inl refl, old))
          | inr f ↦ inr (g.0, f.0, f.1)
        ]
      ]

  pub out_after : (k : ℕ) (x : Payment) → Out (signed_as n i s route) k x → Out n k x ⊎ ((k ≡ i) × (x ≡ p) × PassedAs n i p route)
  out_after k x (r, c, m) =
      elim (counts_after k r c) [
        | inl g ↦ inl (r, g, m)
        | inr g ↦ elim (new.outs x (subst (λ (z : Content). Stands x z.outs) g.1 m)) [
          | inl old ↦ inl (subst (λ (j : ℕ). Out n j x) (sym g.0) ((account_at n i).held, inl refl, old))
          | inr f ↦ inr (g.0, f.0, f.1)
        ]
      ]

  module _ (ds : List Deposit) (grows : (lock : List ℕ) (r : Route) → n.route_of lock ≡ Some r → route lock ≡ Some r) (old : Kept ds n) where
    signed_two : (k : ℕ) (t : Content) → (account_at (signed_as n i s route) k).next ≡ Some t → (t.number ≡ (account_at (signed_as n i s route) k).held.number + 1) × (t.account ≡ (account_at (signed_as n i s route) k).held.account)
    signed_two =
        at_put (λ (k : ℕ) (a : Standing). (t : Content) → a.next ≡ Some t → (t.number ≡ a.held.number + 1) × (t.account ≡ a.held.account)) n.accounts i (signed_of (account_at n i) s) (opened_of (first_of 0 0 0))
        (λ t e. subst (λ (z : Content). (z.number ≡ (account_at n i).held.number + 1) × (z.account ≡ (account_at n i).held.account)) (same_some e) (new.number, new.account))
        (λ k t e. old.two k t e)

    signed_total : (k : ℕ) (t : Content) → Counts (account_at (signed_as n i s route) k) t → total_of t ≡ (deposit_at ds k).own + (deposit_at ds k).theirs
    signed_total k t c =
        elim (counts_after k t c) [
          | inl g ↦ old.total k t g
          | inr g ↦ subst (λ (z : Content). total_of z ≡ (deposit_at ds k).own + (deposit_at ds k).theirs) (sym g.1) (subst (λ (j : ℕ). total_of s ≡ (deposit_at ds j).own + (deposit_at ds j).theirs) (sym g.0) (new.total ∙ old.total i (account_at n i).held (inl refl)))
        ]

    signed_place : (k : ℕ) (t : Content) → k < length ds → Counts (account_at (signed_as n i s route) k) t → t.account ≡ k
    signed_place k t l c =
        elim (counts_after k t c) [
          | inl g ↦ old.place k t l g
          | inr g ↦ ap (λ (z : Content). z.account) g.1 ∙ new.account ∙ ap (λ (j : ℕ). (account_at n j).held.account) (sym g.0) ∙ old.place k (account_at n k).held l (inl refl)
        ]

    -- an old out has a route, and the lock of a new one has none
    unrouted_out : (k : ℕ) (x : Payment) (lock : List ℕ) → Out n k x → n.route_of lock ≡ None → x.lock ≡ lock → ⊥
    unrouted_out k x lock o e f = let r = old.payments.routed k x o in none_some (sym e ∙ ap n.route_of (sym f) ∙ r.1)

    signed_one_in : (j k : ℕ) (x y : Payment) → In (signed_as n i s route) j x → In (signed_as n i s route) k y → x.lock ≡ y.lock → (j ≡ k) × (x ≡ y)
    signed_one_in j k x y a b e =
        elim (in_after j x a) [
          | inl f ↦ elim (in_after k y b) [
            | inl g ↦ old.payments.one_in j k x y f g e
            | inr g ↦ absurd (g.2.nowhere j x f (e ∙ ap (λ (z : Payment). z.lock) g.1))
          ]
          | inr f ↦ elim (in_after k y b) [
            | inl g ↦ absurd (f.2.nowhere k y g (sym e ∙ ap (λ (z : Payment). z.lock) f.1))
            | inr g ↦ (f.0 ∙ sym g.0, f.1 ∙ sym g.1)
          ]
        ]

    signed_one_out : (j k : ℕ) (x y : Payment) → Out (signed_as n i s route) j x → Out (signed_as n i s route) k y → x.lock ≡ y.lock → (j ≡ k) × (x ≡ y)
    signed_one_out j k x y a b e =
        elim (out_after j x a) [
          | inl f ↦ elim (out_after k y b) [
            | inl g ↦ old.payments.one_out j k x y f g e
            | inr g ↦ absurd (unrouted_out j x p.lock f g.2.unrouted (e ∙ ap (λ (z : Payment). z.lock) g.1))
          ]
          | inr f ↦ elim (out_after k y b) [
            | inl g ↦ absurd (unrouted_out k y p.lock g f.2.unrouted (sym e ∙ ap (λ (z : Payment). z.lock) f.1))
            | inr g ↦ (f.0 ∙ sym g.0, f.1 ∙ sym g.1)
          ]
        ]

    signed_routed : (k : ℕ) (x : Payment) → Out (signed_as n i s route) k x → (r : Route) × (route x.lock ≡ Some r) × (r.to ≡ k)
    signed_routed k x o =
        elim (out_after k x o) [
          | inl g ↦ let r = old.payments.routed k x g in (r.0, grows x.lock r.0 r.1, r.2)
          | inr g ↦ (record { from = g.2.from; to = i }, ap (λ (z : Payment). route z.lock) g.1 ∙ g.2.routed, sym g.0)
        ]

    -- a new out and the in that it is for, and an old out and its in
    paired : (j k : ℕ) (x y : Payment) → Out (signed_as n i s route) j x → In (signed_as n i s route) k y → x.lock ≡ y.lock → (x.end + n.terms.gap ≤ y.end) × (x.amount ≤ y.amount)
    paired j k x y a b e =
        elim (out_after j x a) [
          | inl f ↦ elim (in_after k y b) [
            | inl g ↦ (old.payments.ends j k x y f g e, old.payments.covered j k x y f g e)
            | inr g ↦ absurd (unrouted_out j x p.lock f g.2.unrouted (e ∙ ap (λ (z : Payment). z.lock) g.1))
          ]
          | inr f ↦ elim (in_after k y b) [
            | inl g ↦
                let one = old.payments.one_in f.2.from k f.2.incoming y f.2.stands g (f.2.lock ∙ sym (ap (λ (z : Payment). z.lock) f.1) ∙ e) in
                let here : (p.end + n.terms.gap ≤ y.end) × (p.amount ≤ y.amount) = subst (λ (z : Payment). (p.end + n.terms.gap ≤ z.end) × (p.amount ≤ z.amount)) one.1 (f.2.apart, f.2.covers) in
                subst (λ (z : Payment). (z.end + n.terms.gap ≤ y.end) × (z.amount ≤ y.amount)) (sym f.1) here
            | inr g ↦ absurd (g.2.nowhere f.2.from f.2.incoming f.2.stands f.2.lock)
          ]
        ]

    pub signed_kept : Kept ds (signed_as n i s route)
    signed_kept =
        record {
          two = signed_two;
          total = signed_total;
          place = signed_place;
          payments = record {
            apart_ins = λ k t c. elim (counts_after k t c) [ inl g ↦ old.payments.apart_ins k t g | inr g ↦ subst (λ (z : Content). Apart z.ins) (sym g.1) (new.apart_ins (old.payments.apart_ins i (account_at n i).held (inl refl))) ];
            apart_outs = λ k t c. elim (counts_after k t c) [ inl g ↦ old.payments.apart_outs k t g | inr g ↦ subst (λ (z : Content). Apart z.outs) (sym g.1) (new.apart_outs (old.payments.apart_outs i (account_at n i).held (inl refl))) ];
            one_in = signed_one_in;
            one_out = signed_one_out;
            routed = signed_routed;
            ends = λ j k x y a b e. (paired j k x y a b e).0;
            covered = λ j k x y a b e. (paired j k x y a b e).1;
          };
        }

-- where no sheet more may count, all is kept
module _ (ds : List Deposit) (n m : NodeState) (same : m.terms ≡ n.terms)
    (fewer : (k : ℕ) (r : Content) → Counts (account_at m k) r → Counts (account_at n k) r)
    (next : (k : ℕ) (r : Content) → (account_at m k).next ≡ Some r → ((account_at n k).next ≡ Some r) × ((account_at m k).held ≡ (account_at n k).held))
    (grows : (lock : List ℕ) (r : Route) → n.route_of lock ≡ Some r → m.route_of lock ≡ Some r) (old : Kept ds n)
  where
    ins_before : (k : ℕ) (x : Payment) → In m k x → In n k x
    ins_before k x (r, c, h) = (r, fewer k r c, h)

    outs_before : (k : ℕ) (x : Payment) → Out m k x → Out n k x
    outs_before k x (r, c, h) = (r, fewer k r c, h)

    pub fewer_kept : Kept ds m
    fewer_kept =
        record {
          two = λ k s e.
              let g = next k s e in
              let h = old.two k s g.0 in
              (h.0 ∙ ap (λ (z : Content). z.number + 1) (sym g.1), h.1 ∙ ap (λ (z : Content). z.account) (sym g.1));
          total = λ k s c. old.total k s (fewer k s c);
          place = λ k s l c. old.place k s l (fewer k s c);
          payments = record {
            apart_ins = λ k s c. old.payments.apart_ins k s (fewer k s c);
            apart_outs = λ k s c. old.payments.apart_outs k s (fewer k s c);
            one_in = λ j k x y a b e. old.payments.one_in j k x y (ins_before j x a) (ins_before k y b) e;
            one_out = λ j k x y a b e. old.payments.one_out j k x y (outs_before j x a) (outs_before k y b) e;
            routed = λ k x o. let r = old.payments.routed k x (outs_before k x o) in (r.0, grows x.lock r.0 r.1, r.2);
            ends = λ j k x y a b e. subst (λ (t : Terms). x.end + t.gap ≤ y.end) (sym same) (old.payments.ends j k x y (outs_before j x a) (ins_before k y b) e);
            covered = λ j k x y a b e. old.payments.covered j k x y (outs_before j x a) (ins_before k y b) e;
          };
        }

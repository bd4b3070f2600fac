-- No move takes from what the node put in, whichever sheets count and whichever keys are shown.
use Rattle.std.proofs.Common.{◌≡◌, ℕ, ◌+◌, ◌<◌, ◌≤◌, Bool, true, false, cond, not, ◌&&◌, eqb, List, [], ◌∷◌, length, Some, None, Option, sym, refl, ap, ◌∙◌, subst, inl, inr, arith}
use Rattle.std.specs.Str.{bytes_eq}
use Rattle.std.proofs.lemmas.Slice.Eq.{bytes_eq-Decides}
use Rattle.std.proofs.lemmas.Bool.{cond-true, cond-false, cond_both, both_ways, and_parts, and_from, and_left, and_right, cases_eq, eq-eqb, ne_eqb, not_from_false, not_from_true}
use Rattle.sheet.specs.declared.types.Payment.{Payment}
use Rattle.sheet.specs.Contents.{Content}
use Rattle.account.specs.Accounts.{Standing}
use Rattle.change.specs.declared.types.Change.TheVariants.{Offered, PassingOn, Paying, Getting, Returned, GivingUp}
use Rattle.change.specs.Follows.{Follows}
use Rattle.change.proofs.Standing.{none_some}
use Rattle.lockmap.specs.Maps.{with_at}
use Rattle.node_state.specs.declared.types.Route.{Route}
use Rattle.node_state.specs.Nodes.{NodeState, account_at}
use Rattle.judgement.specs.Tests.{has_key}
use Rattle.moments.specs.Runs.{Deposit}
use Rattle.moments.specs.Moments.{Counts, Stands, Out, sum_to, those, worth_by, put_in, is_from, AllShown}
use Rattle.moments.specs.Moves.{MayPass, NoOutStands}
use Rattle.moments.proofs.Sums.{sum_mono, plus, sum_plus, those_cons, those_mono, those_gain, those_taken}
use Rattle.moments.proofs.Places.{noted_keeps, noted_new}
use Rattle.moments.proofs.Signings.{Signing, Kept, signed_as, counts_after}

-- what a sheet of account k comes to where of the ins only those count that were passed on
abbrev pub value : (List ℕ → Option Route) → (List ℕ → Bool) → ℕ → Content → ℕ
value route shown k s = worth_by (λ lock. is_from k (route lock) && shown lock) shown s

-- one sheet for each account
abbrev pub Chosen : NodeState → (ℕ → Content) → Type 0
Chosen n choice = (k : ℕ) → Counts (account_at n k) (choice k)

abbrev pub Floor : List Deposit → NodeState → List (List ℕ) → Type 0
Floor ds n locks =
    (shown : List ℕ → Bool) → AllShown locks shown → (choice : ℕ → Content) → Chosen n choice → put_in ds ≤ sum_to (length ds) (λ k. value n.route_of shown k (choice k))

-- a lock that was passed on from an account stays so
from_grows : (k : ℕ) (o u : Option Route) → ((r : Route) → o ≡ Some r → u ≡ Some r) → is_from k o ≡ true → is_from k u ≡ true
from_grows k None u h e = let z : ◌≡◌ {A = ℕ} 0 1 = cc in absurd (omega arith)
from_grows k (Some r) u h e = ap (is_from k) (h r refl) ∙ e

-- the same sheet, with more passed on
pub value_grows : (route more : List ℕ → Option Route) (shown : List ℕ → Bool) (k : ℕ) (s : Content) → ((lock : List ℕ) (r : Route) → route lock ≡ Some r → more lock ≡ Some r) → value route shown k s ≤ value more shown k s
value_grows route more shown k s grows =
    let ins = those_mono (λ lock. is_from k (route lock) && shown lock) (λ lock. is_from k (more lock) && shown lock) s.ins
    (λ p m e. let g = and_parts (is_from k (route p.lock)) (shown p.lock) e in and_from _ _ (from_grows k (route p.lock) (more p.lock) (grows p.lock) g.0) g.1) in
    omega arith

module _ (ds : List Deposit) (n m : NodeState) (locks : List (List ℕ)) (old : Floor ds n locks) where
  -- account by account
  pub by_account : (less shown : List ℕ → Bool) → AllShown locks less → (choice : ℕ → Content) → ((k : ℕ) → (r : Content) × Counts (account_at n k) r × (value n.route_of less k r ≤ value m.route_of shown k (choice k))) →
      put_in ds ≤ sum_to (length ds) (λ k. value m.route_of shown k (choice k))
  by_account less shown all choice g =
      omega (arith, old less all (λ k. (g k).0) (λ k. (g k).1), sum_mono (length ds) (λ k. value n.route_of less k (g k).0) (λ k. value m.route_of shown k (choice k)) (λ k l. (g k).2))

  -- where account i gains what account j loses
  pub by_two : (i j a : ℕ) → i < length ds → j < length ds → (shown : List ℕ → Bool) → AllShown locks shown → (choice : ℕ → Content) →
      ((k : ℕ) → (r : Content) × Counts (account_at n k) r × (cond (eqb k i) (value n.route_of shown k r + a) (value n.route_of shown k r) ≤ cond (eqb k j) (value m.route_of shown k (choice k) + a) (value m.route_of shown k (choice k)))) →
      put_in ds ≤ sum_to (length ds) (λ k. value m.route_of shown k (choice k))
  by_two i j a i-there j-there shown all choice g =
      let before : ℕ → ℕ = λ k. value n.route_of shown k (g k).0 in
      let behind : ℕ → ℕ = λ k. value m.route_of shown k (choice k) in
      omega (arith, old shown all (λ k. (g k).0) (λ k. (g k).1), sum_plus (length ds) i a before i-there, sum_plus (length ds) j a behind j-there, sum_mono (length ds) (plus i a before) (plus j a behind) (λ k l. (g k).2))

  -- where no sheet more may count
  pub fewer_floor : ((k : ℕ) (r : Content) → Counts (account_at m k) r → Counts (account_at n k) r) → ((lock : List ℕ) (r : Route) → n.route_of lock ≡ Some r → m.route_of lock ≡ Some r) → Floor ds m locks
  fewer_floor fewer grows shown all choice c =
      by_account shown shown all choice (λ k. (choice k, fewer k (choice k) (c k), value_grows n.route_of m.route_of shown k (choice k) grows))

-- where s is signed in account i
module _ (ds : List Deposit) (n : NodeState) (i : ℕ) (p : Payment) (s : Content) (route : List ℕ → Option Route) (new : Signing n i p s route) (locks : List (List ℕ)) (old : Floor ds n locks) where
  pub signed_floor : (less shown : List ℕ → Bool) → AllShown locks less →
      ((k : ℕ) (r : Content) → Counts (account_at n k) r → value n.route_of less k r ≤ value route shown k r) →
      value n.route_of less i (account_at n i).held ≤ value route shown i s →
      (choice : ℕ → Content) → Chosen (signed_as n i s route) choice → put_in ds ≤ sum_to (length ds) (λ k. value route shown k (choice k))
  signed_floor less shown all same changes choice c =
      by_account ds n (signed_as n i s route) locks old less shown all choice
      (λ k. elim (counts_after n i p s route new k (choice k) (c k)) [
        | inl g ↦ (choice k, g, same k (choice k) g)
        | inr g ↦ (
          (account_at n i).held,
          subst (λ (j : ℕ). Counts (account_at n j) (account_at n i).held) (sym g.0) (inl refl),
          subst (λ (z : Content). value n.route_of less k (account_at n i).held ≤ value route shown k z) (sym g.1) (subst (λ (j : ℕ). value n.route_of less j (account_at n i).held ≤ value route shown j s) (sym g.0) changes),
        )
      ])

-- a payment's part is at most its amount
part_le : (b : Bool) (a : ℕ) → cond b a 0 ≤ a
part_le true a = omega arith
part_le false a = omega arith

module _ (route : List ℕ → Option Route) (shown : List ℕ → Bool) (k : ℕ) (s t : Content) (p : Payment) where
  pub offered_value : Follows s Offered p t → value route shown k s ≤ value route shown k t
  offered_value h =
      let f : List ℕ → Bool = λ lock. is_from k (route lock) && shown lock in
      let g : List ℕ → Bool = λ lock. not (shown lock) in
      let ins : those f t.ins ≡ cond (f p.lock) p.amount 0 + those f s.ins = ap (those f) h.1.list ∙ those_cons f p s.ins in
      let outs : those g t.outs ≡ those g s.outs = ap (those g) h.3 in
      omega (arith, h.2)

  pub paying_value : Follows s Paying p t → shown p.lock ≡ true → value route shown k s ≤ value route shown k t
  paying_value h e =
      let f : List ℕ → Bool = λ lock. is_from k (route lock) && shown lock in
      let g : List ℕ → Bool = λ lock. not (shown lock) in
      let ins : those f t.ins ≡ those f s.ins = ap (those f) h.3 in
      let outs : those g s.outs ≡ those g t.outs + cond (g p.lock) h.1.payment.amount 0 = those_taken g h.1 in
      let none : cond (g p.lock) h.1.payment.amount 0 ≡ 0 = cond-false (g p.lock) h.1.payment.amount 0 (not_from_true (shown p.lock) e) in
      omega (arith, h.2)

  pub getting_value : Follows s Getting p t → value route shown k s ≤ value route shown k t
  getting_value h =
      let f : List ℕ → Bool = λ lock. is_from k (route lock) && shown lock in
      let g : List ℕ → Bool = λ lock. not (shown lock) in
      let ins : those f s.ins ≡ those f t.ins + cond (f p.lock) h.1.payment.amount 0 = those_taken f h.1 in
      let outs : those g t.outs ≡ those g s.outs = ap (those g) h.3 in
      omega (arith, part_le (f p.lock) h.1.payment.amount, h.1.gets)

  pub returned_value : Follows s Returned p t → value route shown k s ≤ value route shown k t
  returned_value h =
      let f : List ℕ → Bool = λ lock. is_from k (route lock) && shown lock in
      let g : List ℕ → Bool = λ lock. not (shown lock) in
      let ins : those f t.ins ≡ those f s.ins = ap (those f) h.3 in
      let outs : those g s.outs ≡ those g t.outs + cond (g p.lock) h.1.payment.amount 0 = those_taken g h.1 in
      omega (arith, part_le (g p.lock) h.1.payment.amount, h.1.gets)

-- the keys shown but for one
abbrev but : List ℕ → (List ℕ → Bool) → List ℕ → Bool
but lock shown l = not (bytes_eq l lock) && shown l

but_one : (lock : List ℕ) (shown : List ℕ → Bool) → but lock shown lock ≡ false
but_one lock shown = ap (λ (b : Bool). not b && shown lock) ((bytes_eq-Decides lock lock).1 refl)

but_shown : (lock : List ℕ) (shown : List ℕ → Bool) (l : List ℕ) → but lock shown l ≡ true → shown l ≡ true
but_shown lock shown l e = (and_parts (not (bytes_eq l lock)) (shown l) e).1

but_other : (lock : List ℕ) (shown : List ℕ → Bool) (l : List ℕ) → (l ≡ lock → ⊥) → but lock shown l ≡ shown l
but_other lock shown l ne = by (bytes_eq l lock) refl
  where
    by : (b : Bool) → bytes_eq l lock ≡ b → (not b && shown l) ≡ shown l
    by true e = absurd (ne ((bytes_eq-Decides l lock).0 e))
    by false e = refl

all_but : (lock : List ℕ) (shown known : List ℕ → Bool) (locks : List (List ℕ)) → AllShown locks shown → AllShown locks known → known lock ≡ false → AllShown locks (but lock shown)
all_but lock shown known [] a b e = tt
all_but lock shown known (l ∷ locks) a b e = (but_other lock shown l (λ f. both_ways (known lock) e (ap known (sym f) ∙ b.0)) ∙ a.0, all_but lock shown known locks a.1 b.1 e)

-- a lock that stands in no out counts for nothing where its key isn't shown
module _ (route : List ℕ → Option Route) (lock : List ℕ) (shown : List ℕ → Bool) (k : ℕ) where
  but_ins : (ps : List Payment) → those (λ l. is_from k (route l) && but lock shown l) ps ≤ those (λ l. is_from k (route l) && shown l) ps
  but_ins ps =
      those_mono (λ l. is_from k (route l) && but lock shown l) (λ l. is_from k (route l) && shown l) ps
      (λ p m e. let g = and_parts (is_from k (route p.lock)) (but lock shown p.lock) e in and_from _ _ g.0 (but_shown lock shown p.lock g.1))

  but_outs : (ps : List Payment) → ((x : Payment) → Stands x ps → x.lock ≡ lock → ⊥) → those (λ l. not (but lock shown l)) ps ≤ those (λ l. not (shown l)) ps
  but_outs ps none = those_mono (λ l. not (but lock shown l)) (λ l. not (shown l)) ps (λ p m e. ap not (sym (but_other lock shown p.lock (none p m))) ∙ e)

  but_value : (s : Content) → ((x : Payment) → Stands x s.outs → x.lock ≡ lock → ⊥) → value route (but lock shown) k s ≤ value route shown k s
  but_value s none = omega (arith, but_ins s.ins, but_outs s.outs none)

giving_value : (route : List ℕ → Option Route) (shown : List ℕ → Bool) (k : ℕ) (s t : Content) (p : Payment) → Follows s GivingUp p t → ((x : Payment) → Stands x s.outs → x.lock ≡ p.lock → ⊥) →
    value route (but p.lock shown) k s ≤ value route shown k t
giving_value route shown k s t p h none =
    let f : List ℕ → Bool = λ l. is_from k (route l) && but p.lock shown l in
    let g : List ℕ → Bool = λ l. not (shown l) in
    let ins : those f s.ins ≡ those f t.ins + cond (f p.lock) h.1.payment.amount 0 = those_taken f h.1 in
    let off : f p.lock ≡ false = and_right (is_from k (route p.lock)) (but p.lock shown p.lock) (but_one p.lock shown) in
    let nothing : cond (f p.lock) h.1.payment.amount 0 ≡ 0 = cond-false (f p.lock) h.1.payment.amount 0 off in
    let outs : those g t.outs ≡ those g s.outs = ap (those g) h.3 in
    omega (arith, but_ins route p.lock shown k t.ins, but_outs route p.lock shown k s.outs none, h.2)

pub giving_floor : (ds : List Deposit) (n : NodeState) (i : ℕ) (p : Payment) (s : Content) → Signing n i p s n.route_of → Follows (account_at n i).held GivingUp p s → Kept ds n →
    (locks : List (List ℕ)) → AllShown locks (has_key n) → has_key n p.lock ≡ false → NoOutStands n p.lock → Floor ds n locks → Floor ds (signed_as n i s n.route_of) locks
giving_floor ds n i p s new h kept locks known missing free old shown all choice c =
    signed_floor ds n i p s n.route_of new locks old (but p.lock shown) shown (all_but p.lock shown (has_key n) locks all known missing)
    (λ k r g. but_value n.route_of p.lock shown k r (λ x m e. nowhere k x (r, g, m) e))
    (giving_value n.route_of shown i (account_at n i).held s p h (λ x m e. nowhere i x ((account_at n i).held, inl refl, m) e))
    choice c
  where
    nowhere : (k : ℕ) (x : Payment) → Out n k x → x.lock ≡ p.lock → ⊥
    nowhere k x o e =
        let r = kept.payments.routed k x o in
        free r.0 (ap n.route_of (sym e) ∙ r.1) x (subst (λ (j : ℕ). Out n j x) (sym r.2) o) e

-- passing on
pub record Passing (s t : Content) (p : Payment) (route more : List ℕ → Option Route) (shown : List ℕ → Bool) (k : ℕ) : Type 0 where
  pub loses : value route shown k s ≤ value more shown k t + p.amount
  pub keeps : shown p.lock ≡ false → value route shown k s ≤ value more shown k t

passing_value : (s t : Content) (p : Payment) (route more : List ℕ → Option Route) (shown : List ℕ → Bool) (k : ℕ) → ((lock : List ℕ) (r : Route) → route lock ≡ Some r → more lock ≡ Some r) → Follows s PassingOn p t → Passing s t p route more shown k
passing_value s t p route more shown k grows h =
    let f : List ℕ → Bool = λ l. is_from k (more l) && shown l in
    let g : List ℕ → Bool = λ l. not (shown l) in
    let ins : those f t.ins ≡ those f s.ins = ap (those f) h.3 in
    let outs : those g t.outs ≡ cond (g p.lock) p.amount 0 + those g s.outs = ap (those g) h.1.list ∙ those_cons g p s.outs in
    let old = value_grows route more shown k s grows in
    let own : t.own + p.amount ≡ s.own = h.1.covered in
    record {
      loses = omega arith;
      keeps = λ e. let one : cond (g p.lock) p.amount 0 ≡ p.amount = cond-true (g p.lock) p.amount 0 (not_from_false (shown p.lock) e) in omega arith;
    }

only_held : (a : Standing) (r : Content) → a.next ≡ None → Counts a r → a.held ≡ r
only_held a r e (inl h) = h
only_held a r e (inr h) = absurd (none_some (sym e ∙ h))

plus_mid : (k i j x y a : ℕ) → (k ≡ i → ⊥) → x ≤ y → cond (eqb k i) (x + a) x ≤ cond (eqb k j) (y + a) y
plus_mid k i j x y a ne h = subst (λ (z : ℕ). z ≤ cond (eqb k j) (y + a) y) (sym (cond-false (eqb k i) (x + a) x (ne_eqb k i ne))) (cond_both (eqb k j) (y + a) y (λ z. x ≤ z) (λ _. omega arith) (λ _. omega arith))

plus_from : (k i j x y a : ℕ) → (k ≡ j → ⊥) → x + a ≤ y → cond (eqb k i) (x + a) x ≤ cond (eqb k j) (y + a) y
plus_from k i j x y a ne h = subst (λ (z : ℕ). cond (eqb k i) (x + a) x ≤ z) (sym (cond-false (eqb k j) (y + a) y (ne_eqb k j ne))) (cond_both (eqb k i) (x + a) x (λ z. z ≤ y) (λ _. omega arith) (λ _. omega arith))

plus_to : (k i j x y a : ℕ) → (k ≡ i → ⊥) → k ≡ j → x ≤ y + a → cond (eqb k i) (x + a) x ≤ cond (eqb k j) (y + a) y
plus_to k i j x y a ne e h =
    subst (λ (z : ℕ). z ≤ cond (eqb k j) (y + a) y) (sym (cond-false (eqb k i) (x + a) x (ne_eqb k i ne)))
    (subst (λ (z : ℕ). x ≤ z) (sym (cond-true (eqb k j) (y + a) y (eq-eqb k j e))) h)

module _ (ds : List Deposit) (n : NodeState) (i j : ℕ) (p incoming : Payment) (s : Content) (many : length n.accounts ≡ length ds) (may : MayPass n i j p incoming) (h : Follows (account_at n j).held PassingOn p s) where
  abbrev route : List ℕ → Option Route
  route = with_at n.route_of p.lock (record { from = i; to = j })

  grows : (lock : List ℕ) (r : Route) → n.route_of lock ≡ Some r → route lock ≡ Some r
  grows = noted_keeps p.lock (record { from = i; to = j }) n.route_of may.unrouted

  -- the in counts from now on
  gains : (shown : List ℕ → Bool) → shown p.lock ≡ true → value n.route_of shown i (account_at n i).held + p.amount ≤ value route shown i (account_at n i).held
  gains shown e =
      let f : List ℕ → Bool = λ l. is_from i (n.route_of l) && shown l in
      let g : List ℕ → Bool = λ l. is_from i (route l) && shown l in
      let off : f incoming.lock ≡ false = and_left (is_from i (n.route_of incoming.lock)) (shown incoming.lock) (ap (is_from i) (ap n.route_of may.lock ∙ may.unrouted)) in
      let from : is_from i (route incoming.lock) ≡ true = ap (is_from i) (ap route may.lock ∙ noted_new p.lock (record { from = i; to = j }) n.route_of) ∙ eq-eqb i i refl in
      let on : g incoming.lock ≡ true = and_from (is_from i (route incoming.lock)) (shown incoming.lock) from (ap shown may.lock ∙ e) in
      let more = those_gain f g (account_at n i).held.ins incoming (λ q e. let u = and_parts (is_from i (n.route_of q.lock)) (shown q.lock) e in and_from _ _ (from_grows i (n.route_of q.lock) (route q.lock) (grows q.lock) u.0) u.1) may.stands off on in
      omega (arith, may.covers)

  pub passing_floor : Signing n j p s route → (locks : List (List ℕ)) → Floor ds n locks → Floor ds (signed_as n j s route) locks
  passing_floor new locks old shown all choice c = by (shown p.lock) refl
    where
      one : shown p.lock ≡ true → (k : ℕ) → (r : Content) × Counts (account_at n k) r × (cond (eqb k i) (value n.route_of shown k r + p.amount) (value n.route_of shown k r) ≤ cond (eqb k j) (value route shown k (choice k) + p.amount) (value route shown k (choice k)))
      one e k =
          elim (counts_after n j p s route new k (choice k) (c k)) [
            | inl g ↦ (
              choice k,
              g,
              elim (cases_eq k i) [
                | inl at ↦
                    let held : (account_at n i).held ≡ choice k = only_held (account_at n i) (choice k) may.ready_from.still (subst (λ (z : ℕ). Counts (account_at n z) (choice k)) at g) in
                    plus_from k i j (value n.route_of shown k (choice k)) (value route shown k (choice k)) p.amount (λ f. may.other (sym at ∙ f))
                    (subst (λ (z : ℕ). value n.route_of shown z (choice k) + p.amount ≤ value route shown z (choice k)) (sym at) (subst (λ (z : Content). value n.route_of shown i z + p.amount ≤ value route shown i z) held (gains shown e)))
                | inr ne ↦ plus_mid k i j (value n.route_of shown k (choice k)) (value route shown k (choice k)) p.amount ne (value_grows n.route_of route shown k (choice k) grows)
              ],
            )
            | inr g ↦ (
              (account_at n j).held,
              subst (λ (z : ℕ). Counts (account_at n z) (account_at n j).held) (sym g.0) (inl refl),
              plus_to k i j (value n.route_of shown k (account_at n j).held) (value route shown k (choice k)) p.amount (λ f. may.other (sym f ∙ g.0)) g.0
                  (subst (λ (z : Content). value n.route_of shown k (account_at n j).held ≤ value route shown k z + p.amount) (sym g.1) (passing_value (account_at n j).held s p n.route_of route shown k grows h).loses),
            )
          ]

      by : (b : Bool) → shown p.lock ≡ b → put_in ds ≤ sum_to (length ds) (λ k. value route shown k (choice k))
      by true e =
          by_two ds n (signed_as n j s route) locks old i j p.amount (omega (arith, may.ready_from.there)) (omega (arith, may.ready_to.there)) shown all choice (one e)
      by false e =
          signed_floor ds n j p s route new locks old shown shown all (λ k r g. value_grows n.route_of route shown k r grows) ((passing_value (account_at n j).held s p n.route_of route shown j grows h).keeps e) choice c

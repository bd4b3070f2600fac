-- What was on its way comes into the register: the invariant about time is kept.
use Rattle.std.proofs.Common.{◌≡◌, ℕ, zero, suc, ◌<◌, ◌≤◌, false, cond, ◌&&◌, eqb, ltb, ◌⊎◌, List, [], ◌∷◌, ◌++◌, length, take, drop, Some, None, Option, sym, refl, ap, ◌∙◌, subst, inl, inr, add-one, arith}
use Rattle.std.proofs.lemmas.Slice.Eq.{bytes_eq-Decides}
use Rattle.std.proofs.lemmas.Bool.{cond_both, cond-true, and_cases, ltb-false, lt-ltb, eq-eqb, both_ways}
use Rattle.std.specs.List.{slice_get}
use Rattle.std.specs.Str.{bytes_eq}
use Rattle.sheet.specs.declared.types.Payment.{Payment}
use Rattle.sheet.specs.Contents.{Content}
use Rattle.digest.specs.Sha256.{sha256}
use Rattle.node_state.specs.Nodes.{account_at}
use Rattle.register.specs.Register.{Phase, quiet, disputed, ended, KeyAt, Page, with_sheet, sheet_shown, key_shown, with_key_at}
use Rattle.moments.specs.Runs.{Deposit}
use Rattle.promise_told.specs.World.{World, Coming, sheet_for, key_for, node_of, terms_of, with_coming, sheet_in, key_in, came_in, arrived}
use Rattle.promise_told.specs.Main.{Holds, KeyBy}
use Rattle.promise_told.proofs.Safe.{OnWay, WasSigned, HeldGoes, SafeIn, Safe, Through, Shows, Timely, shows_timely, reveals_timely}

-- what stands at a place, and the rest
abbrev without : ℕ → List Coming → List Coming
without m l = take m l ++ drop (suc m) l

nth_on : (l : List Coming) (m : ℕ) (x : Coming) → slice_get l m ≡ Some x → OnWay x l
nth_on [] m x e =
    let z : ◌≡◌ {A = ℕ} 0 1 = cc in
    absurd (omega arith)
nth_on (y ∷ l) zero x e =
    let same : y ≡ x = cc in
    inl same
nth_on (y ∷ l) (suc m) x e = inr (nth_on l m x e)

rest_on : (l : List Coming) (m : ℕ) (y : Coming) → OnWay y (without m l) → OnWay y l
rest_on [] zero y h = h
rest_on [] (suc m) y h = h
rest_on (x ∷ l) zero y h = inr h
rest_on (x ∷ l) (suc m) y (inl h) = inl h
rest_on (x ∷ l) (suc m) y (inr h) = inr (rest_on l m y h)

on_rest : (l : List Coming) (m : ℕ) (x y : Coming) → slice_get l m ≡ Some x → OnWay y l → OnWay y (without m l) ⊎ (y ≡ x)
on_rest [] m x y e h = absurd h
on_rest (z ∷ l) zero x y e (inl h) =
    let same : z ≡ x = cc in
    inr (sym h ∙ same)
on_rest (z ∷ l) zero x y e (inr h) = inl h
on_rest (z ∷ l) (suc m) x y e (inl h) = inl (inl h)
on_rest (z ∷ l) (suc m) x y e (inr h) = go (on_rest l m x y e h)
  where
    go : OnWay y (without m l) ⊎ (y ≡ x) → OnWay y (without (suc m) (z ∷ l)) ⊎ (y ≡ x)
    go (inl q) = inl (inr q)
    go (inr q) = inr q

-- what has come in is seen in the register: a sheet's number or a higher one, a key by its tick
abbrev ArrivedIn : ℕ → Phase → Type 0
ArrivedIn number quiet = ⊥
ArrivedIn number (disputed s until) = number ≤ s.number
ArrivedIn number (ended s until) = Unit {0}

abbrev Fine : List Deposit → World → Coming → Type 0
Fine ds w (sheet_for i s by) = i < length ds → ArrivedIn s.number (w.pages i).phase
Fine ds w (key_for i key by) = (end : ℕ) → by ≤ end → KeyBy end (sha256 key) (w.pages i).keys

module _ (ds : List Deposit) (w : World) (x : Coming) (rest : List Coming) (sub : (y : Coming) → OnWay y rest → OnWay y w.coming)
    (kept : (y : Coming) → OnWay y w.coming → OnWay y rest ⊎ (y ≡ x)) (fine : Fine ds w x) where
  removed_state : (k : ℕ) → k < length ds → (p : Phase) → (w.pages k).phase ≡ p → SafeIn w k p → SafeIn (with_coming w rest) k p
  removed_state k l p e h = by_phase p (λ by q. subst (λ (z : Phase). ArrivedIn (account_at (node_of w) k).held.number z) e (subst (λ (y : Coming). Fine ds w y) (sym q) fine l)) h
    where
      by_phase : (p : Phase) → ((by : ℕ) → sheet_for k (account_at (node_of w) k).held by ≡ x → ArrivedIn (account_at (node_of w) k).held.number p) → SafeIn w k p → SafeIn (with_coming w rest) k p
      by_phase quiet lost (inl c) = inl (record { unsent = c.unsent; undisputed = c.undisputed; nothing = λ s by m. c.nothing s by (sub (sheet_for k s by) m); outs = c.outs })
      by_phase quiet lost (inr o) = go (kept (sheet_for k (account_at (node_of w) k).held o.by) o.goes)
        where
          go : OnWay (sheet_for k (account_at (node_of w) k).held o.by) rest ⊎ (sheet_for k (account_at (node_of w) k).held o.by ≡ x) → SafeIn (with_coming w rest) k quiet
          go (inl m) = inr (record { by = o.by; goes = m; past = o.past; frozen = o.frozen; outs = o.outs })
          go (inr q) = absurd (lost o.by q)
      by_phase (disputed s until) lost (h, sg, inl u) =
          (h, sg, inl (record { unsent = u.unsent; undisputed = u.undisputed; nothing = λ t by m. u.nothing t by (sub (sheet_for k t by) m); since = u.since; up_to = u.up_to; outs = u.outs }))
      by_phase (disputed s until) lost (h, sg, inr v) = (h, sg, inr (record { frozen = v.frozen; reached = go v.reached; outs = v.outs }))
        where
          left : (by : ℕ) → by < until → OnWay (sheet_for k (account_at (node_of w) k).held by) rest ⊎ (sheet_for k (account_at (node_of w) k).held by ≡ x) →
              ((account_at (node_of w) k).held.number ≤ s.number) ⊎ ((by : ℕ) × HeldGoes (with_coming w rest) k by × (by < until))
          left by q (inl m) = inr (by, m, q)
          left by q (inr e) = inl (lost by e)

          go : ((account_at (node_of w) k).held.number ≤ s.number) ⊎ ((by : ℕ) × HeldGoes w k by × (by < until)) →
              ((account_at (node_of w) k).held.number ≤ s.number) ⊎ ((by : ℕ) × HeldGoes (with_coming w rest) k by × (by < until))
          go (inl r) = inl r
          go (inr (by, m, q)) = left by q (kept (sheet_for k (account_at (node_of w) k).held by) m)
      by_phase (ended s until) lost (sg, d) = (sg, record { frozen = d.frozen; reached = d.reached; outs = d.outs })

  removed_through : (i : ℕ) (c : Payment) → Through w i c → Through (with_coming w rest) i c
  removed_through i c (inl h) = inl h
  removed_through i c (inr (inl (key, by, e, m, l))) = go (kept (key_for i key by) m)
    where
      go : OnWay (key_for i key by) rest ⊎ (key_for i key by ≡ x) → Through (with_coming w rest) i c
      go (inl q) = inr (inl (key, by, e, q, l))
      go (inr q) = inl (subst (λ (lock : List ℕ). KeyBy c.end lock (w.pages i).keys) e (subst (λ (y : Coming). Fine ds w y) (sym q) fine c.end l))
  removed_through i c (inr (inr h)) = inr (inr h)

  pub removed_timely : Timely ds w → Timely ds (with_coming w rest)
  removed_timely t =
      record {
        not_late = t.not_late;
        recent = t.recent;
        coming = λ y m. t.coming y (sub y m);
        sent_since = λ y m. t.sent_since y (sub y m);
        keys = t.keys;
        through = λ i c l inn from b. removed_through i c (t.through i c l inn from b);
        key_ticks = t.key_ticks;
        safe = λ i l. safe i l (t.safe i l);
      }
    where
      safe : (i : ℕ) → i < length ds → Safe w i → Safe (with_coming w rest) i
      safe i l old =
          record {
            state = removed_state i l (w.pages i).phase refl old.state;
            only_held = λ s by m. old.only_held s by (sub (sheet_for i s by) m);
            signed = old.signed;
            held_signed = old.held_signed;
            next_signed = old.next_signed;
            sent_seen = old.sent_seen;
            looked = old.looked;
          }

-- a key that has come in by its tick
key_arrived : (now end : ℕ) (key : List ℕ) (ks : List KeyAt) → now ≤ end → ((k : KeyAt) → Shows k ks → k.tick ≤ now) → KeyBy end (sha256 key) (with_key_at now key ks)
key_arrived now end key [] l old = inl (refl, l)
key_arrived now end key (k ∷ ks) l old =
    cond_both (bytes_eq k.key key) (k ∷ ks) (k ∷ with_key_at now key ks) (λ (z : List KeyAt). KeyBy end (sha256 key) z)
    (λ e. inl (ap sha256 ((bytes_eq-Decides k.key key).0 e), soon k.tick (old k (inl refl))))
    (λ _. inr (key_arrived now end key ks l (λ q m. old q (inr m))))
  where
    soon : (a : ℕ) → a ≤ now → a ≤ end
    soon a h = omega arith

-- a sheet that has come in
sheet_arrived : (window now : ℕ) (s : Content) (p : Phase) → ((x : Content) (until : ℕ) → p ≡ disputed x until → now < until) → ArrivedIn s.number (with_sheet window now s p)
sheet_arrived window now s quiet still = same_number s.number
  where
    same_number : (a : ℕ) → a ≤ a
    same_number a = omega arith
sheet_arrived window now s (disputed x until) still =
    cond_both (ltb now until && ltb x.number s.number) s x (λ (z : Content). s.number ≤ z.number) (λ _. same_number s.number) (λ e. go (and_cases (ltb now until) (ltb x.number s.number) e))
  where
    same_number : (a : ℕ) → a ≤ a
    same_number a = omega arith

    go : (ltb now until ≡ false) ⊎ (ltb x.number s.number ≡ false) → s.number ≤ x.number
    go (inl h) = absurd (both_ways (ltb now until) h (lt-ltb now until (still x until refl)))
    go (inr h) = ltb-false x.number s.number h
sheet_arrived window now s (ended x until) still = tt

on_own : (i : ℕ) (f : Page → Page) (pages : ℕ → Page) → cond (eqb i i) (f (pages i)) (pages i) ≡ f (pages i)
on_own i f pages = cond-true (eqb i i) (f (pages i)) (pages i) (eq-eqb i i refl)

open_still : (w : World) (i : ℕ) (p : Phase) → SafeIn w i p → (x : Content) (until : ℕ) → p ≡ disputed x until → w.now < until
open_still w i p safe x until e = (subst (λ (z : Phase). SafeIn w i z) e safe).0

came_timely : (ds : List Deposit) (w : World) → Holds (terms_of w) → Timely ds w → (m : ℕ) (x : Coming) → slice_get w.coming m ≡ Some x → Timely ds (came_in x (with_coming w (without m w.coming)))
came_timely ds w holds t m (sheet_for i s by) e =
    removed_timely ds (sheet_in i s w) (sheet_for i s by) (without m w.coming) (λ y h. rest_on w.coming m y h) (λ y h. on_rest w.coming m (sheet_for i s by) y e h) fine
    (shows_timely ds w holds t i s (λ l. subst (λ (z : Content). WasSigned i z w.signed) (sym ((t.safe i l).only_held s by there).0) (t.safe i l).held_signed))
  where
    there : OnWay (sheet_for i s by) w.coming
    there = nth_on w.coming m (sheet_for i s by) e

    fine : i < length ds → ArrivedIn s.number ((sheet_in i s w).pages i).phase
    fine l =
        subst (λ (q : Page). ArrivedIn s.number q.phase) (sym (on_own i (sheet_shown (terms_of w).window w.now s) w.pages))
        (sheet_arrived (terms_of w).window w.now s (w.pages i).phase (open_still w i (w.pages i).phase (t.safe i l).state))
came_timely ds w holds t m (key_for i key by) e =
    removed_timely ds (key_in i key w) (key_for i key by) (without m w.coming) (λ y h. rest_on w.coming m y h) (λ y h. on_rest w.coming m (key_for i key by) y e h) fine (reveals_timely ds w t i key)
  where
    soon : w.now ≤ by
    soon = t.coming (key_for i key by) (nth_on w.coming m (key_for i key by) e)

    fine : (end : ℕ) → by ≤ end → KeyBy end (sha256 key) ((key_in i key w).pages i).keys
    fine end l =
        subst (λ (q : Page). KeyBy end (sha256 key) q.keys) (sym (on_own i (key_shown w.now key) w.pages))
        (key_arrived w.now end key (w.pages i).keys (omega (arith, soon)) (λ k h. t.key_ticks i k h))

arrived_by : (ds : List Deposit) (w : World) → Holds (terms_of w) → Timely ds w → (m : ℕ) (o : Option Coming) → slice_get w.coming m ≡ o → Timely ds (arrived m o w)
arrived_by ds w holds t m None e = t
arrived_by ds w holds t m (Some x) e =
    subst (λ (k : ℕ). Timely ds (came_in x (with_coming w (take m w.coming ++ drop k w.coming)))) (sym (add-one m)) (came_timely ds w holds t m x e)

pub arrives_timely : (ds : List Deposit) (w : World) → Holds (terms_of w) → Timely ds w → (m : ℕ) → Timely ds (arrived m (slice_get w.coming m) w)
arrives_timely ds w holds t m = arrived_by ds w holds t m (slice_get w.coming m) refl

-- What one record of an entry makes of the world keeps the invariant about time.
use Rattle.std.proofs.Common.{◌≡◌, ℕ, ◌+◌, ◌<◌, ◌≤◌, true, false, ◌⊎◌, List, length, Some, Option, sym, ap, ◌∙◌, subst, inl, inr}
use Rattle.std.proofs.lemmas.Bool.{both_ways}
use Rattle.sheet.specs.declared.types.Payment.{Payment}
use Rattle.sheet.specs.Contents.{Content}
use Rattle.digest.specs.Sha256.{sha256}
use Rattle.account.specs.Accounts.{Standing, is_frozen}
use Rattle.node_state.specs.declared.types.Route.{Route}
use Rattle.node_state.specs.Nodes.{NodeState, account_at}
use Rattle.looking.specs.Looking.{is_past}
use Rattle.register.specs.Register.{Phase, quiet, disputed, ended}
use Rattle.moments.specs.Runs.{Deposit}
use Rattle.moments.specs.Moments.{Counts, Stands, In, Out, is_from}
use Rattle.promise_told.specs.World.{World, Signed, sheet_for, node_of, terms_of}
use Rattle.promise_told.specs.Main.{Bound}
use Rattle.promise_told.proofs.Safe.{OnWay, WasSigned, OutsBy, HeldGoes, SafeIn, Safe, Through, Timely}

-- the world with these accounts, keys, routes, locks paid for and sheets signed
abbrev pub entered : World → List Standing → (List ℕ → Option (List ℕ)) → (List ℕ → Option Route) → List (List ℕ) → List Signed → World
entered w list keys routes paid signed =
    record {
      history = record { node = record { terms = terms_of w; accounts = list; key_of = keys; route_of = routes }; paid = paid };
      pages = w.pages;
      coming = w.coming;
      now = w.now;
      due = w.due;
      signed = signed;
    }

abbrev pub node_with : World → List Standing → (List ℕ → Option (List ℕ)) → (List ℕ → Option Route) → NodeState
node_with w list keys routes = record { terms = terms_of w; accounts = list; key_of = keys; route_of = routes }

-- in an account that isn't frozen nothing is on its way, and the next look is in time for each out
pub open_outs : (w : World) (i : ℕ) (p : Phase) → SafeIn w i p → is_frozen (account_at (node_of w) i) ≡ false → OutsBy w i w.due (terms_of w).look
open_outs w i quiet (inl c) e = c.outs
open_outs w i quiet (inr o) e = absurd (both_ways (is_frozen (account_at (node_of w) i)) e o.frozen)
open_outs w i (disputed s until) (l, sg, inl u) e = u.outs
open_outs w i (disputed s until) (l, sg, inr v) e = absurd (both_ways (is_frozen (account_at (node_of w) i)) e v.frozen)
open_outs w i (ended s until) (sg, d) e = absurd (both_ways (is_frozen (account_at (node_of w) i)) e d.frozen)

-- what becomes of account i: nothing, or, where it isn't frozen, its sheets change
pub record Changed (w : World) (b : Standing) (signed : List Signed) (i : ℕ) : Type 0 where
  pub unfrozen : is_frozen (account_at (node_of w) i) ≡ false
  pub looked : b.looked ≡ (account_at (node_of w) i).looked
  pub disputed : b.disputed ≡ (account_at (node_of w) i).disputed
  pub sent : b.sent ≡ (account_at (node_of w) i).sent
  pub outs : (x : Payment) (s : Content) → Counts b s → Stands x s.outs → w.due ≤ x.end + (terms_of w).look
  pub was_signed : (s : Content) → WasSigned i s signed → (s.number < b.held.number) ⊎ Counts b s
  pub held_signed : WasSigned i b.held signed
  pub next_signed : (s : Content) → b.next ≡ Some s → WasSigned i s signed

pub data Step (w : World) (b : Standing) (signed : List Signed) (i : ℕ) : Type 0 where
  same : b ≡ account_at (node_of w) i → ((s : Content) → WasSigned i s signed → WasSigned i s w.signed) → Step w b signed i
  changes : Changed w b signed i → Step w b signed i

module _ (w : World) (list : List Standing) (keys : List ℕ → Option (List ℕ)) (routes : List ℕ → Option Route) (paid : List (List ℕ)) (signed : List Signed)
    (grows : (i : ℕ) (s : Content) → WasSigned i s w.signed → WasSigned i s signed) where
  abbrev new : World
  new = entered w list keys routes paid signed

  same_state : (i : ℕ) → account_at (node_of new) i ≡ account_at (node_of w) i → (p : Phase) → SafeIn w i p → SafeIn new i p
  same_state i e p h = kept p h
    where
      a : Standing
      a = account_at (node_of w) i

      b : Standing
      b = account_at (node_of new) i

      held : b.held ≡ a.held
      held = ap (λ (z : Standing). z.held) e

      frozen : is_frozen a ≡ true → is_frozen b ≡ true
      frozen f = ap is_frozen e ∙ f

      back : (x : Payment) → Out (node_of new) i x → Out (node_of w) i x
      back x (s, c, m) = (s, subst (λ (z : Standing). Counts z s) e c, m)

      goes : (by : ℕ) → HeldGoes w i by → HeldGoes new i by
      goes by m = subst (λ (h : Content). OnWay (sheet_for i h by) w.coming) (sym held) m

      numbers : (k : ℕ) → a.held.number ≤ k → b.held.number ≤ k
      numbers k h = subst (λ (c : Content). c.number ≤ k) (sym held) h

      reach : (s : Content) (until : ℕ) → (a.held.number ≤ s.number) ⊎ ((by : ℕ) × HeldGoes w i by × (by < until)) → (b.held.number ≤ s.number) ⊎ ((by : ℕ) × HeldGoes new i by × (by < until))
      reach s until (inl h) = inl (numbers s.number h)
      reach s until (inr (by, m, h)) = inr (by, goes by m, h)

      kept : (p : Phase) → SafeIn w i p → SafeIn new i p
      kept quiet (inl c) = inl (record { unsent = ap (λ (z : Standing). z.sent) e ∙ c.unsent; undisputed = ap (λ (z : Standing). z.disputed) e ∙ c.undisputed; nothing = c.nothing; outs = λ x out. c.outs x (back x out) })
      kept quiet (inr o) =
          inr (record { by = o.by; goes = goes o.by o.goes; past = subst (λ (z : Standing). is_past w.now z ≡ true) (sym e) o.past; frozen = frozen o.frozen; outs = λ x out. o.outs x (back x out) })
      kept (disputed s until) (h, sg, inl u) =
          (h, grows i s sg, inl (record { unsent = ap (λ (z : Standing). z.sent) e ∙ u.unsent; undisputed = ap (λ (z : Standing). z.disputed) e ∙ u.undisputed; nothing = u.nothing; since = u.since; up_to = u.up_to; outs = λ x out. u.outs x (back x out) }))
      kept (disputed s until) (h, sg, inr v) = (h, grows i s sg, inr (record { frozen = frozen v.frozen; reached = reach s until v.reached; outs = λ x out. v.outs x (back x out) }))
      kept (ended s until) (sg, d) = (grows i s sg, record { frozen = frozen d.frozen; reached = numbers s.number d.reached; outs = λ x out. d.outs x (back x out) })

  changed_state : (i : ℕ) → Changed w (account_at (node_of new) i) signed i → (p : Phase) → SafeIn w i p → SafeIn new i p
  changed_state i c quiet (inl h) = inl (record { unsent = c.sent ∙ h.unsent; undisputed = c.disputed ∙ h.undisputed; nothing = h.nothing; outs = λ x (s, q, m). c.outs x s q m })
  changed_state i c quiet (inr o) = absurd (both_ways (is_frozen (account_at (node_of w) i)) c.unfrozen o.frozen)
  changed_state i c (disputed s until) (h, sg, inl u) =
      (h, grows i s sg, inl (record { unsent = c.sent ∙ u.unsent; undisputed = c.disputed ∙ u.undisputed; nothing = u.nothing; since = u.since; up_to = u.up_to; outs = λ x (s, q, m). c.outs x s q m }))
  changed_state i c (disputed s until) (h, sg, inr v) = absurd (both_ways (is_frozen (account_at (node_of w) i)) c.unfrozen v.frozen)
  changed_state i c (ended s until) (sg, d) = absurd (both_ways (is_frozen (account_at (node_of w) i)) c.unfrozen d.frozen)

  step_safe : (i : ℕ) → Step w (account_at (node_of new) i) signed i → Safe w i → Safe new i
  step_safe i (same e sub) old =
      record {
        state = same_state i e (w.pages i).phase old.state;
        only_held = λ s by m. ((old.only_held s by m).0 ∙ sym (ap (λ (z : Standing). z.held) e), ap is_frozen e ∙ (old.only_held s by m).1);
        signed = λ s m. subst (λ (z : Standing). (s.number < z.held.number) ⊎ Counts z s) (sym e) (old.signed s (sub s m));
        held_signed = subst (λ (h : Content). WasSigned i h signed) (sym (ap (λ (z : Standing). z.held) e)) (grows i (account_at (node_of w) i).held old.held_signed);
        next_signed = λ s h. grows i s (old.next_signed s (sym (ap (λ (z : Standing). z.next) e) ∙ h));
        sent_seen = λ x h. ap (λ (z : Standing). z.disputed) e ∙ old.sent_seen x (sym (ap (λ (z : Standing). z.sent) e) ∙ h);
        looked = λ t h. old.looked t (sym (ap (λ (z : Standing). z.looked) e) ∙ h);
      }
  step_safe i (changes c) old =
      record {
        state = changed_state i c (w.pages i).phase old.state;
        only_held = λ s by m. absurd (both_ways (is_frozen (account_at (node_of w) i)) c.unfrozen (old.only_held s by m).1);
        signed = c.was_signed;
        held_signed = c.held_signed;
        next_signed = c.next_signed;
        sent_seen = λ x h. c.disputed ∙ old.sent_seen x (sym c.sent ∙ h);
        looked = λ t h. old.looked t (sym c.looked ∙ h);
      }

  module _ (ds : List Deposit) (each : (i : ℕ) → i < length ds → Step w (account_at (node_of new) i) signed i)
      (known : (lock key : List ℕ) → keys lock ≡ Some key → sha256 key ≡ lock)
      (carried : (i : ℕ) (c : Payment) → i < length ds → In (node_of new) i c → is_from i (routes c.lock) ≡ true → Bound new (length ds) c → Through w i c) where
    pub entered_timely : Timely ds w → Timely ds new
    entered_timely t =
        record {
          not_late = t.not_late;
          recent = t.recent;
          coming = t.coming;
          sent_since = t.sent_since;
          keys = known;
          through = λ i c l inn from b. through i c (carried i c l inn from b);
          key_ticks = t.key_ticks;
          safe = λ i l. step_safe i (each i l) (t.safe i l);
        }
      where
        through : (i : ℕ) (c : Payment) → Through w i c → Through new i c
        through i c (inl h) = inl h
        through i c (inr h) = inr h

-- Each entry, whole or cut off after some of its acts, keeps the invariant about time.
use Rattle.std.proofs.Common.{◌≡◌, ℕ, ◌+◌, ◌*◌, ◌<◌, ◌≤◌, Bool, true, false, not, ◌⊎◌, List, [], ◌∷◌, ◌++◌, length, get_or, take, set, is_some, Some, None, Ok, Option, unwrap_or, sym, refl, ap, ◌∙◌, subst, inl, inr, arith}
use Rattle.std.proofs.lemmas.List.{get_or-set_same, get_or_past, length-set, append-nil}
use Rattle.std.proofs.lemmas.Bool.{cases_lt, cond_both, or_parts}
use Rattle.refusal.specs.declared.Refusal.TheVariants.{LockUsed, KeyMissing}
use Rattle.sheet.specs.declared.types.Payment.{Payment}
use Rattle.sheet.specs.Contents.{Content, content_of, first_of}
use Rattle.digest.specs.Sha256.{sha256}
use Rattle.account.specs.Accounts.{Standing, is_frozen, opened_of, signed_of, held_of}
use Rattle.change.specs.declared.types.Change.{Change}
use Rattle.change.specs.declared.types.Change.TheVariants.{Offered, PassingOn, Paying, Getting, Returned, GivingUp}
use Rattle.change.specs.Changes.{changed}
use Rattle.change.specs.Follows.{Follows}
use Rattle.change.proofs.Same.{follows}
use Rattle.change.proofs.Standing.{none_some}
use Rattle.proposal.specs.declared.types.Proposal.{Proposal}
use Rattle.proposal.specs.Proposals.{proposal_of}
use Rattle.node_state.specs.declared.types.Route.{Route}
use Rattle.node_state.specs.Nodes.{NodeState, account_at, any_has}
use Rattle.lockmap.specs.Maps.{with_at}
use Rattle.judgement.specs.declared.types.Signature.{Signature}
use Rattle.judgement.specs.Tests.{is_under_way, has_key, used_in, looked_at}
use Rattle.judgement.specs.Judgements.{only_lock, to_settle, to_give_up, to_pass, in_own_view, proposed_as, proposed_by, to_accept, to_accept_both, to_hold}
use Rattle.outcome.specs.Acts.{signed_in, both_in, passed_on, key_is, Act, recorded, synced, sent_sheet, sent_signature, shown_sheet, shown_key}
use Rattle.outcome.specs.Records.{acted_all, written}
use Rattle.outcome.specs.Outcomes.{Outcome, done, accepting_both, holding, learning}
use Rattle.rules.specs.declared.types.Message.TheVariants.{Proposed, ProposedSigned, Signed, Key}
use Rattle.rules.specs.declared.types.Call.TheVariants.{Pass, Pay, Get, GiveUp}
use Rattle.rules.specs.Entries.{paid, got, given_up, passed, proposed, proposed_signed, signed, key_taken}
use Rattle.moments.specs.Runs.{Deposit, History, Entry, message, call, outcome_of, after_acts}
use Rattle.moments.specs.Moments.{Stands, In, Out}
use Rattle.moments.specs.Moves.{Ready, MayPass}
use Rattle.moments.proofs.Sums.{taken_stands, taken_stood, added_stands}
use Rattle.moments.proofs.Places.{is_none}
use Rattle.moments.proofs.Whole.{Whole}
use Rattle.moments.proofs.Entries.{Prefixes, prefix_whole, prefix_part, ok_err, unless_ok, signing_by, passing_by, accepting_by, both_by, holding_by, open_unfrozen, ready_by, settle_ok, give_ok, pass_ok, accept_ok, signed_next, signed_new, both_ok, hold_ok}
use Rattle.promise_told.specs.World as world
use Rattle.promise_told.specs.World.{World, node_of, terms_of, acted, restarted}
use Rattle.promise_told.specs.Main.{Holds, Bound}
use Rattle.promise_told.proofs.Safe.{Timely, restart_timely}
use Rattle.promise_told.proofs.Steps.{entered, open_outs}
use Rattle.promise_told.proofs.Entering.{signed_timely, both_timely, route_timely, key_timely}

-- a node that isn't frozen has looked
open_looked : (a : Standing) (due look : ℕ) → is_frozen a ≡ false → ((t : ℕ) → a.looked ≡ Some t → due ≡ t + look) → due ≡ looked_at a + look
open_looked a due look e h = by a.looked refl
  where
    by : (o : Option ℕ) → a.looked ≡ o → due ≡ unwrap_or o 0 + look
    by None f =
        let g : not (is_some a.looked) ≡ false = (or_parts a.disputed (not (is_some a.looked)) e).1 in
        let q : ◌≡◌ {A = Bool} true false = sym (ap (λ (o : Option ℕ). not (is_some o)) f) ∙ g in
        let z : ◌≡◌ {A = ℕ} 0 1 = cc in
        absurd (omega arith)
    by (Some t) f = h t f

module _ (ds : List Deposit) (w : World) (holds : Holds (terms_of w)) (whole : Whole ds (node_of w) w.history.paid) (t : Timely ds w) where
  abbrev n : NodeState
  n = node_of w

  there : (i : ℕ) → i < length n.accounts → i < length ds
  there i l = omega (arith, whole.many)

  -- the acts of entries send nothing to the register
  plain : (h : History) (sg : List world.Signed) → Timely ds (record { history = h; pages = w.pages; coming = w.coming; now = w.now; due = w.due; signed = sg }) →
      Timely ds (record { history = h; pages = w.pages; coming = w.coming ++ []; now = w.now; due = w.due; signed = sg })
  plain h sg v = subst (λ (l : List world.Coming). Timely ds (record { history = h; pages = w.pages; coming = l; now = w.now; due = w.due; signed = sg })) (sym (append-nil w.coming)) v

  unsigned : (h : History) → Timely ds (record { history = h; pages = w.pages; coming = w.coming; now = w.now; due = w.due; signed = w.signed }) →
      Timely ds (record { history = h; pages = w.pages; coming = w.coming ++ []; now = w.now; due = w.due; signed = w.signed ++ [] })
  unsigned h v = plain h (w.signed ++ []) (subst (λ (l : List world.Signed). Timely ds (record { history = h; pages = w.pages; coming = w.coming; now = w.now; due = w.due; signed = l })) (sym (append-nil w.signed)) v)

  none : Timely ds (acted w [] w.history)
  none = unsigned w.history t

  abbrev with_sheet_lem : ℕ → Content → List (List ℕ) → World
  with_sheet_lem i s locks = entered w (set n.accounts i (signed_of (account_at n i) s)) n.key_of n.route_of locks (w.signed ++ record { account = i; sheet = s } ∷ [])

  -- what is bound stays so
  as_before : (i : ℕ) (c : Payment) → In n i c → Bound w (length ds) c → Bound w (length ds) c ⊎ (w.due + (terms_of w).delay ≤ c.end)
  as_before i c inn b = inl b

  paying_timely : (i : ℕ) (lock : List ℕ) (s : Content) → Ready n i → Follows (account_at n i).held Paying (only_lock lock) s → Timely ds (with_sheet_lem i s (lock ∷ w.history.paid))
  paying_timely i lock s ready f =
      signed_timely ds w t whole.many i s (lock ∷ w.history.paid) ready f.0.number (λ x m. inl (taken_stands f.1 x m)) (λ c m. inl (subst (λ (l : List Payment). Stands c l) f.3 m)) back
    where
      x : Payment
      x = f.1.payment

      out : Out n i x
      out = ((account_at n i).held, inl refl, taken_stood f.1)

      soon : (k : ℕ) (c : Payment) → In n k c → lock ≡ c.lock → w.due + (terms_of w).delay ≤ c.end
      soon k c inn e =
          let a : w.due ≤ x.end + (terms_of w).look = open_outs w i (w.pages i).phase (t.safe i (there i ready.there)).state ready.unfrozen x out in
          let b : x.end + (terms_of w).gap ≤ c.end = whole.kept.payments.ends i k x c out inn (f.1.has ∙ e) in
          let g : (terms_of w).window + 3 * (terms_of w).delay + 3 * (terms_of w).look ≤ (terms_of w).gap = holds.gap_enough in
          omega arith

      back : (k : ℕ) (c : Payment) → In n k c → Bound (entered w n.accounts n.key_of n.route_of (lock ∷ w.history.paid) w.signed) (length ds) c → Bound w (length ds) c ⊎ (w.due + (terms_of w).delay ≤ c.end)
      back k c inn (inl (inl e)) = inr (soon k c inn e)
      back k c inn (inl (inr m)) = inl (inl m)
      back k c inn (inr b) = inl (inr b)

  getting_timely : (i : ℕ) (p : Payment) (s : Content) → Ready n i → Follows (account_at n i).held Getting p s → Timely ds (with_sheet_lem i s w.history.paid)
  getting_timely i p s ready f =
      signed_timely ds w t whole.many i s w.history.paid ready f.0.number (λ x m. inl (subst (λ (l : List Payment). Stands x l) f.3 m)) (λ c m. inl (taken_stands f.1 c m)) as_before

  giving_timely : (i : ℕ) (p : Payment) (s : Content) → Ready n i → Follows (account_at n i).held GivingUp p s → Timely ds (with_sheet_lem i s w.history.paid)
  giving_timely i p s ready f =
      signed_timely ds w t whole.many i s w.history.paid ready f.0.number (λ x m. inl (subst (λ (l : List Payment). Stands x l) f.3 m)) (λ c m. inl (taken_stands f.1 c m)) as_before

  returned_timely : (i : ℕ) (p : Payment) (s : Content) → Ready n i → Follows (account_at n i).held Returned p s → Timely ds (with_sheet_lem i s w.history.paid)
  returned_timely i p s ready f =
      signed_timely ds w t whole.many i s w.history.paid ready f.0.number (λ x m. inl (taken_stands f.1 x m)) (λ c m. inl (subst (λ (l : List Payment). Stands c l) f.3 m)) as_before

  offered_timely : (i : ℕ) (p : Payment) (s : Content) → Ready n i → Follows (account_at n i).held Offered p s → n.route_of p.lock ≡ None → Timely ds (with_sheet_lem i s w.history.paid)
  offered_timely i p s ready f unrouted =
      signed_timely ds w t whole.many i s w.history.paid ready f.0.number (λ x m. inl (subst (λ (l : List Payment). Stands x l) f.3 m)) (λ c m. new c (added_stands f.1 c m)) as_before
    where
      new : (c : Payment) → Stands c (account_at n i).held.ins ⊎ (c ≡ p) → Stands c (account_at n i).held.ins ⊎ (n.route_of c.lock ≡ None)
      new c (inl m) = inl m
      new c (inr e) = inr (ap (λ (z : Payment). n.route_of z.lock) e ∙ unrouted)

  -- passing on: the two records, one after the other
  module _ (i j : ℕ) (p incoming : Payment) (s : Content) (may : MayPass n i j p incoming) (f : Follows (account_at n j).held PassingOn p s) where
    abbrev route : Route
    route = record { from = i; to = j }

    abbrev marked : World
    marked = entered w n.accounts n.key_of (with_at n.route_of p.lock route) w.history.paid w.signed

    out_soon : w.due ≤ p.end + (terms_of w).look
    out_soon =
        let a : w.due ≡ looked_at (account_at n j) + (terms_of w).look = open_looked (account_at n j) w.due (terms_of w).look may.ready_to.unfrozen (t.safe j (there j may.ready_to.there)).looked in
        let b : looked_at (account_at n j) ≤ p.end = may.out_not_past in
        omega arith

    in_soon : (k : ℕ) (c : Payment) → In n k c → c.lock ≡ p.lock → w.due + (terms_of w).delay ≤ c.end
    in_soon k c inn e =
        let one : incoming ≡ c = (whole.kept.payments.one_in i k incoming c ((account_at n i).held, inl refl, may.stands) inn (may.lock ∙ sym e)).1 in
        let ends : incoming.end ≡ c.end = ap (λ (z : Payment). z.end) one in
        let a : p.end + (terms_of w).gap ≤ incoming.end = may.apart in
        let g : (terms_of w).window + 3 * (terms_of w).delay + 3 * (terms_of w).look ≤ (terms_of w).gap = holds.gap_enough in
        omega (arith, out_soon)

    marked_timely : Timely ds marked
    marked_timely = route_timely ds w t whole.many p.lock route in_soon

    passed_timely : Timely ds (entered w (set n.accounts j (signed_of (account_at n j) s)) n.key_of (with_at n.route_of p.lock route) w.history.paid (w.signed ++ record { account = j; sheet = s } ∷ []))
    passed_timely =
        signed_timely ds marked marked_timely whole.many j s w.history.paid
        (record { there = may.ready_to.there; unfrozen = may.ready_to.unfrozen; still = may.ready_to.still }) f.0.number
        (λ x m. new x (added_stands f.1 x m)) (λ c m. inl (subst (λ (l : List Payment). Stands c l) f.3 m)) (λ k c inn b. inl b)
      where
        new : (x : Payment) → Stands x (account_at n j).held.outs ⊎ (x ≡ p) → Stands x (account_at n j).held.outs ⊎ (w.due ≤ x.end + (terms_of w).look)
        new x (inl m) = inl m
        new x (inr e) =
            let same : x.end ≡ p.end = ap (λ (z : Payment). z.end) e in
            inr (omega (arith, out_soon))

  -- what a neighbour proposes
  proposed_timely : (i : ℕ) → Ready n i → (c : Change) (p : Payment) (s : Content) → proposed_as n (account_at n i).held c p ≡ Ok s → Timely ds (with_sheet_lem i s w.history.paid)
  proposed_timely i ready Offered p s e =
      let g = unless_ok (used_in n p.lock) LockUsed (changed (account_at n i).held Offered p) s e in
      let used = or_parts (any_has (λ t. t.ins) n.accounts p.lock) (is_some (n.route_of p.lock)) g.0 in
      offered_timely i p s ready (follows (account_at n i).held Offered p s g.1) (is_none (n.route_of p.lock) used.1)
  proposed_timely i ready Returned p s e = returned_timely i p s ready (follows (account_at n i).held Returned p s e)
  proposed_timely i ready Getting p s e =
      let g = unless_ok (not (has_key n p.lock)) KeyMissing (changed (account_at n i).held Getting p) s e in
      getting_timely i p s ready (follows (account_at n i).held Getting p s g.1)
  proposed_timely i ready PassingOn p s e = absurd (ok_err e)
  proposed_timely i ready Paying p s e = absurd (ok_err e)
  proposed_timely i ready GivingUp p s e = absurd (ok_err e)

  judged_timely : (i : ℕ) → Ready n i → (o : Option Proposal) (s : Content) → proposed_by n (account_at n i).held o ≡ Ok s → Timely ds (with_sheet_lem i s w.history.paid)
  judged_timely i ready None s e = absurd (ok_err e)
  judged_timely i ready (Some q) s e = proposed_timely i ready q.change q.payment s e

  held_timely : (i : ℕ) (s : Content) → is_frozen (account_at n i) ≡ false → (account_at n i).next ≡ Some s → i < length n.accounts →
      Timely ds (entered w (set n.accounts i (held_of (account_at n i) s)) n.key_of n.route_of w.history.paid w.signed)
  held_timely i s unfrozen under l = both_timely ds w t whole.many i s l unfrozen under (whole.kept.two i s under).0

  under_there : (i : ℕ) (s : Content) → (account_at n i).next ≡ Some s → i < length n.accounts
  under_there i s e = by (cases_lt i (length n.accounts))
    where
      by : (i < length n.accounts) ⊎ (length n.accounts ≤ i) → i < length n.accounts
      by (inl l) = l
      by (inr l) = absurd (none_some (sym (ap (λ (a : Standing). a.next) (get_or_past n.accounts i (opened_of (first_of 0 0 0)) l)) ∙ e))

  -- a sheet that came with its signature: signed by the node, and then held
  both_signed : (i : ℕ) (s : Content) → Ready n i → s.number ≡ (account_at n i).held.number + 1 → Timely ds (with_sheet_lem i s w.history.paid) →
      Timely ds (entered w (set (set n.accounts i (signed_of (account_at n i) s)) i (held_of (get_or (set n.accounts i (signed_of (account_at n i) s)) i (opened_of (first_of 0 0 0))) s)) n.key_of n.route_of w.history.paid
      (w.signed ++ record { account = i; sheet = s } ∷ []))
  both_signed i s ready higher v =
      both_timely ds (with_sheet_lem i s w.history.paid) v (length-set n.accounts i (signed_of (account_at n i) s) ∙ whole.many) i s
      (subst (λ (k : ℕ). i < k) (sym (length-set n.accounts i (signed_of (account_at n i) s))) ready.there) (ap is_frozen now ∙ ready.unfrozen) (ap (λ (a : Standing). a.next) now)
      (higher ∙ ap (λ (a : Standing). a.held.number + 1) (sym now))
    where
      now : get_or (set n.accounts i (signed_of (account_at n i) s)) i (opened_of (first_of 0 0 0)) ≡ signed_of (account_at n i) s
      now = get_or-set_same n.accounts i (signed_of (account_at n i) s) (opened_of (first_of 0 0 0)) ready.there

  -- each first part of the acts of each entry
  abbrev Parts : Entry → Outcome → Type 0
  Parts e o = Prefixes (λ l. Timely ds (acted w l (after_acts e l w.history))) o.acts

  -- the same where nothing is paid for
  abbrev Still : Outcome → Type 0
  Still o = Prefixes (λ l. Timely ds (acted w l (record { node = acted_all l n; paid = w.history.paid }))) o.acts

  pay_parts : (i : ℕ) (lock : List ℕ) → Parts (call (Pay i lock)) (paid n i lock)
  pay_parts i lock =
      signing_by (Parts (call (Pay i lock))) (λ _. none) i (to_settle n i Paying lock)
      (λ s e.
      let g = settle_ok n i Paying lock s e in
      let v = plain _ _ (paying_timely i lock s g.0 g.2) in
      (none, (v, (v, v))))

  get_parts : (i : ℕ) (lock : List ℕ) → Still (got n i lock)
  get_parts i lock =
      signing_by Still (λ _. none) i (to_settle n i Getting lock)
      (λ s e.
      let g = settle_ok n i Getting lock s e in
      let v = plain _ _ (getting_timely i (only_lock lock) s g.0 g.2) in
      (none, (v, (v, v))))

  give_parts : (i : ℕ) (lock : List ℕ) → Still (given_up n i lock)
  give_parts i lock =
      signing_by Still (λ _. none) i (to_give_up n i lock)
      (λ s e.
      let g = give_ok n i lock s e in
      let v = plain _ _ (giving_timely i (only_lock lock) s g.0 g.3) in
      (none, (v, (v, v))))

  pass_parts : (i j : ℕ) (p : Payment) → Still (passed n i j p)
  pass_parts i j p =
      passing_by Still (λ _. none) i j p.lock (to_pass n i j p)
      (λ s e.
      let g = pass_ok n i j p s e in
      let u = unsigned _ (marked_timely i j p g.0 s g.1 g.2) in
      let v = plain _ _ (passed_timely i j p g.0 s g.1 g.2) in
      (none, (u, (v, (v, v)))))

  sheet_parts : (i : ℕ) (x : Content) → Still (proposed n i x)
  sheet_parts i x =
      accepting_by Still (λ _. none) i (to_accept n i x)
      (λ s e.
      let g = accept_ok n i x s e in
      let v = plain _ _ (judged_timely i g.0 (proposal_of (account_at n i).held (in_own_view i x)) s g.2) in
      (none, (v, (v, v))))

  signature_parts : (i : ℕ) (x : Signature) → Still (signed n i x)
  signature_parts i x =
      holding_by Still (λ _. none) i (to_hold n i x)
      (λ s e.
      let g = hold_ok n i x s e in
      let v = unsigned _ (held_timely i s g.0 g.1 (under_there i s g.1)) in
      (none, (v, v)))

  key_parts : (k : List ℕ) → Still (key_taken n k)
  key_parts k =
      let v = unsigned _ (key_timely ds w t whole.many k) in
      cond_both (has_key n (sha256 k)) (done []) (learning k) Still (λ _. none) (λ _. (none, (v, v)))

  proposed_number : (i : ℕ) (c : Change) (p : Payment) (s : Content) → proposed_as n (account_at n i).held c p ≡ Ok s → s.number ≡ (account_at n i).held.number + 1
  proposed_number i Offered p s e = (follows (account_at n i).held Offered p s (unless_ok (used_in n p.lock) LockUsed (changed (account_at n i).held Offered p) s e).1).0.number
  proposed_number i Returned p s e = (follows (account_at n i).held Returned p s e).0.number
  proposed_number i Getting p s e = (follows (account_at n i).held Getting p s (unless_ok (not (has_key n p.lock)) KeyMissing (changed (account_at n i).held Getting p) s e).1).0.number
  proposed_number i PassingOn p s e = absurd (ok_err e)
  proposed_number i Paying p s e = absurd (ok_err e)
  proposed_number i GivingUp p s e = absurd (ok_err e)

  judged_number : (i : ℕ) (o : Option Proposal) (s : Content) → proposed_by n (account_at n i).held o ≡ Ok s → s.number ≡ (account_at n i).held.number + 1
  judged_number i None s e = absurd (ok_err e)
  judged_number i (Some q) s e = proposed_number i q.change q.payment s e

  signed_parts : (i : ℕ) (x : Content) (g : Signature) → Still (proposed_signed n i x g)
  signed_parts i x y =
      cond_both (is_under_way (account_at n i)) (holding i (to_accept_both n i x y)) (accepting_both i (to_accept_both n i x y)) Still
      (λ u. holding_by Still (λ _. none) i (to_accept_both n i x y)
      (λ s e.
      let g = both_ok n i x y s e in
      let under = signed_next n (account_at n i).held (in_own_view i x) y.number s (account_at n i).next u g.3 in
      let v = unsigned _ (held_timely i s (open_unfrozen n i g.0) under (under_there i s under)) in
      (none, (v, v))))
      (λ u. both_by Still (λ _. none) i (to_accept_both n i x y)
      (λ s e.
      let g = both_ok n i x y s e in
      let ready = ready_by n i g.0 u in
      let new = (signed_new n (account_at n i).held (in_own_view i x) y.number s (account_at n i).next u g.3).1 in
      let first = judged_timely i ready (proposal_of (account_at n i).held (in_own_view i x)) s new in
      let v = plain _ _ first in
      let z = plain _ _ (both_signed i s ready (judged_number i (proposal_of (account_at n i).held (in_own_view i x)) s new) first) in
      (none, (v, (z, (z, z))))))

  entry_parts : (e : Entry) → Parts e (outcome_of n e)
  entry_parts (message i (Proposed x)) = sheet_parts i (content_of x)
  entry_parts (message i (ProposedSigned x y)) = signed_parts i (content_of x) y
  entry_parts (message i (Signed y)) = signature_parts i y
  entry_parts (message i (Key k)) = key_parts k
  entry_parts (call (Pass i j p)) = pass_parts i j p
  entry_parts (call (Pay i lock)) = pay_parts i lock
  entry_parts (call (Get i lock)) = get_parts i lock
  entry_parts (call (GiveUp i lock)) = give_parts i lock

  pub entry_timely : (e : Entry) → Timely ds (acted w (outcome_of n e).acts (after_acts e (outcome_of n e).acts w.history))
  entry_timely e = prefix_whole (λ (l : List Act). Timely ds (acted w l (after_acts e l w.history))) (outcome_of n e).acts (entry_parts e)

  acted_length : (l : List Act) (m : NodeState) → length (acted_all l m).accounts ≡ length m.accounts
  acted_length [] m = refl
  acted_length (recorded (signed_in i s) ∷ l) m = acted_length l (written (signed_in i s) m) ∙ length-set m.accounts i (signed_of (account_at m i) s)
  acted_length (recorded (both_in i s) ∷ l) m = acted_length l (written (both_in i s) m) ∙ length-set m.accounts i (held_of (account_at m i) s)
  acted_length (recorded (passed_on lock i j) ∷ l) m = acted_length l (written (passed_on lock i j) m)
  acted_length (recorded (key_is key) ∷ l) m = acted_length l (written (key_is key) m)
  acted_length (synced ∷ l) m = acted_length l m
  acted_length (sent_sheet i s ∷ l) m = acted_length l m
  acted_length (sent_signature i k ∷ l) m = acted_length l m
  acted_length (shown_sheet i s ∷ l) m = acted_length l m
  acted_length (shown_key i k ∷ l) m = acted_length l m

  pub entry_cut_timely : (e : Entry) (k : ℕ) → Timely ds (restarted (acted w (take k (outcome_of n e).acts) (after_acts e (take k (outcome_of n e).acts) w.history)))
  entry_cut_timely e k =
      restart_timely ds (acted w (take k (outcome_of n e).acts) (after_acts e (take k (outcome_of n e).acts) w.history)) (acted_length (take k (outcome_of n e).acts) n ∙ whole.many)
      (prefix_part (λ (l : List Act). Timely ds (acted w l (after_acts e l w.history))) k (outcome_of n e).acts (entry_parts e))

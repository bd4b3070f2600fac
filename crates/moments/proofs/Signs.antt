-- The node signs just what it may sign.
use Rattle.std.proofs.Common.{◌≡◌, ℕ, suc, ◌+◌, ◌≤◌, Bool, true, false, cond, not, ◌||◌, eqb, ltb, ◌⊎◌, List, [], ◌∷◌, length, get_or, is_some, Some, None, Ok, Err, Option, Result, sym, refl, ap, ◌∙◌, subst, inl, inr}
use Rattle.std.proofs.lemmas.Slice.Eq.{bytes_eq-Decides}
use Rattle.std.proofs.lemmas.Bool.{cond_both, cond-true, cond-false, or_parts, or_from, lt-leb, le-ltb, eq-eqb, ne_eqb, not-false, not_from_true}
use Rattle.digest.specs.Sha256.{sha256}
use Rattle.refusal.specs.declared.Refusal.{Refusal}
use Rattle.refusal.specs.declared.Refusal.TheVariants.{NotOpen, UnderWay, Mismatch, LockUsed, NotCovered, EndTooNear, KeyMissing, KeyKnown, OutStands}
use Rattle.sheet.specs.declared.types.Payment.{Payment}
use Rattle.sheet.specs.Contents.{Content, content_of, first_of, is_for, found}
use Rattle.account.specs.Accounts.{Standing, opened_of, on_next, on_either}
use Rattle.change.specs.declared.types.Change.{Change}
use Rattle.change.specs.declared.types.Change.TheVariants.{Offered, PassingOn, Paying, Getting, Returned, GivingUp}
use Rattle.change.specs.Changes.{changed}
use Rattle.change.specs.Follows.{NotAmong, Follows}
use Rattle.change.specs.Reasons.{Applies}
use Rattle.change.proofs.Standing.{none_found}
use Rattle.change.proofs.Same.{follows, following}
use Rattle.proposal.specs.declared.types.Proposal.{Proposal}
use Rattle.proposal.specs.Proposals.{proposal_of}
use Rattle.proposal.proofs.Meanings.{recognised_is_meant, none_overlooked}
use Rattle.node_state.specs.declared.types.Route.{Route}
use Rattle.node_state.specs.Nodes.{NodeState, account_at, any_has}
use Rattle.judgement.specs.declared.types.Signature.{Signature}
use Rattle.judgement.specs.Tests.{unless, is_shut, is_closed, is_under_way, has_key, used_in, used_out, looked_at, too_near, out_stands}
use Rattle.judgement.specs.Judgements.{only_lock, may_call, calling, to_settle, to_give_up, passed_as, to_pass, in_own_view, proposed_as, proposed_by, judged, to_accept, signed_as, to_accept_both, to_hold}
use Rattle.outcome.specs.Outcomes.{Outcome, done, signing, passing, accepting, accepting_both, holding, learning}
use Rattle.rules.specs.declared.types.Message.TheVariants.{Proposed, ProposedSigned, Signed, Key}
use Rattle.rules.specs.declared.types.Call.TheVariants.{Pass, Pay, Get, GiveUp}
use Rattle.rules.specs.Entries.{given_up, passed}
use Rattle.moments.specs.Runs.{Entry, message, call, outcome_of, node_after}
use Rattle.moments.specs.Moments.{Counts, Stands, Out, Apart}
use Rattle.moments.specs.Moves.{Ready, Fresh, MayPass, NoOutStands}
use Rattle.moments.specs.Exactly.{Signs, Proposable, offers, returns, getting, Acceptable, MaySign, Exactly}
use Rattle.moments.proofs.Sums.{not_among}
use Rattle.moments.proofs.Places.{is_none}
use Rattle.moments.proofs.Entries.{ok_err, same_ok, unless_ok, signing_by, accepting_by, passing_by, both_by, holding_by, ready_by, no_in, settle_ok, give_ok, pass_ok, accept_ok, signed_new, both_ok}
use Rattle.moments.proofs.Theorems.{run_whole}

first : {A B : Type 0} → (B → ⊥) → A ⊎ B → A
first none (inl a) = a
first none (inr b) = absurd (none b)

neither : {A B : Type 0} → (A → ⊥) → (B → ⊥) → A ⊎ B → ⊥
neither f g (inl a) = f a
neither f g (inr b) = g b

never : ⊥ → ⊥
never h = h

two_not : ⊥ ⊎ (⊥ ⊎ ⊥) → ⊥
two_not = neither never (neither never never)

-- what is signed may be signed
module _ (n : NodeState) (k : ℕ) (s : Content) where
  abbrev Fair : Entry → Outcome → Type 0
  Fair e o = Signs k s o.acts → MaySign n e k s

  settle_fair : (e : Entry) (i : ℕ) (c : Change) (lock : List ℕ) → (Ready n i → (i ≡ k) → Follows (account_at n i).held c (only_lock lock) s → has_key n lock ≡ true → MaySign n e k s) → Fair e (signing i (to_settle n i c lock))
  settle_fair e i c lock by =
      signing_by (Fair e) (λ _ h. absurd h) i (to_settle n i c lock)
      (λ t f h.
      let q = first two_not h in
      let g = settle_ok n i c lock t f in
      by g.0 q.0 (subst (λ (z : Content). Follows (account_at n i).held c (only_lock lock) z) q.1 g.2) g.1)

  give_fair : (i : ℕ) (lock : List ℕ) → Fair (call (GiveUp i lock)) (given_up n i lock)
  give_fair i lock =
      signing_by (Fair (call (GiveUp i lock))) (λ _ h. absurd h) i (to_give_up n i lock)
      (λ t f h.
      let q = first two_not h in
      let g = give_ok n i lock t f in
      (q.0, g.0, subst (λ (z : Content). Follows (account_at n i).held GivingUp (only_lock lock) z) q.1 g.3, g.1, g.2))

  pass_fair : (i j : ℕ) (p : Payment) → Fair (call (Pass i j p)) (passed n i j p)
  pass_fair i j p = passing_by (Fair (call (Pass i j p))) (λ _ h. absurd h) i j p.lock (to_pass n i j p) (λ t e h. by t e h)
    where
      by : (t : Content) → to_pass n i j p ≡ Ok t → ⊥ ⊎ (((j ≡ k) × (t ≡ s)) ⊎ (⊥ ⊎ (⊥ ⊎ ⊥))) → MaySign n (call (Pass i j p)) k s
      by t e (inl h) = absurd h
      by t e (inr h) =
          let q = first two_not h in
          let g = pass_ok n i j p t e in
          (q.0, g.0, g.1, subst (λ (z : Content). Follows (account_at n j).held PassingOn p z) q.1 g.2)

  -- what is recognised and judged well is the sheet itself
  proposal_fair : (i : ℕ) (u : Content) (c : Change) (p : Payment) (t : Content) → proposal_of (account_at n i).held u ≡ Some (record { change = c; payment = p }) → proposed_as n (account_at n i).held c p ≡ Ok t → (t ≡ u) × Proposable n i u
  proposal_fair i u Offered p t f e = by (recognised_is_meant (account_at n i).held u Offered p f).result
    where
      g : (used_in n p.lock ≡ false) × (changed (account_at n i).held Offered p ≡ Ok t)
      g = unless_ok (used_in n p.lock) LockUsed (changed (account_at n i).held Offered p) t e

      used : (any_has (λ z. z.ins) n.accounts p.lock ≡ false) × (is_some (n.route_of p.lock) ≡ false)
      used = or_parts (any_has (λ z. z.ins) n.accounts p.lock) (is_some (n.route_of p.lock)) g.0

      by : (changed (account_at n i).held Offered p ≡ Ok u) ⊎ ((b : Refusal) × (changed (account_at n i).held Offered p ≡ Err b) × Applies (account_at n i).held Offered p b) → (t ≡ u) × Proposable n i u
      by (inl h) = (same_ok (sym g.1 ∙ h), offers p (follows (account_at n i).held Offered p u h) (record { nowhere = no_in n p.lock used.0; unrouted = is_none (n.route_of p.lock) used.1 }))
      by (inr h) = absurd (ok_err (sym h.1 ∙ g.1))
  proposal_fair i u Returned p t f e =
      let h = (recognised_is_meant (account_at n i).held u Returned p f).0 in
      (same_ok (sym e ∙ h), returns p (follows (account_at n i).held Returned p u h))
  proposal_fair i u Getting p t f e =
      let h = (recognised_is_meant (account_at n i).held u Getting p f).0 in
      let g = unless_ok (not (has_key n p.lock)) KeyMissing (changed (account_at n i).held Getting p) t e in
      (same_ok (sym g.1 ∙ h), getting p (follows (account_at n i).held Getting p u h) (not-false (has_key n p.lock) g.0))
  proposal_fair i u PassingOn p t f e = absurd (ok_err e)
  proposal_fair i u Paying p t f e = absurd (ok_err e)
  proposal_fair i u GivingUp p t f e = absurd (ok_err e)

  judged_fair : (i : ℕ) (u t : Content) → judged n (account_at n i).held u ≡ Ok t → (t ≡ u) × Proposable n i u
  judged_fair i u t e = by (proposal_of (account_at n i).held u) refl e
    where
      by : (o : Option Proposal) → proposal_of (account_at n i).held u ≡ o → proposed_by n (account_at n i).held o ≡ Ok t → (t ≡ u) × Proposable n i u
      by None f h = absurd (ok_err h)
      by (Some q) f h = proposal_fair i u q.change q.payment t f h

  proposed_fair : (i : ℕ) (t v : Content) → Ready n i → t.account ≤ 15 → judged n (account_at n i).held (in_own_view i t) ≡ Ok v → v ≡ s → Acceptable n i t s
  proposed_fair i t v ready byte e f =
      let g = judged_fair i (in_own_view i t) v e in
      let view : s ≡ in_own_view i t = sym f ∙ g.0 in
      record { ready = ready; byte = byte; view = view; change = subst (λ (z : Content). Proposable n i z) (sym view) g.1 }

  hold_fair : (e : Entry) (i : ℕ) (r : Result Content Refusal) → Fair e (holding i r)
  hold_fair e i r = holding_by (Fair e) (λ _ h. absurd h) i r (λ t _ h. absurd (two_not h))

  fair : (e : Entry) → Fair e (outcome_of n e)
  fair (message i (Proposed t)) =
      accepting_by (Fair (message i (Proposed t))) (λ _ h. absurd h) i (to_accept n i (content_of t))
      (λ v e h.
      let q = first two_not h in
      let g = accept_ok n i (content_of t) v e in
      (q.0, proposed_fair i (content_of t) v g.0 g.1 g.2 q.1))
  fair (message i (ProposedSigned t x)) =
      let e : Entry = message i (ProposedSigned t x) in
      let next : Result Content Refusal = to_accept_both n i (content_of t) x in
      cond_both (is_under_way (account_at n i)) (holding i next) (accepting_both i next) (Fair e) (λ _. hold_fair e i next)
      (λ u. both_by (Fair e) (λ _ h. absurd h) i next
      (λ v f h.
      let q = first (neither never two_not) h in
      let g = both_ok n i (content_of t) x v f in
      let new = signed_new n (account_at n i).held (in_own_view i (content_of t)) x.number v (account_at n i).next u g.3 in
      (q.0, proposed_fair i (content_of t) v (ready_by n i g.0 u) g.1 new.1 q.1, g.2, new.0)))
  fair (message i (Signed x)) = hold_fair (message i (Signed x)) i (to_hold n i x)
  fair (message i (Key l)) = cond_both (has_key n (sha256 l)) (done []) (learning l) (Fair (message i (Key l))) (λ _ h. absurd h) (λ _ h. absurd (two_not h))
  fair (call (Pass i j p)) = pass_fair i j p
  fair (call (Pay i lock)) = settle_fair (call (Pay i lock)) i Paying lock (λ ready e h key. (e, ready, h, key))
  fair (call (Get i lock)) = settle_fair (call (Get i lock)) i Getting lock (λ ready e h key. (e, ready, h, key))
  fair (call (GiveUp i lock)) = give_fair i lock

-- a lock that stands nowhere is not found
none_among : (lock : List ℕ) (ps : List Payment) → ((x : Payment) → Stands x ps → x.lock ≡ lock → ⊥) → NotAmong lock ps
none_among lock [] h = tt
none_among lock (p ∷ ps) h = (h p (inl refl), none_among lock ps (λ x m. h x (inr m)))

not_found : (lock : List ℕ) (ps : List Payment) → ((x : Payment) → Stands x ps → x.lock ≡ lock → ⊥) → is_some (found lock ps) ≡ false
not_found lock ps h = ap is_some (none_found lock ps (none_among lock ps h))

not_on_next : (side : Content → List Payment) (o : Option Content) (lock : List ℕ) → ((s : Content) → o ≡ Some s → (x : Payment) → Stands x (side s) → x.lock ≡ lock → ⊥) → on_next side o lock ≡ false
not_on_next side None lock h = refl
not_on_next side (Some s) lock h = not_found lock (side s) (h s refl)

not_on_either : (side : Content → List Payment) (a : Standing) (lock : List ℕ) → ((s : Content) → Counts a s → (x : Payment) → Stands x (side s) → x.lock ≡ lock → ⊥) → on_either side a lock ≡ false
not_on_either side a lock h = or_from _ _ (not_found lock (side a.held) (h a.held (inl refl))) (not_on_next side a.next lock (λ s e. h s (inr e)))

not_any : (side : Content → List Payment) (d : Standing) (list : List Standing) (lock : List ℕ) → ((k : ℕ) → on_either side (get_or list k d) lock ≡ false) → any_has side list lock ≡ false
not_any side d [] lock h = refl
not_any side d (a ∷ list) lock h = or_from (on_either side a lock) (any_has side list lock) (h 0) (not_any side d list lock (λ k. h (suc k)))

unused_in : (n : NodeState) (lock : List ℕ) → Fresh n lock → used_in n lock ≡ false
unused_in n lock h =
    or_from _ _ (not_any (λ s. s.ins) (opened_of (first_of 0 0 0)) n.accounts lock (λ k. not_on_either (λ s. s.ins) (account_at n k) lock (λ s c x m e. h.nowhere k x (s, c, m) e))) (ap is_some h.unrouted)

unused_out : (n : NodeState) (lock : List ℕ) → ((k : ℕ) (x : Payment) → Out n k x → x.lock ≡ lock → ⊥) → n.route_of lock ≡ None → used_out n lock ≡ false
unused_out n lock h f =
    or_from _ _ (not_any (λ s. s.outs) (opened_of (first_of 0 0 0)) n.accounts lock (λ k. not_on_either (λ s. s.outs) (account_at n k) lock (λ s c x m e. h k x (s, c, m) e))) (ap is_some f)

not_standing : (n : NodeState) (lock : List ℕ) → NoOutStands n lock → out_stands n lock (n.route_of lock) ≡ false
not_standing n lock h = by (n.route_of lock) (λ r e. h r e)
  where
    by : (o : Option Route) → ((r : Route) → o ≡ Some r → (x : Payment) → Out n r.to x → x.lock ≡ lock → ⊥) → out_stands n lock o ≡ false
    by None g = refl
    by (Some r) g = not_on_either (λ s. s.outs) (account_at n r.to) lock (λ s c x m e. g r refl x (s, c, m) e)

-- where no lock stands twice, the one that stands is found
pub found_is : (lock : List ℕ) (ps : List Payment) (x : Payment) → Apart ps → Stands x ps → x.lock ≡ lock → found lock ps ≡ Some x
found_is lock [] x a m e = absurd m
found_is lock (p ∷ ps) x a (inl f) e = cond-true (is_for lock p) (Some p) (found lock ps) ((bytes_eq-Decides p.lock lock).1 (ap (λ (z : Payment). z.lock) f ∙ e)) ∙ ap (λ (z : Payment). Some z) f
found_is lock (p ∷ ps) x a (inr m) e = by (is_for lock p) refl (found_is lock ps x a.1 m e)
  where
    by : (b : Bool) → is_for lock p ≡ b → found lock ps ≡ Some x → found lock (p ∷ ps) ≡ Some x
    by true f rest = absurd (not_among p.lock ps x a.0 m (e ∙ sym ((bytes_eq-Decides p.lock lock).0 f)))
    by false f rest = cond-false (is_for lock p) (Some p) (found lock ps) f ∙ rest

-- what may be signed is signed
module _ (n : NodeState) (k : ℕ) (s : Content) where
  unless_off : (b : Bool) (e : Refusal) (r : Result Content Refusal) → b ≡ false → unless b e r ≡ r
  unless_off b e r f = cond-false b _ r f

  pub open_is : (i : ℕ) → Ready n i → is_shut n i ≡ false
  open_is i h = or_from _ _ (lt-leb (length n.accounts) i h.there) h.unfrozen

  pub still_is : (i : ℕ) → Ready n i → is_under_way (account_at n i) ≡ false
  still_is i h = ap is_some h.still

  abbrev IsSigned : Outcome → Type 0
  IsSigned o = Signs k s o.acts

  -- a call that may be made
  called : (i : ℕ) (r : Result Content Refusal) → Ready n i → r ≡ Ok s → calling (may_call n i) r ≡ Ok s
  called i r h f =
      ap (λ (m : Result (Unit {0}) Refusal). calling m r)
      (cond-false (is_shut n i) (Err NotOpen) (cond (is_under_way (account_at n i)) (Err UnderWay) (Ok tt)) (open_is i h)
      ∙ cond-false (is_under_way (account_at n i)) (Err UnderWay) (Ok tt) (still_is i h))
      ∙ f

  pub settled : (i : ℕ) (c : Change) (lock : List ℕ) → Ready n i → Follows (account_at n i).held c (only_lock lock) s → has_key n lock ≡ true → to_settle n i c lock ≡ Ok s
  settled i c lock h f known =
      called i (unless (not (has_key n lock)) KeyMissing (changed (account_at n i).held c (only_lock lock))) h
      (unless_off (not (has_key n lock)) KeyMissing (changed (account_at n i).held c (only_lock lock)) (not_from_true (has_key n lock) known) ∙ following (account_at n i).held c (only_lock lock) s f)

  given_up_lem : (i : ℕ) (lock : List ℕ) → Ready n i → Follows (account_at n i).held GivingUp (only_lock lock) s → has_key n lock ≡ false → NoOutStands n lock → to_give_up n i lock ≡ Ok s
  given_up_lem i lock h f missing free =
      let last : Result Content Refusal = changed (account_at n i).held GivingUp (only_lock lock) in
      let inner : Result Content Refusal = unless (out_stands n lock (n.route_of lock)) OutStands last in
      called i (unless (has_key n lock) KeyKnown inner) h
      (unless_off (has_key n lock) KeyKnown inner missing
      ∙ unless_off (out_stands n lock (n.route_of lock)) OutStands last (not_standing n lock free)
      ∙ following (account_at n i).held GivingUp (only_lock lock) s f)

  passed_sheet : (i j : ℕ) (p x : Payment) → MayPass n i j p x → Follows (account_at n j).held PassingOn p s → passed_as n (account_at n i) (account_at n j) p (Some x) ≡ Ok s
  passed_sheet i j p x may h =
      unless_off (used_out n p.lock) LockUsed _ (unused_out n p.lock may.nowhere may.unrouted)
      ∙ unless_off (ltb x.amount p.amount) NotCovered _ (le-ltb x.amount p.amount may.covers)
      ∙ unless_off (too_near n.terms.gap (account_at n i) (account_at n j) x p) EndTooNear _
      (or_from _ _ (or_from _ _ (le-ltb x.end (p.end + n.terms.gap) may.apart) (le-ltb x.end (looked_at (account_at n i)) may.in_not_past)) (le-ltb p.end (looked_at (account_at n j)) may.out_not_past))
      ∙ following (account_at n j).held PassingOn p s h

  pub passed_is : (i j : ℕ) (p x : Payment) → Apart (account_at n i).held.ins → MayPass n i j p x → Follows (account_at n j).held PassingOn p s → to_pass n i j p ≡ Ok s
  passed_is i j p x apart may h =
      let last : Result Content Refusal = passed_as n (account_at n i) (account_at n j) p (found p.lock (account_at n i).held.ins) in
      let mid : Result Content Refusal = cond (eqb i j) (Err Mismatch) last in
      cond-false (is_shut n i || is_shut n j) (Err NotOpen) (cond (is_under_way (account_at n i) || is_under_way (account_at n j)) (Err UnderWay) mid) (or_from _ _ (open_is i may.ready_from) (open_is j may.ready_to))
      ∙ cond-false (is_under_way (account_at n i) || is_under_way (account_at n j)) (Err UnderWay) mid (or_from _ _ (still_is i may.ready_from) (still_is j may.ready_to))
      ∙ cond-false (eqb i j) (Err Mismatch) last (ne_eqb i j may.other)
      ∙ ap (passed_as n (account_at n i) (account_at n j) p) (found_is p.lock (account_at n i).held.ins x apart may.stands may.lock)
      ∙ passed_sheet i j p x may h

  -- a proposal that may be signed is recognised
  judged_is : (i : ℕ) (u : Content) → Proposable n i u → judged n (account_at n i).held u ≡ Ok u
  judged_is i u (offers p h fresh) =
      let e = following (account_at n i).held Offered p u h in
      ap (proposed_by n (account_at n i).held) ((none_overlooked (account_at n i).held u p).offered e)
      ∙ unless_off (used_in n p.lock) LockUsed (changed (account_at n i).held Offered p) (unused_in n p.lock fresh)
      ∙ e
  judged_is i u (returns p h) =
      let g = (none_overlooked (account_at n i).held u p).returned (following (account_at n i).held Returned p u h) in
      ap (proposed_by n (account_at n i).held) g.2 ∙ (recognised_is_meant (account_at n i).held u Returned g.0 g.2).0
  judged_is i u (getting p h known) =
      let g = (none_overlooked (account_at n i).held u p).getting (following (account_at n i).held Getting p u h) in
      ap (proposed_by n (account_at n i).held) g.2
      ∙ unless_off (not (has_key n g.0.lock)) KeyMissing (changed (account_at n i).held Getting g.0) (not_from_true (has_key n g.0.lock) (ap (has_key n) g.1 ∙ known))
      ∙ (recognised_is_meant (account_at n i).held u Getting g.0 g.2).0

  pub closed_not : (i b : ℕ) → Ready n i → b ≤ 15 → is_closed n i b ≡ false
  closed_not i b h l = or_from _ _ (open_is i h) (le-ltb 15 b l)

  proposed_judged : (i : ℕ) (t : Content) → Acceptable n i t s → judged n (account_at n i).held (in_own_view i t) ≡ Ok s
  proposed_judged i t h = subst (λ (z : Content). judged n (account_at n i).held z ≡ Ok s) h.view (judged_is i s h.change)

  accepted : (i : ℕ) (t : Content) → Acceptable n i t s → to_accept n i t ≡ Ok s
  accepted i t h =
      let last : Result Content Refusal = judged n (account_at n i).held (in_own_view i t) in
      cond-false (is_closed n i t.account) (Err NotOpen) (cond (is_under_way (account_at n i)) (Err UnderWay) last) (closed_not i t.account h.ready h.byte)
      ∙ cond-false (is_under_way (account_at n i)) (Err UnderWay) last (still_is i h.ready)
      ∙ proposed_judged i t h

  pub accepted_both : (i : ℕ) (t : Content) (x : Signature) → Acceptable n i t s → x.account ≤ 15 → x.number ≡ t.number → to_accept_both n i t x ≡ Ok s
  accepted_both i t x h byte number =
      cond-false (is_closed n i t.account || ltb 15 x.account) (Err NotOpen) (signed_as n (account_at n i).held (in_own_view i t) x.number (account_at n i).next)
      (or_from _ _ (closed_not i t.account h.ready h.byte) (le-ltb 15 x.account byte))
      ∙ ap (signed_as n (account_at n i).held (in_own_view i t) x.number) h.ready.still
      ∙ unless_off (not (eqb x.number t.number)) Mismatch (judged n (account_at n i).held (in_own_view i t)) (not_from_true (eqb x.number t.number) (eq-eqb x.number t.number number))
      ∙ proposed_judged i t h

  signed_if : (e : Entry) → ((j : ℕ) (r : Content) → Counts (account_at n j) r → Apart r.ins) → MaySign n e k s → IsSigned (outcome_of n e)
  signed_if (call (Pay i lock)) apart (e, h, f, known) = subst IsSigned (sym (ap (signing i) (settled i Paying lock h f known))) (inl (e, refl))
  signed_if (call (Get i lock)) apart (e, h, f, known) = subst IsSigned (sym (ap (signing i) (settled i Getting lock h f known))) (inl (e, refl))
  signed_if (call (GiveUp i lock)) apart (e, h, f, missing, free) = subst IsSigned (sym (ap (signing i) (given_up_lem i lock h f missing free))) (inl (e, refl))
  signed_if (call (Pass i j p)) apart (e, x, may, f) =
      subst IsSigned (sym (ap (passing i j p.lock) (passed_is i j p x (apart i (account_at n i).held (inl refl)) may f))) (inr (inl (e, refl)))
  signed_if (message i (Proposed t)) apart (e, h) = subst IsSigned (sym (ap (accepting i) (accepted i (content_of t) h))) (inl (e, refl))
  signed_if (message i (ProposedSigned t x)) apart (e, h, byte, number) =
      let next : Result Content Refusal = to_accept_both n i (content_of t) x in
      subst IsSigned
      (sym (cond-false (is_under_way (account_at n i)) (holding i next) (accepting_both i next) (still_is i h.ready) ∙ ap (accepting_both i) (accepted_both i (content_of t) x h byte number)))
      (inl (e, refl))
  signed_if (message i (Signed x)) apart h = absurd h
  signed_if (message i (Key l)) apart h = absurd h

pub exactly : Exactly
exactly terms ds events e i s = (fair (node_after terms ds events) i s e, signed_if (node_after terms ds events) i s e (run_whole terms ds events).kept.payments.apart_ins)

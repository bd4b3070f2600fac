-- Each entry comes to moves, and so does each first part of its acts.
use Rattle.std.proofs.Common.{◌≡◌, ℕ, zero, suc, ◌+◌, ◌≤◌, Bool, true, false, cond, not, ◌||◌, eqb, ltb, leb, List, [], ◌∷◌, length, take, is_some, Some, None, Ok, Err, Option, Result, sym, refl, ap, ◌∙◌, subst, arith}
use Rattle.std.proofs.lemmas.List.{get_or-set_same}
use Rattle.std.proofs.lemmas.Bool.{cond_both, or_parts, leb-false, ltb-false, eqb-false, eqb-true, not-false}
use Rattle.digest.specs.Sha256.{sha256}
use Rattle.refusal.specs.declared.Refusal.{Refusal}
use Rattle.refusal.specs.declared.Refusal.TheVariants.{NotOpen, UnderWay, Mismatch, LockUsed, NotCovered, EndTooNear, KeyMissing, KeyKnown, OutStands}
use Rattle.sheet.specs.declared.types.Payment.{Payment}
use Rattle.sheet.specs.Contents.{Content, content_of, first_of, found, without}
use Rattle.account.specs.Accounts.{Standing, opened_of, signed_of, is_frozen, on_either}
use Rattle.change.specs.declared.types.Change.{Change}
use Rattle.change.specs.declared.types.Change.TheVariants.{Offered, PassingOn, Paying, Getting, Returned, GivingUp}
use Rattle.change.specs.Changes.{changed}
use Rattle.change.specs.Follows.{Follows}
use Rattle.change.proofs.Standing.{same_some, taken, taken_found}
use Rattle.change.proofs.Same.{follows}
use Rattle.proposal.specs.declared.types.Proposal.{Proposal}
use Rattle.proposal.specs.Proposals.{proposal_of}
use Rattle.proposal.specs.Sames.{same_content}
use Rattle.node_state.specs.Nodes.{NodeState, account_at, any_has}
use Rattle.judgement.specs.declared.types.Signature.{Signature}
use Rattle.judgement.specs.Tests.{lower, unless, is_shut, is_closed, is_under_way, has_key, used_in, used_out, looked_at, too_near, out_stands}
use Rattle.judgement.specs.Judgements.{only_lock, may_call, calling, to_settle, to_give_up, passed_as, to_pass, in_own_view, proposed_as, proposed_by, judged, to_accept, signed_as, to_accept_both, next_with, to_hold}
use Rattle.outcome.specs.Acts.{signed_in, both_in, Act, recorded}
use Rattle.outcome.specs.Records.{acted_all}
use Rattle.outcome.specs.Outcomes.{Outcome, refused, done, signing, passing, accepting, accepting_both, holding, learning}
use Rattle.rules.specs.declared.types.Message.TheVariants.{Proposed, ProposedSigned, Signed, Key}
use Rattle.rules.specs.declared.types.Call.TheVariants.{Pass, Pay, Get, GiveUp}
use Rattle.rules.specs.Entries.{paid, got, given_up, passed, proposed, proposed_signed, signed, key_taken}
use Rattle.moments.specs.Runs.{Entry, message, call, outcome_of, paid_by}
use Rattle.moments.specs.Moments.{Stands, In, Out}
use Rattle.moments.specs.Moves as moves
use Rattle.moments.specs.Moves.{Ready, MayPass, NoOutStands, Reached, then}
use Rattle.moments.proofs.Sums.{taken_stood, not_among}
use Rattle.moments.proofs.Places.{is_none, not_none, either_none, any_none}

-- something holds of each first part of the acts
abbrev pub Prefixes : (List Act → Type 0) → List Act → Type 0
Prefixes Q [] = Q []
Prefixes Q (a ∷ acts) = Q [] × Prefixes (λ l. Q (a ∷ l)) acts

pub prefix_whole : (Q : List Act → Type 0) (acts : List Act) → Prefixes Q acts → Q acts
prefix_whole Q [] h = h
prefix_whole Q (a ∷ acts) h = prefix_whole (λ l. Q (a ∷ l)) acts h.1

prefix_none : (Q : List Act → Type 0) (acts : List Act) → Prefixes Q acts → Q []
prefix_none Q [] h = h
prefix_none Q (a ∷ acts) h = h.0

pub prefix_part : (Q : List Act → Type 0) (k : ℕ) (acts : List Act) → Prefixes Q acts → Q (take k acts)
prefix_part Q zero acts h = prefix_none Q acts h
prefix_part Q (suc k) [] h = h
prefix_part Q (suc k) (a ∷ acts) h = prefix_part (λ l. Q (a ∷ l)) k acts h.1

-- how a result came about
pub ok_err : {X Y : Type 0} {x : X} {y : Y} → ◌≡◌ {A = Result X Y} (Err y) (Ok x) → ⊥
ok_err e = let z : ◌≡◌ {A = ℕ} 0 1 = cc in absurd (omega arith)

lower_never : (e : Refusal) (r : Result Content Refusal) (s : Content) → lower e r ≡ Ok s → ⊥
lower_never e (Ok t) s h = ok_err h
lower_never e (Err f) s h = ok_err h

pub unless_ok : (b : Bool) (e : Refusal) (r : Result Content Refusal) (s : Content) → unless b e r ≡ Ok s → (b ≡ false) × (r ≡ Ok s)
unless_ok true e r s h = absurd (lower_never e r s h)
unless_ok false e r s h = (refl, h)

pub same_ok : {X Y : Type 0} {x y : X} → ◌≡◌ {A = Result X Y} (Ok x) (Ok y) → x ≡ y
same_ok e = cc

cond_ok : (b : Bool) (e : Refusal) (r : Result Content Refusal) (s : Content) → cond b (Err e) r ≡ Ok s → (b ≡ false) × (r ≡ Ok s)
cond_ok true e r s h = absurd (ok_err h)
cond_ok false e r s h = (refl, h)

cond_first : (b : Bool) (e : Refusal) (r : Result Content Refusal) (s : Content) → cond b r (Err e) ≡ Ok s → r ≡ Ok s
cond_first true e r s h = h
cond_first false e r s h = absurd (ok_err h)

cond_same : (b : Bool) (e : Refusal) (x s : Content) → cond b (Ok x) (Err e) ≡ Ok s → x ≡ s
cond_same b e x s h = same_ok (cond_first b e (Ok x) s h)

-- what holds of an outcome, where it holds of refusals and of what follows from a sheet
module _ (P : Outcome → Type 0) (off : (e : Refusal) → P (refused e)) where
  pub signing_by : (i : ℕ) (r : Result Content Refusal) → ((s : Content) → r ≡ Ok s → P (signing i (Ok s))) → P (signing i r)
  signing_by i (Err e) fine = off e
  signing_by i (Ok s) fine = fine s refl

  pub passing_by : (i j : ℕ) (lock : List ℕ) (r : Result Content Refusal) → ((s : Content) → r ≡ Ok s → P (passing i j lock (Ok s))) → P (passing i j lock r)
  passing_by i j lock (Err e) fine = off e
  passing_by i j lock (Ok s) fine = fine s refl

  pub accepting_by : (i : ℕ) (r : Result Content Refusal) → ((s : Content) → r ≡ Ok s → P (accepting i (Ok s))) → P (accepting i r)
  accepting_by i (Err e) fine = off e
  accepting_by i (Ok s) fine = fine s refl

  pub both_by : (i : ℕ) (r : Result Content Refusal) → ((s : Content) → r ≡ Ok s → P (accepting_both i (Ok s))) → P (accepting_both i r)
  both_by i (Err e) fine = off e
  both_by i (Ok s) fine = fine s refl

  pub holding_by : (i : ℕ) (r : Result Content Refusal) → ((s : Content) → r ≡ Ok s → P (holding i (Ok s))) → P (holding i r)
  holding_by i (Err e) fine = off e
  holding_by i (Ok s) fine = fine s refl

-- what was asked of the accounts
pub open_unfrozen : (n : NodeState) (i : ℕ) → is_shut n i ≡ false → is_frozen (account_at n i) ≡ false
open_unfrozen n i e = (or_parts (leb (length n.accounts) i) (is_frozen (account_at n i)) e).1

pub ready_by : (n : NodeState) (i : ℕ) → is_shut n i ≡ false → is_under_way (account_at n i) ≡ false → Ready n i
ready_by n i e f =
    let g = or_parts (leb (length n.accounts) i) (is_frozen (account_at n i)) e in
    record { there = leb-false (length n.accounts) i g.0; unfrozen = g.1; still = is_none (account_at n i).next f }

calling_ok : (n : NodeState) (i : ℕ) (r : Result Content Refusal) (s : Content) → calling (may_call n i) r ≡ Ok s → Ready n i × (r ≡ Ok s)
calling_ok n i r s =
    cond_both (is_shut n i) (Err NotOpen) (cond (is_under_way (account_at n i)) (Err UnderWay) (Ok tt)) (λ (m : Result (Unit {0}) Refusal). calling m r ≡ Ok s → Ready n i × (r ≡ Ok s))
    (λ _ h. absurd (ok_err h))
    (λ e. cond_both (is_under_way (account_at n i)) (Err UnderWay) (Ok tt) (λ (m : Result (Unit {0}) Refusal). calling m r ≡ Ok s → Ready n i × (r ≡ Ok s))
    (λ _ h. absurd (ok_err h)) (λ f h. (ready_by n i e f, h)))

-- nowhere among the ins, or among the outs, of sheets that may count
pub no_in : (n : NodeState) (lock : List ℕ) → any_has (λ s. s.ins) n.accounts lock ≡ false → (k : ℕ) (x : Payment) → In n k x → x.lock ≡ lock → ⊥
no_in n lock e k x (s, c, m) f =
    not_among lock s.ins x (either_none (λ t. t.ins) (account_at n k) lock s (any_none (λ t. t.ins) n.accounts lock (opened_of (first_of 0 0 0)) refl e k) c) m f

no_out_lem : (n : NodeState) (lock : List ℕ) → any_has (λ s. s.outs) n.accounts lock ≡ false → (k : ℕ) (x : Payment) → Out n k x → x.lock ≡ lock → ⊥
no_out_lem n lock e k x (s, c, m) f =
    not_among lock s.outs x (either_none (λ t. t.outs) (account_at n k) lock s (any_none (λ t. t.outs) n.accounts lock (opened_of (first_of 0 0 0)) refl e k) c) m f

no_out_stands : (n : NodeState) (lock : List ℕ) → out_stands n lock (n.route_of lock) ≡ false → NoOutStands n lock
no_out_stands n lock e r f x (s, c, m) g =
    let h : on_either (λ t. t.outs) (account_at n r.to) lock ≡ false = ap (out_stands n lock) (sym f) ∙ e in
    not_among lock s.outs x (either_none (λ t. t.outs) (account_at n r.to) lock s h c) m g

found_stands : (lock : List ℕ) (ps : List Payment) (x : Payment) → found lock ps ≡ Some x → Stands x ps × (x.lock ≡ lock)
found_stands lock ps x e =
    let r = taken lock ps (without lock ps) x 0 (0 + x.amount) e refl refl in
    let same : r.payment ≡ x = same_some (sym (taken_found lock r) ∙ e) in
    (subst (λ (z : Payment). Stands z ps) same (taken_stood r), subst (λ (z : Payment). z.lock ≡ lock) same r.has)

-- what was asked before each sheet is signed, or held
pub settle_ok : (n : NodeState) (i : ℕ) (c : Change) (lock : List ℕ) (s : Content) → to_settle n i c lock ≡ Ok s → Ready n i × (has_key n lock ≡ true) × Follows (account_at n i).held c (only_lock lock) s
settle_ok n i c lock s e =
    let inner : Result Content Refusal = changed (account_at n i).held c (only_lock lock) in
    let a = calling_ok n i (unless (not (has_key n lock)) KeyMissing inner) s e in
    let b = unless_ok (not (has_key n lock)) KeyMissing inner s a.1 in
    (a.0, not-false (has_key n lock) b.0, follows (account_at n i).held c (only_lock lock) s b.1)

pub give_ok : (n : NodeState) (i : ℕ) (lock : List ℕ) (s : Content) → to_give_up n i lock ≡ Ok s → Ready n i × (has_key n lock ≡ false) × NoOutStands n lock × Follows (account_at n i).held GivingUp (only_lock lock) s
give_ok n i lock s e =
    let last : Result Content Refusal = changed (account_at n i).held GivingUp (only_lock lock) in
    let inner : Result Content Refusal = unless (out_stands n lock (n.route_of lock)) OutStands last in
    let a = calling_ok n i (unless (has_key n lock) KeyKnown inner) s e in
    let b = unless_ok (has_key n lock) KeyKnown inner s a.1 in
    let c = unless_ok (out_stands n lock (n.route_of lock)) OutStands last s b.1 in
    (a.0, b.0, no_out_stands n lock c.0, follows (account_at n i).held GivingUp (only_lock lock) s c.1)

passed_ok : (n : NodeState) (i j : ℕ) (p : Payment) (s : Content) → Ready n i → Ready n j → (i ≡ j → ⊥) → (o : Option Payment) → found p.lock (account_at n i).held.ins ≡ o →
    passed_as n (account_at n i) (account_at n j) p o ≡ Ok s → (x : Payment) × MayPass n i j p x × Follows (account_at n j).held PassingOn p s
passed_ok n i j p s ready-i ready-j ne None f e = absurd (ok_err e)
passed_ok n i j p s ready-i ready-j ne (Some x) f e =
    let last : Result Content Refusal = changed (account_at n j).held PassingOn p in
    let near : Result Content Refusal = unless (too_near n.terms.gap (account_at n i) (account_at n j) x p) EndTooNear last in
    let covered : Result Content Refusal = unless (ltb x.amount p.amount) NotCovered near in
    let a = unless_ok (used_out n p.lock) LockUsed covered s e in
    let b = unless_ok (ltb x.amount p.amount) NotCovered near s a.1 in
    let c = unless_ok (too_near n.terms.gap (account_at n i) (account_at n j) x p) EndTooNear last s b.1 in
    let used = or_parts (any_has (λ t. t.outs) n.accounts p.lock) (is_some (n.route_of p.lock)) a.0 in
    let far = or_parts (ltb x.end (p.end + n.terms.gap) || ltb x.end (looked_at (account_at n i))) (ltb p.end (looked_at (account_at n j))) c.0 in
    let apart = or_parts (ltb x.end (p.end + n.terms.gap)) (ltb x.end (looked_at (account_at n i))) far.0 in
    let there = found_stands p.lock (account_at n i).held.ins x f in
    let may : MayPass n i j p x = record {
      ready_from = ready-i;
      ready_to = ready-j;
      other = ne;
      stands = there.0;
      lock = there.1;
      unrouted = is_none (n.route_of p.lock) used.1;
      nowhere = no_out_lem n p.lock used.0;
      covers = ltb-false x.amount p.amount b.0;
      apart = ltb-false x.end (p.end + n.terms.gap) apart.0;
      in_not_past = ltb-false x.end (looked_at (account_at n i)) apart.1;
      out_not_past = ltb-false p.end (looked_at (account_at n j)) far.1;
    } in
    (x, may, follows (account_at n j).held PassingOn p s c.1)

pub pass_ok : (n : NodeState) (i j : ℕ) (p : Payment) (s : Content) → to_pass n i j p ≡ Ok s → (x : Payment) × MayPass n i j p x × Follows (account_at n j).held PassingOn p s
pass_ok n i j p s e =
    let last : Result Content Refusal = passed_as n (account_at n i) (account_at n j) p (found p.lock (account_at n i).held.ins) in
    let mid : Result Content Refusal = cond (eqb i j) (Err Mismatch) last in
    let a = cond_ok (is_shut n i || is_shut n j) NotOpen (cond (is_under_way (account_at n i) || is_under_way (account_at n j)) (Err UnderWay) mid) s e in
    let b = cond_ok (is_under_way (account_at n i) || is_under_way (account_at n j)) UnderWay mid s a.1 in
    let c = cond_ok (eqb i j) Mismatch last s b.1 in
    let shut = or_parts (is_shut n i) (is_shut n j) a.0 in
    let under = or_parts (is_under_way (account_at n i)) (is_under_way (account_at n j)) b.0 in
    passed_ok n i j p s (ready_by n i shut.0 under.0) (ready_by n j shut.1 under.1) (eqb-false i j c.0) (found p.lock (account_at n i).held.ins) refl c.1

pub accept_ok : (n : NodeState) (i : ℕ) (t s : Content) → to_accept n i t ≡ Ok s → Ready n i × (t.account ≤ 15) × (judged n (account_at n i).held (in_own_view i t) ≡ Ok s)
accept_ok n i t s e =
    let last : Result Content Refusal = judged n (account_at n i).held (in_own_view i t) in
    let a = cond_ok (is_closed n i t.account) NotOpen (cond (is_under_way (account_at n i)) (Err UnderWay) last) s e in
    let b = cond_ok (is_under_way (account_at n i)) UnderWay last s a.1 in
    let c = or_parts (is_shut n i) (ltb 15 t.account) a.0 in
    (ready_by n i c.0 b.0, ltb-false 15 t.account c.1, b.1)

-- a sheet with the neighbour's signature: the next, or a proposal
pub signed_next : (n : NodeState) (held u : Content) (number : ℕ) (s : Content) (o : Option Content) → is_some o ≡ true → signed_as n held u number o ≡ Ok s → o ≡ Some s
signed_next n held u number s None f e = absurd (not_none f)
signed_next n held u number s (Some x) f e =
    ap Some (cond_same (eqb number x.number) Mismatch x s (cond_first (same_content u x) UnderWay (cond (eqb number x.number) (Ok x) (Err Mismatch)) s e))

pub signed_new : (n : NodeState) (held u : Content) (number : ℕ) (s : Content) (o : Option Content) → is_some o ≡ false → signed_as n held u number o ≡ Ok s → (number ≡ u.number) × (judged n held u ≡ Ok s)
signed_new n held u number s None f e =
    let g = unless_ok (not (eqb number u.number)) Mismatch (judged n held u) s e in
    (eqb-true number u.number (not-false (eqb number u.number) g.0), g.1)
signed_new n held u number s (Some x) f e = absurd (not_none (sym f))

pub both_ok : (n : NodeState) (i : ℕ) (t : Content) (x : Signature) (s : Content) → to_accept_both n i t x ≡ Ok s →
    (is_shut n i ≡ false) × (t.account ≤ 15) × (x.account ≤ 15) × (signed_as n (account_at n i).held (in_own_view i t) x.number (account_at n i).next ≡ Ok s)
both_ok n i t x s e =
    let a = cond_ok (is_closed n i t.account || ltb 15 x.account) NotOpen (signed_as n (account_at n i).held (in_own_view i t) x.number (account_at n i).next) s e in
    let b = or_parts (is_closed n i t.account) (ltb 15 x.account) a.0 in
    let c = or_parts (is_shut n i) (ltb 15 t.account) b.0 in
    (c.0, ltb-false 15 t.account c.1, ltb-false 15 x.account b.1, a.1)

next_ok : (number : ℕ) (s : Content) (o : Option Content) → next_with number o ≡ Ok s → o ≡ Some s
next_ok number s None e = absurd (ok_err e)
next_ok number s (Some x) e = ap Some (cond_same (eqb number x.number) Mismatch x s e)

pub hold_ok : (n : NodeState) (i : ℕ) (x : Signature) (s : Content) → to_hold n i x ≡ Ok s → (is_frozen (account_at n i) ≡ false) × ((account_at n i).next ≡ Some s)
hold_ok n i x s e =
    let a = cond_ok (is_closed n i x.account) NotOpen (next_with x.number (account_at n i).next) s e in
    (open_unfrozen n i (or_parts (is_shut n i) (ltb 15 x.account) a.0).0, next_ok x.number s (account_at n i).next a.1)

module _ (start : NodeState) (none : List (List ℕ)) (n : NodeState) (locks : List (List ℕ)) (r : Reached start none n locks) where
  -- what is reached by the first acts; and the same where nothing is paid
  abbrev Parts : Entry → Outcome → Type 0
  Parts e o = Prefixes (λ l. Reached start none (acted_all l n) (paid_by e l locks)) o.acts

  abbrev Still : Outcome → Type 0
  Still o = Prefixes (λ l. Reached start none (acted_all l n) locks) o.acts

  pay_parts : (i : ℕ) (lock : List ℕ) → Parts (call (Pay i lock)) (paid n i lock)
  pay_parts i lock =
      signing_by (Parts (call (Pay i lock))) (λ _. r) i (to_settle n i Paying lock)
      (λ s e.
      let g = settle_ok n i Paying lock s e in
      let v = then r (moves.pays i (only_lock lock) s g.0 g.2 g.1) in
      (r, (v, (v, v))))

  get_parts : (i : ℕ) (lock : List ℕ) → Still (got n i lock)
  get_parts i lock =
      signing_by Still (λ _. r) i (to_settle n i Getting lock)
      (λ s e.
      let g = settle_ok n i Getting lock s e in
      let v = then r (moves.gets i (only_lock lock) s g.0 g.2 g.1) in
      (r, (v, (v, v))))

  give_parts : (i : ℕ) (lock : List ℕ) → Still (given_up n i lock)
  give_parts i lock =
      signing_by Still (λ _. r) i (to_give_up n i lock)
      (λ s e.
      let g = give_ok n i lock s e in
      let v = then r (moves.gives_up i (only_lock lock) s g.0 g.3 g.1 g.2) in
      (r, (v, (v, v))))

  pass_parts : (i j : ℕ) (p : Payment) → Still (passed n i j p)
  pass_parts i j p =
      passing_by Still (λ _. r) i j p.lock (to_pass n i j p)
      (λ s e.
      let g = pass_ok n i j p s e in
      let v = then r (moves.passes i j p g.0 s g.1 g.2) in
      (r, (then r (moves.marked p.lock i j g.1.unrouted), (v, (v, v)))))

  -- the three changes that a neighbour can propose
  proposal_move : (i : ℕ) → Ready n i → (c : Change) (p : Payment) (s : Content) → proposed_as n (account_at n i).held c p ≡ Ok s → Reached start none (acted_all (recorded (signed_in i s) ∷ []) n) locks
  proposal_move i ready Offered p s e =
      let g = unless_ok (used_in n p.lock) LockUsed (changed (account_at n i).held Offered p) s e in
      let used = or_parts (any_has (λ t. t.ins) n.accounts p.lock) (is_some (n.route_of p.lock)) g.0 in
      then r (moves.offered i p s ready (follows (account_at n i).held Offered p s g.1) (record { nowhere = no_in n p.lock used.0; unrouted = is_none (n.route_of p.lock) used.1 }))
  proposal_move i ready Returned p s e = then r (moves.returned i p s ready (follows (account_at n i).held Returned p s e))
  proposal_move i ready Getting p s e =
      let g = unless_ok (not (has_key n p.lock)) KeyMissing (changed (account_at n i).held Getting p) s e in
      then r (moves.gets i p s ready (follows (account_at n i).held Getting p s g.1) (not-false (has_key n p.lock) g.0))
  proposal_move i ready PassingOn p s e = absurd (ok_err e)
  proposal_move i ready Paying p s e = absurd (ok_err e)
  proposal_move i ready GivingUp p s e = absurd (ok_err e)

  judged_move : (i : ℕ) → Ready n i → (o : Option Proposal) (s : Content) → proposed_by n (account_at n i).held o ≡ Ok s → Reached start none (acted_all (recorded (signed_in i s) ∷ []) n) locks
  judged_move i ready None s e = absurd (ok_err e)
  judged_move i ready (Some q) s e = proposal_move i ready q.change q.payment s e

  sheet_parts : (i : ℕ) (t : Content) → Still (proposed n i t)
  sheet_parts i t =
      accepting_by Still (λ _. r) i (to_accept n i t)
      (λ s e.
      let g = accept_ok n i t s e in
      let v = judged_move i g.0 (proposal_of (account_at n i).held (in_own_view i t)) s g.2 in
      (r, (v, (v, v))))

  -- a sheet that both have signed
  both_move : (i : ℕ) (s : Content) → Ready n i → Reached start none (acted_all (recorded (signed_in i s) ∷ []) n) locks → Reached start none (acted_all (recorded (signed_in i s) ∷ recorded (both_in i s) ∷ []) n) locks
  both_move i s ready v =
      let new = get_or-set_same n.accounts i (signed_of (account_at n i) s) (opened_of (first_of 0 0 0)) ready.there in
      then v (moves.holds i s (ap is_frozen new ∙ ready.unfrozen) (ap (λ (a : Standing). a.next) new))

  signed_parts : (i : ℕ) (t : Content) (x : Signature) → Still (proposed_signed n i t x)
  signed_parts i t x =
      cond_both (is_under_way (account_at n i)) (holding i (to_accept_both n i t x)) (accepting_both i (to_accept_both n i t x)) Still
      (λ u. holding_by Still (λ _. r) i (to_accept_both n i t x)
      (λ s e.
      let g = both_ok n i t x s e in
      let v = then r (moves.holds i s (open_unfrozen n i g.0) (signed_next n (account_at n i).held (in_own_view i t) x.number s (account_at n i).next u g.3)) in
      (r, (v, v))))
      (λ u. both_by Still (λ _. r) i (to_accept_both n i t x)
      (λ s e.
      let g = both_ok n i t x s e in
      let ready = ready_by n i g.0 u in
      let v = judged_move i ready (proposal_of (account_at n i).held (in_own_view i t)) s (signed_new n (account_at n i).held (in_own_view i t) x.number s (account_at n i).next u g.3).1 in
      let w = both_move i s ready v in
      (r, (v, (w, (w, w))))))

  signature_parts : (i : ℕ) (x : Signature) → Still (signed n i x)
  signature_parts i x =
      holding_by Still (λ _. r) i (to_hold n i x) (λ s e. let g = hold_ok n i x s e in let v = then r (moves.holds i s g.0 g.1) in (r, (v, v)))

  key_parts : (k : List ℕ) → Still (key_taken n k)
  key_parts k =
      let v = then r (moves.learns k) in
      cond_both (has_key n (sha256 k)) (done []) (learning k) Still (λ _. r) (λ _. (r, (v, v)))

  pub entry_parts : (e : Entry) → Parts e (outcome_of n e)
  entry_parts (message i (Proposed t)) = sheet_parts i (content_of t)
  entry_parts (message i (ProposedSigned t x)) = signed_parts i (content_of t) x
  entry_parts (message i (Signed x)) = signature_parts i x
  entry_parts (message i (Key k)) = key_parts k
  entry_parts (call (Pass i j p)) = pass_parts i j p
  entry_parts (call (Pay i lock)) = pay_parts i lock
  entry_parts (call (Get i lock)) = get_parts i lock
  entry_parts (call (GiveUp i lock)) = give_parts i lock

-- The invariant about time, for each account (P2, P3) and for the world (P4).
use Rattle.std.proofs.Common.{◌≡◌, ℕ, zero, suc, ◌+◌, ◌*◌, ◌<◌, ◌≤◌, Bool, true, false, cond, ◌&&◌, eqb, ltb, leb, ◌⊎◌, List, [], ◌∷◌, length, get_or, is_some, Some, None, Option, sym, refl, ap, ◌∙◌, subst, inl, inr, arith}
use Rattle.std.proofs.lemmas.Bool.{cond_both, cond-true, cond-false, eqb-true, and_parts, or_cases, or_left, or_right, ltb-true, lt-ltb, leb-true, leb-false}
use Rattle.std.specs.List.{slice_get}
use Rattle.std.specs.Str.{bytes_eq}
use Rattle.sheet.specs.declared.types.Payment.{Payment}
use Rattle.sheet.specs.Contents.{Content, first_of}
use Rattle.digest.specs.Sha256.{sha256}
use Rattle.account.specs.Accounts.{Standing, is_frozen, opened_of}
use Rattle.schedule.specs.declared.types.Terms.{Terms}
use Rattle.node_state.specs.Nodes.{account_at}
use Rattle.looking.specs.Looking.{any_past, past_on, past_on_next, is_past}
use Rattle.register.specs.Register.{Phase, quiet, disputed, ended, KeyAt, Page, ended_by, with_sheet, sheet_shown, key_shown, with_key_at}
use Rattle.moments.specs.Runs.{Deposit, each_of, restarted_of}
use Rattle.moments.specs.Moments.{Counts, In, Out, is_from}
use Rattle.promise.specs.World.{World, Coming, sheet_for, key_for, due_of, none_due, may_tick, ticked, key_in, on_page, with_pages, sheet_in, shown, restarted, Signed, node_of, terms_of, Event, world_after}
use Rattle.promise.proofs.Follows.{world_terms}
use Rattle.promise.specs.Main.{Holds, EndsAt, KeyBy, Bound, NoOlder, DecidedEarly, InTime}

-- it is among what is on its way; it was signed at some time
abbrev pub OnWay : Coming → List Coming → Type 0
OnWay x [] = ⊥
OnWay x (y ∷ l) = (y ≡ x) ⊎ OnWay x l

abbrev pub WasSigned : ℕ → Content → List Signed → Type 0
WasSigned i s [] = ⊥
WasSigned i s (x ∷ l) = ((x.account ≡ i) × (x.sheet ≡ s)) ⊎ WasSigned i s l

-- every out that may count ends so that this tick is at most its end and so many more
abbrev pub OutsBy : World → ℕ → (tick more : ℕ) → Type 0
OutsBy w i tick more = (x : Payment) → Out (node_of w) i x → tick ≤ x.end + more

-- held is on its way
abbrev pub HeldGoes : World → ℕ → ℕ → Type 0
HeldGoes w i by = OnWay (sheet_for i (account_at (node_of w) i).held by) w.coming

-- A sheet on its way is held, and its account is frozen.
abbrev pub OnlyHeld : World → ℕ → Type 0
OnlyHeld w i = (s : Content) (by : ℕ) → OnWay (sheet_for i s by) w.coming → (s ≡ (account_at (node_of w) i).held) × (is_frozen (account_at (node_of w) i) ≡ true)

-- No dispute. Nothing is on its way and the next look is in time for each out; or held is, and in time, and an end is past
-- (so that the first look after a stop opens again and freezes).
pub record Calm (w : World) (i : ℕ) : Type 0 where
  pub unsent : (account_at (node_of w) i).sent ≡ None
  pub undisputed : (account_at (node_of w) i).disputed ≡ false
  pub nothing : (s : Content) (by : ℕ) → OnWay (sheet_for i s by) w.coming → ⊥
  pub outs : OutsBy w i w.due (terms_of w).look

pub record Opening (w : World) (i : ℕ) : Type 0 where
  pub by : ℕ
  pub goes : HeldGoes w i by
  pub past : is_past w.now (account_at (node_of w) i) ≡ true
  pub frozen : is_frozen (account_at (node_of w) i) ≡ true
  pub outs : OutsBy w i by ((terms_of w).look + (terms_of w).delay)

-- A dispute that the node hasn't seen: it opened since the last look, so the next look is in time to answer.
pub record Unseen (w : World) (i until : ℕ) : Type 0 where
  pub unsent : (account_at (node_of w) i).sent ≡ None
  pub undisputed : (account_at (node_of w) i).disputed ≡ false
  pub nothing : (s : Content) (by : ℕ) → OnWay (sheet_for i s by) w.coming → ⊥
  pub since : w.due + (terms_of w).window ≤ until + (terms_of w).look
  pub up_to : until ≤ w.due + (terms_of w).window
  pub outs : OutsBy w i w.due (terms_of w).look

-- One that it has seen, or that came while held was on its way: the account is frozen, and the number shown is held's or
-- more, or held comes before the end.
pub record Seen (w : World) (i : ℕ) (s : Content) (until : ℕ) : Type 0 where
  pub frozen : is_frozen (account_at (node_of w) i) ≡ true
  pub reached : ((account_at (node_of w) i).held.number ≤ s.number) ⊎ ((by : ℕ) × HeldGoes w i by × (by < until))
  pub outs : OutsBy w i until ((terms_of w).look + (terms_of w).delay + (terms_of w).window)

pub record Decided (w : World) (i : ℕ) (s : Content) (until : ℕ) : Type 0 where
  pub frozen : is_frozen (account_at (node_of w) i) ≡ true
  pub reached : (account_at (node_of w) i).held.number ≤ s.number
  pub outs : OutsBy w i until ((terms_of w).look + (terms_of w).delay + (terms_of w).window)

abbrev pub SafeIn : World → ℕ → Phase → Type 0
SafeIn w i quiet = Calm w i ⊎ Opening w i
SafeIn w i (disputed s until) = (w.now < until) × WasSigned i s w.signed × (Unseen w i until ⊎ Seen w i s until)
SafeIn w i (ended s until) = WasSigned i s w.signed × Decided w i s until

-- The account's part.
pub record Safe (w : World) (i : ℕ) : Type 0 where
  pub state : SafeIn w i (w.pages i).phase
  pub only_held : OnlyHeld w i
  -- each sheet that was ever signed is below held, or may count
  pub signed : (s : Content) → WasSigned i s w.signed → (s.number < (account_at (node_of w) i).held.number) ⊎ Counts (account_at (node_of w) i) s
  pub held_signed : WasSigned i (account_at (node_of w) i).held w.signed
  -- a node that has looked since its start has the tick of the last look
  pub looked : (t : ℕ) → (account_at (node_of w) i).looked ≡ Some t → w.due ≡ t + (terms_of w).look

-- The key of an in that the node is bound to get is there, or on its way and in time, or the next look is in time to show it.
abbrev pub Through : World → ℕ → Payment → Type 0
Through w i c =
    KeyBy c.end c.lock (w.pages i).keys ⊎
    (((key : List ℕ) × (by : ℕ) × (sha256 key ≡ c.lock) × OnWay (key_for i key by) w.coming × (by ≤ c.end)) ⊎
    (w.due + (terms_of w).delay ≤ c.end))

-- The world's part.
pub record Timely (ds : List Deposit) (w : World) : Type 0 where
  pub not_late : w.now ≤ w.due
  pub recent : w.due ≤ w.now + (terms_of w).look
  pub coming : (x : Coming) → OnWay x w.coming → w.now ≤ due_of x
  pub sent_since : (x : Coming) → OnWay x w.coming → due_of x ≤ w.now + (terms_of w).delay
  pub keys : (lock key : List ℕ) → (node_of w).key_of lock ≡ Some key → sha256 key ≡ lock
  pub through : (i : ℕ) (c : Payment) → i < length ds → In (node_of w) i c → is_from i ((node_of w).route_of c.lock) ≡ true → Bound w (length ds) c → Through w i c
  pub safe : (i : ℕ) → i < length ds → Safe w i

-- What is to be proved of every run.
abbrev pub AlwaysTimely : Type 0
AlwaysTimely = (terms : Terms) → Holds terms → (ds : List Deposit) (events : List Event) → Timely ds (world_after terms ds events)

-- The three statements follow from it.
abbrev until_of : Phase → ℕ
until_of quiet = 0
until_of (disputed s until) = until
until_of (ended s until) = until

abbrev kind_of : Phase → ℕ
kind_of quiet = 0
kind_of (disputed s until) = 1
kind_of (ended s until) = 2

not_quiet : (s : Content) (until : ℕ) → quiet ≡ disputed s until → ⊥
not_quiet s until e =
    let z : ◌≡◌ {A = ℕ} 0 1 = ap kind_of e in
    omega arith

not_quiet_ended : (s : Content) (until : ℕ) → quiet ≡ ended s until → ⊥
not_quiet_ended s until e =
    let z : ◌≡◌ {A = ℕ} 0 2 = ap kind_of e in
    omega arith

not_both : (s : Content) (u : ℕ) (t : Content) (v : ℕ) → disputed s u ≡ ended t v → ⊥
not_both s u t v e =
    let z : ◌≡◌ {A = ℕ} 1 2 = ap kind_of e in
    omega arith

counts_from : (held : ℕ) (a : Standing) (s : Content) → held ≤ s.number → (s.number < held) ⊎ Counts a s → Counts a s
counts_from held a s l (inl h) = absurd (omega arith)
counts_from held a s l (inr c) = c

pub no_older_from : AlwaysTimely → NoOlder
no_older_from always terms holds ds events k s until l e =
    let safe : Safe (world_after terms ds events) k = (always terms holds ds events).safe k l in
    let state : SafeIn (world_after terms ds events) k (ended s until) = subst (λ (p : Phase). SafeIn (world_after terms ds events) k p) e safe.state in
    counts_from (account_at (node_of (world_after terms ds events)) k).held.number (account_at (node_of (world_after terms ds events)) k) s state.1.reached (safe.signed s state.0)

through_key : (w : World) (i : ℕ) (c : Payment) (late : c.end < w.now) → w.now ≤ w.due → ((x : Coming) → OnWay x w.coming → w.now ≤ due_of x) → Through w i c → KeyBy c.end c.lock (w.pages i).keys
through_key w i c late soon coming (inl h) = h
through_key w i c late soon coming (inr (inl h)) =
    let l : w.now ≤ h.1 = coming (key_for i h.0 h.1) h.3 in
    let m : h.1 ≤ c.end = h.4 in
    absurd (omega arith)
through_key w i c late soon coming (inr (inr h)) = absurd (omega arith)

pub in_time_from : AlwaysTimely → InTime
in_time_from always terms holds ds events i c l inn from bound late =
    let t : Timely ds (world_after terms ds events) = always terms holds ds events in
    through_key (world_after terms ds events) i c late t.not_late t.coming (t.through i c l inn from bound)

early_by : (w : World) (i until : ℕ) (p : Phase) (x : Payment) → Out (node_of w) i x → SafeIn w i p → EndsAt p until → until ≤ x.end + ((terms_of w).look + (terms_of w).delay + (terms_of w).window)
early_by w i until quiet x out safe (s, inl e) = absurd (not_quiet s until e)
early_by w i until quiet x out safe (s, inr e) = absurd (not_quiet_ended s until e)
early_by w i until (disputed y u) x out safe (s, inl e) =
    let same : u ≡ until = ap until_of e in
    go safe.2 same
  where
    go : Unseen w i u ⊎ Seen w i y u → u ≡ until → until ≤ x.end + ((terms_of w).look + (terms_of w).delay + (terms_of w).window)
    go (inl h) same =
        let a : u ≤ w.due + (terms_of w).window = h.up_to in
        let b : w.due ≤ x.end + (terms_of w).look = h.outs x out in
        omega arith
    go (inr h) same =
        let a : u ≤ x.end + ((terms_of w).look + (terms_of w).delay + (terms_of w).window) = h.outs x out in
        omega arith
early_by w i until (disputed y u) x out safe (s, inr e) = absurd (not_both y u s until e)
early_by w i until (ended y u) x out safe (s, inl e) = absurd (not_both s until y u (sym e))
early_by w i until (ended y u) x out safe (s, inr e) =
    let same : u ≡ until = ap until_of e in
    let a : u ≤ x.end + ((terms_of w).look + (terms_of w).delay + (terms_of w).window) = safe.1.outs x out in
    omega arith

pub decided_early_from : AlwaysTimely → DecidedEarly
decided_early_from always terms holds ds events k x until l out e =
    let w : World = world_after terms ds events in
    let tied : terms_of w ≡ terms = world_terms terms ds events in
    let a : until ≤ x.end + ((terms_of w).look + (terms_of w).delay + (terms_of w).window) = early_by w k until (w.pages k).phase x out ((always terms holds ds events).safe k l).state e in
    let b : (terms_of w).look ≡ terms.look = ap (λ (t : Terms). t.look) tied in
    let c : (terms_of w).delay ≡ terms.delay = ap (λ (t : Terms). t.delay) tied in
    let d : (terms_of w).window ≡ terms.window = ap (λ (t : Terms). t.window) tied in
    omega arith

-- the arithmetic of the events, over variables
pub answer_in_time : (now due until look delay window : ℕ) → now ≤ due → due + window ≤ until + look → look + delay + 1 ≤ window → now + delay < until
answer_in_time now due until look delay window a b c = omega arith

pub unseen_never_ends : (now due until look delay window : ℕ) → now < due → due + window ≤ until + look → look + delay + 1 ≤ window → now + 1 < until
unseen_never_ends now due until look delay window a b c = omega arith

pub goes_before_end : (now by until look delay window : ℕ) → now ≤ by → by ≤ now + delay → look + delay + 1 ≤ window → until ≡ now + window → by < until
goes_before_end now by until look delay window a b c e = omega arith

pub opened_in_time : (now due end look delay window : ℕ) → now ≤ due → due ≤ end + look → now + window ≤ end + (look + delay + window)
opened_in_time now due end look delay window a b = omega arith

pub near_or_later : (now due end look delay : ℕ) → now ≤ due → due + delay ≤ end → (now + 2 * look + 2 * delay ≤ end → now + look + delay ≤ end) × (now + delay ≤ end)
near_or_later now due end look delay a b = (λ h. omega arith, omega arith)

-- a tick keeps the account's part
none_due_lem : (now : ℕ) (l : List Coming) (x : Coming) → none_due now l ≡ true → OnWay x l → now < due_of x
none_due_lem now [] x e m = absurd m
none_due_lem now (y ∷ l) x e (inl h) = subst (λ (z : Coming). now < due_of z) h (ltb-true now (due_of y) (and_parts (ltb now (due_of y)) (none_due now l) e).0)
none_due_lem now (y ∷ l) x e (inr m) = none_due_lem now l x (and_parts (ltb now (due_of y)) (none_due now l) e).1 m

any_past_more : (t : ℕ) (ps : List Payment) → any_past t ps ≡ true → any_past (t + 1) ps ≡ true
any_past_more t [] e = e
any_past_more t (p ∷ ps) e = go (or_cases (ltb p.end t) (any_past t ps) e) (λ h. any_past_more t ps h)
  where
    go : (ltb p.end t ≡ true) ⊎ (any_past t ps ≡ true) → (any_past t ps ≡ true → any_past (t + 1) ps ≡ true) → any_past (t + 1) (p ∷ ps) ≡ true
    go (inl h) rest =
        let l : p.end < t = ltb-true p.end t h in
        or_left (ltb p.end (t + 1)) (any_past (t + 1) ps) (lt-ltb p.end (t + 1) (omega arith))
    go (inr h) rest = or_right (ltb p.end (t + 1)) (any_past (t + 1) ps) (rest h)

past_on_more : (t : ℕ) (s : Content) → past_on t s ≡ true → past_on (t + 1) s ≡ true
past_on_more t s e = go (or_cases (any_past t s.ins) (any_past t s.outs) e)
  where
    go : (any_past t s.ins ≡ true) ⊎ (any_past t s.outs ≡ true) → past_on (t + 1) s ≡ true
    go (inl h) = or_left (any_past (t + 1) s.ins) (any_past (t + 1) s.outs) (any_past_more t s.ins h)
    go (inr h) = or_right (any_past (t + 1) s.ins) (any_past (t + 1) s.outs) (any_past_more t s.outs h)

past_next_more : (t : ℕ) (o : Option Content) → past_on_next t o ≡ true → past_on_next (t + 1) o ≡ true
past_next_more t None e = e
past_next_more t (Some s) e = past_on_more t s e

past_more : (t : ℕ) (a : Standing) → is_past t a ≡ true → is_past (t + 1) a ≡ true
past_more t a e = go (or_cases (past_on t a.held) (past_on_next t a.next) e)
  where
    go : (past_on t a.held ≡ true) ⊎ (past_on_next t a.next ≡ true) → is_past (t + 1) a ≡ true
    go (inl h) = or_left (past_on (t + 1) a.held) (past_on_next (t + 1) a.next) (past_on_more t a.held h)
    go (inr h) = or_right (past_on (t + 1) a.held) (past_on_next (t + 1) a.next) (past_next_more t a.next h)

tick_state : (w : World) → Holds (terms_of w) → w.now < w.due → none_due w.now w.coming ≡ true → (i : ℕ) (p : Phase) → SafeIn w i p → SafeIn (ticked w) i (ended_by (w.now + 1) p)
tick_state w holds soon free i quiet (inl c) = inl (record { unsent = c.unsent; undisputed = c.undisputed; nothing = c.nothing; outs = c.outs })
tick_state w holds soon free i quiet (inr o) = inr (record { by = o.by; goes = o.goes; past = past_more w.now (account_at (node_of w) i) o.past; frozen = o.frozen; outs = o.outs })
tick_state w holds soon free i (ended s until) (sg, d) = (sg, record { frozen = d.frozen; reached = d.reached; outs = d.outs })
tick_state w holds soon free i (disputed s until) (l, sg, inl u) =
    let later : w.now + 1 < until = unseen_never_ends w.now w.due until (terms_of w).look (terms_of w).delay (terms_of w).window soon u.since holds.window_enough in
    cond_both (leb until (w.now + 1)) (ended s until) (disputed s until) (λ (p : Phase). SafeIn (ticked w) i p)
    (λ e. absurd (too_late until (w.now + 1) (leb-true until (w.now + 1) e) later))
    (λ _. (later, sg, inl (record { unsent = u.unsent; undisputed = u.undisputed; nothing = u.nothing; since = u.since; up_to = u.up_to; outs = u.outs })))
  where
    too_late : (a b : ℕ) → a ≤ b → b < a → ⊥
    too_late a b h g = omega arith
tick_state w holds soon free i (disputed s until) (l, sg, inr v) =
    cond_both (leb until (w.now + 1)) (ended s until) (disputed s until) (λ (p : Phase). SafeIn (ticked w) i p)
    (λ e. (sg, record { frozen = v.frozen; reached = done (leb-true until (w.now + 1) e) v.reached; outs = v.outs }))
    (λ e. (leb-false until (w.now + 1) e, sg, inr (record { frozen = v.frozen; reached = v.reached; outs = v.outs })))
  where
    done : until ≤ w.now + 1 → ((account_at (node_of w) i).held.number ≤ s.number) ⊎ ((by : ℕ) × HeldGoes w i by × (by < until)) → (account_at (node_of w) i).held.number ≤ s.number
    done h (inl r) = r
    done h (inr r) =
        let a : w.now < r.0 = none_due_lem w.now w.coming (sheet_for i (account_at (node_of w) i).held r.0) free r.1 in
        let b : r.0 < until = r.2 in
        absurd (omega arith)

pub tick_safe : (w : World) → Holds (terms_of w) → w.now < w.due → none_due w.now w.coming ≡ true → (i : ℕ) → Safe w i → Safe (ticked w) i
tick_safe w holds soon free i s =
    record { state = tick_state w holds soon free i (w.pages i).phase s.state; only_held = s.only_held; signed = s.signed; held_signed = s.held_signed; looked = s.looked }

-- a sheet that was signed comes into the register
sheet_state : (w : World) → Holds (terms_of w) → w.now ≤ w.due → w.due ≤ w.now + (terms_of w).look → ((x : Coming) → OnWay x w.coming → w.now ≤ due_of x) →
    ((x : Coming) → OnWay x w.coming → due_of x ≤ w.now + (terms_of w).delay) → (i : ℕ) (s : Content) → WasSigned i s w.signed → (p : Phase) → SafeIn w i p →
    SafeIn w i (with_sheet (terms_of w).window w.now s p)
sheet_state w holds soon recent coming since i s sg quiet (inl c) =
    let enough : (terms_of w).look + (terms_of w).delay + 1 ≤ (terms_of w).window = holds.window_enough in
    (omega arith, sg, inl (record { unsent = c.unsent; undisputed = c.undisputed; nothing = c.nothing; since = omega arith; up_to = omega arith; outs = c.outs }))
sheet_state w holds soon recent coming since i s sg quiet (inr o) =
    let enough : (terms_of w).look + (terms_of w).delay + 1 ≤ (terms_of w).window = holds.window_enough in
    let a : w.now ≤ o.by = coming (sheet_for i (account_at (node_of w) i).held o.by) o.goes in
    let b : o.by ≤ w.now + (terms_of w).delay = since (sheet_for i (account_at (node_of w) i).held o.by) o.goes in
    (omega arith, sg, inr (record { frozen = o.frozen; reached = inr (o.by, o.goes, omega arith); outs = λ x out. later w.now o.by x.end (terms_of w).look (terms_of w).delay (terms_of w).window a (o.outs x out) }))
  where
    later : (now by end look delay window : ℕ) → now ≤ by → by ≤ end + (look + delay) → now + window ≤ end + (look + delay + window)
    later now by end look delay window h g = omega arith
sheet_state w holds soon recent coming since i s sg (disputed x until) (l, xs, inl u) =
    cond_both (ltb w.now until && ltb x.number s.number) s x (λ (y : Content). SafeIn w i (disputed y until)) (λ _. (l, sg, inl u)) (λ _. (l, xs, inl u))
sheet_state w holds soon recent coming since i s sg (disputed x until) (l, xs, inr v) =
    cond_both (ltb w.now until && ltb x.number s.number) s x (λ (y : Content). SafeIn w i (disputed y until))
    (λ e. (l, sg, inr (record { frozen = v.frozen; reached = raised (ltb-true x.number s.number (and_parts (ltb w.now until) (ltb x.number s.number) e).1) v.reached; outs = v.outs })))
    (λ _. (l, xs, inr v))
  where
    raised : x.number < s.number → ((account_at (node_of w) i).held.number ≤ x.number) ⊎ ((by : ℕ) × HeldGoes w i by × (by < until)) → ((account_at (node_of w) i).held.number ≤ s.number) ⊎ ((by : ℕ) × HeldGoes w i by × (by < until))
    raised h (inl r) = inl (omega arith)
    raised h (inr r) = inr r
sheet_state w holds soon recent coming since i s sg (ended x until) d = d

-- what a page shows of its dispute is all that the account's part goes by
same_state : (w : World) (pages : ℕ → Page) (i : ℕ) (p : Phase) → SafeIn w i p → SafeIn (with_pages w pages) i p
same_state w pages i quiet (inl c) = inl (record { unsent = c.unsent; undisputed = c.undisputed; nothing = c.nothing; outs = c.outs })
same_state w pages i quiet (inr o) = inr (record { by = o.by; goes = o.goes; past = o.past; frozen = o.frozen; outs = o.outs })
same_state w pages i (disputed s until) (l, sg, inl u) =
    (l, sg, inl (record { unsent = u.unsent; undisputed = u.undisputed; nothing = u.nothing; since = u.since; up_to = u.up_to; outs = u.outs }))
same_state w pages i (disputed s until) (l, sg, inr v) = (l, sg, inr (record { frozen = v.frozen; reached = v.reached; outs = v.outs }))
same_state w pages i (ended s until) (sg, d) = (sg, record { frozen = d.frozen; reached = d.reached; outs = d.outs })

-- so a sheet that a neighbour shows in account i keeps the part of each account k, and so does a key that anybody shows
pub shows_safe : (ds : List Deposit) (w : World) → Holds (terms_of w) → Timely ds w → (i : ℕ) (s : Content) → WasSigned i s w.signed → (k : ℕ) → k < length ds → Safe (sheet_in i s w) k
shows_safe ds w holds t i s sg k l =
    let old : Safe w k = t.safe k l in
    record { state = go (eqb k i) refl; only_held = old.only_held; signed = old.signed; held_signed = old.held_signed; looked = old.looked }
  where
    pages : ℕ → Page
    pages = on_page i (sheet_shown (terms_of w).window w.now s) w.pages

    go : (b : Bool) → eqb k i ≡ b → SafeIn (with_pages w pages) k (cond (eqb k i) (sheet_shown (terms_of w).window w.now s (w.pages k)) (w.pages k)).phase
    go true e =
        let one : ◌≡◌ {A = Page} (cond (eqb k i) (sheet_shown (terms_of w).window w.now s (w.pages k)) (w.pages k)) (sheet_shown (terms_of w).window w.now s (w.pages k)) =
        cond-true (eqb k i) (sheet_shown (terms_of w).window w.now s (w.pages k)) (w.pages k) e in
        let sk : WasSigned k s w.signed = subst (λ (x : ℕ). WasSigned x s w.signed) (sym (eqb-true k i e)) sg in
        subst (λ (q : Page). SafeIn (with_pages w pages) k q.phase) (sym one)
        (same_state w pages k (with_sheet (terms_of w).window w.now s (w.pages k).phase)
        (sheet_state w holds t.not_late t.recent t.coming t.sent_since k s sk (w.pages k).phase (t.safe k l).state))
    go false e =
        subst (λ (q : Page). SafeIn (with_pages w pages) k q.phase) (sym (cond-false (eqb k i) (sheet_shown (terms_of w).window w.now s (w.pages k)) (w.pages k) e))
        (same_state w pages k (w.pages k).phase (t.safe k l).state)

pub reveals_safe : (ds : List Deposit) (w : World) → Timely ds w → (i : ℕ) (key : List ℕ) (k : ℕ) → k < length ds → Safe (key_in i key w) k
reveals_safe ds w t i key k l =
    let old : Safe w k = t.safe k l in
    record { state = state; only_held = old.only_held; signed = old.signed; held_signed = old.held_signed; looked = old.looked }
  where
    pages : ℕ → Page
    pages = on_page i (key_shown w.now key) w.pages

    state : SafeIn (with_pages w pages) k (cond (eqb k i) (key_shown w.now key (w.pages k)) (w.pages k)).phase
    state =
        cond_both (eqb k i) (key_shown w.now key (w.pages k)) (w.pages k) (λ (q : Page). SafeIn (with_pages w pages) k q.phase)
        (λ _. same_state w pages k (w.pages k).phase (t.safe k l).state) (λ _. same_state w pages k (w.pages k).phase (t.safe k l).state)

-- a tick keeps all
pub tick_timely : (ds : List Deposit) (w : World) → Holds (terms_of w) → may_tick w ≡ true → Timely ds w → Timely ds (ticked w)
tick_timely ds w holds may t =
    let parts = and_parts (ltb w.now w.due) (none_due w.now w.coming) may in
    let soon : w.now < w.due = ltb-true w.now w.due parts.0 in
    let recent : w.due ≤ w.now + (terms_of w).look = t.recent in
    record {
      not_late = omega arith;
      recent = omega arith;
      coming = λ x m. next_tick w.now (due_of x) (none_due_lem w.now w.coming x parts.1 m);
      sent_since = λ x m. one_more (due_of x) w.now (terms_of w).delay (t.sent_since x m);
      keys = t.keys;
      through = t.through;
      safe = λ i l. tick_safe w holds soon parts.1 i (t.safe i l);
    }
  where
    next_tick : (a b : ℕ) → a < b → a + 1 ≤ b
    next_tick a b h = omega arith

    one_more : (a b c : ℕ) → a ≤ b + c → a ≤ b + 1 + c
    one_more a b c h = omega arith

-- keys in the register, when a sheet or a key comes in
keys_stay : (i : ℕ) (f : Page → Page) → ((q : Page) → (f q).keys ≡ q.keys) → (pages : ℕ → Page) (j : ℕ) → (on_page i f pages j).keys ≡ (pages j).keys
keys_stay i f h pages j = cond_both (eqb j i) (f (pages j)) (pages j) (λ (q : Page). q.keys ≡ (pages j).keys) (λ _. h (pages j)) (λ _. refl)

pub shows_timely : (ds : List Deposit) (w : World) → Holds (terms_of w) → Timely ds w → (i : ℕ) (s : Content) → WasSigned i s w.signed → Timely ds (sheet_in i s w)
shows_timely ds w holds t i s sg =
    record {
      not_late = t.not_late;
      recent = t.recent;
      coming = t.coming;
      sent_since = t.sent_since;
      keys = t.keys;
      through = λ k c l inn from b. forth k c (t.through k c l inn from (back c b));
      safe = shows_safe ds w holds t i s sg;
    }
  where
    stay : (j : ℕ) → ((sheet_in i s w).pages j).keys ≡ (w.pages j).keys
    stay j = keys_stay i (sheet_shown (terms_of w).window w.now s) (λ q. refl) w.pages j

    back : (c : Payment) → Bound (sheet_in i s w) (length ds) c → Bound w (length ds) c
    back c (inl h) = inl h
    back c (inr (j, by, l, m, e)) = inr (j, by, l, subst (λ (ks : List KeyAt). KeyBy by c.lock ks) (stay j) m, e)

    forth : (k : ℕ) (c : Payment) → Through w k c → Through (sheet_in i s w) k c
    forth k c (inl h) = inl (subst (λ (ks : List KeyAt). KeyBy c.end c.lock ks) (sym (stay k)) h)
    forth k c (inr h) = inr h

key_new : (by t : ℕ) (lock key : List ℕ) (ks : List KeyAt) → KeyBy by lock (with_key_at t key ks) → KeyBy by lock ks ⊎ (t ≤ by)
key_new by t lock key [] (inl h) = inr h.1
key_new by t lock key [] (inr m) = absurd m
key_new by t lock key (k ∷ ks) m =
    cond_both (bytes_eq k.key key) (k ∷ ks) (k ∷ with_key_at t key ks) (λ (l : List KeyAt). KeyBy by lock l → KeyBy by lock (k ∷ ks) ⊎ (t ≤ by)) (λ _ q. inl q)
    (λ _ q. go q (λ r. key_new by t lock key ks r)) m
  where
    lift : KeyBy by lock ks ⊎ (t ≤ by) → KeyBy by lock (k ∷ ks) ⊎ (t ≤ by)
    lift (inl a) = inl (inr a)
    lift (inr b) = inr b

    go : KeyBy by lock (k ∷ with_key_at t key ks) → (KeyBy by lock (with_key_at t key ks) → KeyBy by lock ks ⊎ (t ≤ by)) → KeyBy by lock (k ∷ ks) ⊎ (t ≤ by)
    go (inl h) rest = inl (inl h)
    go (inr q) rest = lift (rest q)

key_stays : (by t : ℕ) (lock key : List ℕ) (ks : List KeyAt) → KeyBy by lock ks → KeyBy by lock (with_key_at t key ks)
key_stays by t lock key [] m = absurd m
key_stays by t lock key (k ∷ ks) m =
    cond_both (bytes_eq k.key key) (k ∷ ks) (k ∷ with_key_at t key ks) (λ (l : List KeyAt). KeyBy by lock l) (λ _. m) (λ _. go m (λ r. key_stays by t lock key ks r))
  where
    go : KeyBy by lock (k ∷ ks) → (KeyBy by lock ks → KeyBy by lock (with_key_at t key ks)) → KeyBy by lock (k ∷ with_key_at t key ks)
    go (inl h) rest = inl h
    go (inr q) rest = inr (rest q)

pub reveals_timely : (ds : List Deposit) (w : World) → Timely ds w → (i : ℕ) (key : List ℕ) → Timely ds (key_in i key w)
reveals_timely ds w t i key =
    record {
      not_late = t.not_late;
      recent = t.recent;
      coming = t.coming;
      sent_since = t.sent_since;
      keys = t.keys;
      through = λ k c l inn from b. by_bound k c (λ r. t.through k c l inn from r) (back c b);
      safe = reveals_safe ds w t i key;
    }
  where
    new : (j : ℕ) (by : ℕ) (lock : List ℕ) → KeyBy by lock ((key_in i key w).pages j).keys → KeyBy by lock (w.pages j).keys ⊎ (w.now ≤ by)
    new j by lock =
        cond_both (eqb j i) (key_shown w.now key (w.pages j)) (w.pages j) (λ (q : Page). KeyBy by lock q.keys → KeyBy by lock (w.pages j).keys ⊎ (w.now ≤ by))
        (λ _ m. key_new by w.now lock key (w.pages j).keys m) (λ _ m. inl m)

    stays : (j : ℕ) (by : ℕ) (lock : List ℕ) → KeyBy by lock (w.pages j).keys → KeyBy by lock ((key_in i key w).pages j).keys
    stays j by lock m =
        cond_both (eqb j i) (key_shown w.now key (w.pages j)) (w.pages j) (λ (q : Page). KeyBy by lock q.keys)
        (λ _. key_stays by w.now lock key (w.pages j).keys m) (λ _. m)

    old_or_new : (c : Payment) (j by : ℕ) → j < length ds → by + (terms_of w).look + (terms_of w).delay ≤ c.end → KeyBy by c.lock (w.pages j).keys ⊎ (w.now ≤ by) → Bound w (length ds) c ⊎ (w.due + (terms_of w).delay ≤ c.end)
    old_or_new c j by l e (inl m) = inl (inr (j, by, l, m, e))
    old_or_new c j by l e (inr h) =
        let recent : w.due ≤ w.now + (terms_of w).look = t.recent in
        inr (omega arith)

    back : (c : Payment) → Bound (key_in i key w) (length ds) c → Bound w (length ds) c ⊎ (w.due + (terms_of w).delay ≤ c.end)
    back c (inl h) = inl (inl h)
    back c (inr (j, by, l, m, e)) = old_or_new c j by l e (new j by c.lock m)

    forth : (k : ℕ) (c : Payment) → Through w k c → Through (key_in i key w) k c
    forth k c (inl h) = inl (stays k c.end c.lock h)
    forth k c (inr h) = inr h

    by_bound : (k : ℕ) (c : Payment) → (Bound w (length ds) c → Through w k c) → Bound w (length ds) c ⊎ (w.due + (terms_of w).delay ≤ c.end) → Through (key_in i key w) k c
    by_bound k c f (inl b) = forth k c (f b)
    by_bound k c f (inr h) = inr (inr h)

-- a neighbour shows what was signed, or nothing
nth_signed : (l : List Signed) (m : ℕ) (x : Signed) → slice_get l m ≡ Some x → WasSigned x.account x.sheet l
nth_signed [] m x e =
    let z : ◌≡◌ {A = ℕ} 0 1 = ap (λ (o : Option Signed). cond (is_some o) 1 0) e in
    absurd (omega arith)
nth_signed (y ∷ l) zero x e =
    let same : y ≡ x = cc in
    inl (ap (λ (z : Signed). z.account) same, ap (λ (z : Signed). z.sheet) same)
nth_signed (y ∷ l) (suc m) x e = inr (nth_signed l m x e)

shown_timely : (ds : List Deposit) (w : World) → Holds (terms_of w) → Timely ds w → (o : Option Signed) → ((x : Signed) → o ≡ Some x → WasSigned x.account x.sheet w.signed) → Timely ds (shown o w)
shown_timely ds w holds t None h = t
shown_timely ds w holds t (Some x) h = shows_timely ds w holds t x.account x.sheet (h x refl)

pub neighbour_timely : (ds : List Deposit) (w : World) → Holds (terms_of w) → Timely ds w → (m : ℕ) → Timely ds (shown (slice_get w.signed m) w)
neighbour_timely ds w holds t m = shown_timely ds w holds t (slice_get w.signed m) (λ x e. nth_signed w.signed m x e)

-- a stop and a start keep the account's part
restarted_at : (l : List Standing) (j i : ℕ) (d : Standing) → i < length l → get_or (each_of restarted_of j l) i d ≡ restarted_of 0 (get_or l i d)
restarted_at [] j i d h = absurd (omega arith)
restarted_at (a ∷ l) j zero d h = refl
restarted_at (a ∷ l) j (suc i) d h = restarted_at l (j + 1) i d (omega arith)

pub restart_safe : (w : World) (i : ℕ) → i < length (node_of w).accounts → Safe w i → Safe (restarted w) i
restart_safe w i l old =
    record {
      state = kept (w.pages i).phase old.state;
      only_held = λ s by m. ((old.only_held s by m).0 ∙ sym held, frozen);
      signed = λ s m. subst (λ (z : Standing). (s.number < z.held.number) ⊎ Counts z s) (sym same) (old.signed s m);
      held_signed = subst (λ (h : Content). WasSigned i h w.signed) (sym held) old.held_signed;
      looked = λ t e. absurd (unlooked t (subst (λ (z : Standing). z.looked ≡ Some t) same e));
    }
  where
    a : Standing
    a = account_at (node_of w) i

    b : Standing
    b = account_at (node_of (restarted w)) i

    same : b ≡ restarted_of 0 a
    same = restarted_at (node_of w).accounts 0 i (opened_of (first_of 0 0 0)) l

    held : b.held ≡ a.held
    held = ap (λ (z : Standing). z.held) same

    frozen : is_frozen b ≡ true
    frozen = subst (λ (z : Standing). is_frozen z ≡ true) (sym same) refl

    unlooked : (t : ℕ) → ◌≡◌ {A = Option ℕ} None (Some t) → ⊥
    unlooked t e =
        let z : ◌≡◌ {A = ℕ} 0 1 = ap (λ (o : Option ℕ). cond (is_some o) 1 0) e in
        omega arith

    unsent : b.sent ≡ None
    unsent = ap (λ (z : Standing). z.sent) same

    undisputed : b.disputed ≡ false
    undisputed = ap (λ (z : Standing). z.disputed) same

    back : (x : Payment) → Out (node_of (restarted w)) i x → Out (node_of w) i x
    back x (s, c, m) = (s, subst (λ (z : Standing). Counts z s) same c, m)

    goes : (by : ℕ) → HeldGoes w i by → HeldGoes (restarted w) i by
    goes by m = subst (λ (h : Content). OnWay (sheet_for i h by) w.coming) (sym held) m

    numbers : (k : ℕ) → a.held.number ≤ k → b.held.number ≤ k
    numbers k h = subst (λ (c : Content). c.number ≤ k) (sym held) h

    reach : (s : Content) (until : ℕ) → (a.held.number ≤ s.number) ⊎ ((by : ℕ) × HeldGoes w i by × (by < until)) → (b.held.number ≤ s.number) ⊎ ((by : ℕ) × HeldGoes (restarted w) i by × (by < until))
    reach s until (inl h) = inl (numbers s.number h)
    reach s until (inr (by, m, h)) = inr (by, goes by m, h)

    kept : (p : Phase) → SafeIn w i p → SafeIn (restarted w) i p
    kept quiet (inl c) = inl (record { unsent = unsent; undisputed = undisputed; nothing = c.nothing; outs = λ x out. c.outs x (back x out) })
    kept quiet (inr o) =
        inr (record { by = o.by; goes = goes o.by o.goes; past = subst (λ (z : Standing). is_past w.now z ≡ true) (sym same) o.past; frozen = frozen; outs = λ x out. o.outs x (back x out) })
    kept (disputed s until) (h, sg, inl u) =
        (h, sg, inl (record { unsent = unsent; undisputed = undisputed; nothing = u.nothing; since = u.since; up_to = u.up_to; outs = λ x out. u.outs x (back x out) }))
    kept (disputed s until) (h, sg, inr v) = (h, sg, inr (record { frozen = frozen; reached = reach s until v.reached; outs = λ x out. v.outs x (back x out) }))
    kept (ended s until) (sg, d) = (sg, record { frozen = frozen; reached = numbers s.number d.reached; outs = λ x out. d.outs x (back x out) })

pub restart_timely : (ds : List Deposit) (w : World) → length (node_of w).accounts ≡ length ds → Timely ds w → Timely ds (restarted w)
restart_timely ds w many t =
    record {
      not_late = t.not_late;
      recent = t.recent;
      coming = t.coming;
      sent_since = t.sent_since;
      keys = t.keys;
      through = λ i c l inn from b. t.through i c l (back i c l inn) from b;
      safe = λ i l. restart_safe w i (there i l) (t.safe i l);
    }
  where
    there : (i : ℕ) → i < length ds → i < length (node_of w).accounts
    there i l = omega (arith, many)

    back : (i : ℕ) (c : Payment) → i < length ds → In (node_of (restarted w)) i c → In (node_of w) i c
    back i c l (s, h, m) = (s, subst (λ (z : Standing). Counts z s) (restarted_at (node_of w).accounts 0 i (opened_of (first_of 0 0 0)) (there i l)) h, m)

-- Every account is settled once all ends, and a window and a delay after them, are past.
use Rattle.std.proofs.Common.{◌≡◌, ℕ, ◌+◌, ◌-◌, ◌<◌, ◌≤◌, Bool, true, false, cond, not, ◌&&◌, ltb, leb, ◌⊎◌, List, [], ◌∷◌, ◌++◌, length, is_some, Some, None, Option, sym, refl, ap, ◌∙◌, subst, inl, inr, append_assoc, arith}
use Rattle.std.proofs.lemmas.Bool.{and_from, and_parts, or_from, or_left, or_right, lt-ltb, le-leb}
use Rattle.sheet.specs.declared.types.Payment.{Payment}
use Rattle.sheet.specs.Contents.{Content}
use Rattle.change.specs.Changes.{most}
use Rattle.account.specs.Accounts.{Standing}
use Rattle.schedule.specs.declared.types.Terms.{Terms}
use Rattle.node_state.specs.Nodes.{account_at}
use Rattle.looking.specs.Looking.{any_past, past_on, past_on_next, is_past}
use Rattle.register.specs.Register.{Phase, quiet, disputed, ended, all_over}
use Rattle.moments.specs.Runs.{Deposit}
use Rattle.moments.specs.Moments.{Counts, Stands}
use Rattle.moments.specs.Moves.{SameSheets}
use Rattle.moments.proofs.Places.{counts_same}
use Rattle.promise_told.specs.World.{World, node_of, terms_of, Coming, sheet_for, Event, beginning, world_after}
use Rattle.promise_told.specs.Main.{Holds, none_of, is_bare, settled_by, Settled, Main}
use Rattle.promise_told.proofs.Follows.{world_terms}
use Rattle.promise_told.proofs.Safe.{OnWay, SafeIn, AlwaysTimely, no_older_from}
use Rattle.promise_told.proofs.Always.{always_timely, main}
use Rattle.settling.specs.Settling.{Alone, Over, settled_at, SettlesAlone, Settles, PaidAlone}
use Rattle.settling.proofs.Touched.{Touched, next_touched}
use Rattle.settling.proofs.Pages.{run_append, By, EndsBy, run_ends, until_by}
use Rattle.settling.proofs.Rounds.{Round, rounds, alone_append}

never : {A : Type 0} → true ≡ false → A
never e =
    let z : ◌≡◌ {A = ℕ} 1 0 = ap (λ (b : Bool). cond b 1 0) e in
    absurd (omega arith)

reach : (a b last : ℕ) → a ≤ last → b ≡ a + (last - a) → b ≡ last
reach a b last h e = omega arith

-- a list of payments is empty, or has one whose end is past
abbrev AllBefore : ℕ → List Payment → Type 0
AllBefore t ps = (x : Payment) → Stands x ps → x.end < t

past_or_none : (t : ℕ) (ps : List Payment) → AllBefore t ps → (any_past t ps ≡ true) ⊎ (none_of ps ≡ true)
past_or_none t [] h = inr refl
past_or_none t (p ∷ ps) h = inl (or_left (ltb p.end t) (any_past t ps) (lt-ltb p.end t (h p (inl refl))))

past_some : (t : ℕ) (ps : List Payment) → AllBefore t ps → none_of ps ≡ false → any_past t ps ≡ true
past_some t ps h e = by (past_or_none t ps h)
  where
    by : (any_past t ps ≡ true) ⊎ (none_of ps ≡ true) → any_past t ps ≡ true
    by (inl p) = p
    by (inr q) = never (sym q ∙ e)

-- so an account has an end that is past, or is bare
past_or_bare : (t : ℕ) (a : Standing) → ((s : Content) → Counts a s → AllBefore t s.ins × AllBefore t s.outs) → ((s : Content) → a.next ≡ Some s → Touched a.held s) → (is_past t a ≡ true) ⊎ (is_bare a ≡ true)
past_or_bare t a before touched = by (past_or_none t a.held.ins (before a.held (inl refl)).0) (past_or_none t a.held.outs (before a.held (inl refl)).1)
  where
    on_held : past_on t a.held ≡ true → is_past t a ≡ true
    on_held h = or_left (past_on t a.held) (past_on_next t a.next) h

    on_next_lem : (s : Content) → a.next ≡ Some s → past_on t s ≡ true → is_past t a ≡ true
    on_next_lem s e h = or_right (past_on t a.held) (past_on_next t a.next) (ap (past_on_next t) e ∙ h)

    by_next : (o : Option Content) → a.next ≡ o → none_of a.held.ins ≡ true → none_of a.held.outs ≡ true → (is_past t a ≡ true) ⊎ (is_bare a ≡ true)
    by_next None e ins outs =
        inr (and_from (none_of a.held.ins) (none_of a.held.outs && not (is_some a.next)) ins (and_from (none_of a.held.outs) (not (is_some a.next)) outs (ap (λ (o : Option Content). not (is_some o)) e)))
    by_next (Some s) e ins outs = touching (touched s e)
      where
        touching : Touched a.held s → (is_past t a ≡ true) ⊎ (is_bare a ≡ true)
        touching (inl (inl h)) = never (sym ins ∙ h)
        touching (inl (inr h)) = never (sym outs ∙ h)
        touching (inr (inl h)) = inl (on_next_lem s e (or_left (any_past t s.ins) (any_past t s.outs) (past_some t s.ins (before s (inr e)).0 h)))
        touching (inr (inr h)) = inl (on_next_lem s e (or_right (any_past t s.ins) (any_past t s.outs) (past_some t s.outs (before s (inr e)).1 h)))

    by : (any_past t a.held.ins ≡ true) ⊎ (none_of a.held.ins ≡ true) → (any_past t a.held.outs ≡ true) ⊎ (none_of a.held.outs ≡ true) → (is_past t a ≡ true) ⊎ (is_bare a ≡ true)
    by (inl h) outs = inl (on_held (or_left (any_past t a.held.ins) (any_past t a.held.outs) h))
    by (inr ins) (inl h) = inl (on_held (or_right (any_past t a.held.ins) (any_past t a.held.outs) h))
    by (inr ins) (inr outs) = by_next a.next refl ins outs

-- a bare account has no end to be past
none_past : (t : ℕ) (ps : List Payment) → none_of ps ≡ true → any_past t ps ≡ false
none_past t [] e = refl
none_past t (p ∷ ps) e = never (sym e)

none_next : (t : ℕ) (o : Option Content) → not (is_some o) ≡ true → past_on_next t o ≡ false
none_next t None e = refl
none_next t (Some s) e = never (sym e)

bare_not_past : (a : Standing) → is_bare a ≡ true → (t : ℕ) → is_past t a ≡ false
bare_not_past a e t =
    let one = and_parts (none_of a.held.ins) (none_of a.held.outs && not (is_some a.next)) e in
    let two = and_parts (none_of a.held.outs) (not (is_some a.next)) one.1 in
    or_from (past_on t a.held) (past_on_next t a.next) (or_from (any_past t a.held.ins) (any_past t a.held.outs) (none_past t a.held.ins one.0) (none_past t a.held.outs two.0))
    (none_next t a.next two.1)

bare_same : (a b : Standing) → SameSheets a b → is_bare a ≡ true → is_bare b ≡ true
bare_same a b e h =
    ap (λ (s : Content). none_of s.ins && (none_of s.outs && not (is_some b.next))) e.0
    ∙ ap (λ (o : Option Content). none_of a.held.ins && (none_of a.held.outs && not (is_some o))) e.1 ∙ h

-- all is over
all_over_lem : (last now : ℕ) (ps : List Payment) → AllBefore now ps → last < now → all_over last now ps ≡ true
all_over_lem last now [] h l = refl
all_over_lem last now (p ∷ ps) h l =
    and_from (ltb p.end now && ltb last now) (all_over last now ps) (and_from (ltb p.end now) (ltb last now) (lt-ltb p.end now (h p (inl refl))) (lt-ltb last now l))
    (all_over_lem last now ps (λ x m. h x (inr m)) l)

-- where nothing is on its way, an account that is disputed has a dispute
quiet_not : (w : World) (k : ℕ) → w.coming ≡ [] → (account_at (node_of w) k).disputed ≡ true → SafeIn w k quiet → ⊥
quiet_not w k e d (inl c) = never (sym d ∙ c.undisputed)
quiet_not w k e d (inr o) = subst (λ (l : List Coming). OnWay (sheet_for k (account_at (node_of w) k).held o.by) l) e o.goes

module _ (always : AlwaysTimely) (terms : Terms) (holds : Holds terms) (ds : List Deposit) (events : List Event) (last : ℕ) (over : Over (world_after terms ds events) (length ds) last) where
  -- after some more events at the tick `last` or later, with the same sheets, all payments that may count are over
  all_before : (more : List Event) (now k : ℕ) → k < length ds → last ≤ now → SameSheets (account_at (node_of (world_after terms ds events)) k) (account_at (node_of (world_after terms ds more)) k) →
      (s : Content) → Counts (account_at (node_of (world_after terms ds more)) k) s → AllBefore now s.ins × AllBefore now s.outs
  all_before more now k l later same s c =
      let first : Counts (account_at (node_of (world_after terms ds events)) k) s = counts_same (account_at (node_of (world_after terms ds events)) k) (account_at (node_of (world_after terms ds more)) k) s same c in
      (λ x m. up x.end (over.ins k x l (s, first, m)), λ x m. up x.end (over.outs k x l (s, first, m)))
    where
      up : (a : ℕ) → a < last → a < now
      up a h = omega arith

  module _ (one two : List Event) (r : Round ds (last - (world_after terms ds events).now) (world_after terms ds events) (world_after terms ds one)) (q : Round ds (terms.window + terms.delay + 1) (world_after terms ds one) (world_after terms ds (one ++ two))) (k : ℕ) (l : k < length ds) where
    at_last : (world_after terms ds one).now ≡ last
    at_last = reach (world_after terms ds events).now (world_after terms ds one).now last over.now r.now

    at_end : (world_after terms ds (one ++ two)).now ≡ last + (terms.window + terms.delay + 1)
    at_end = q.now ∙ ap (λ (x : ℕ). x + (terms.window + terms.delay + 1)) at_last

    -- a dispute of the tick `last` has ended and is settled
    by_dispute : EndsBy ((world_after terms ds one).now + terms.window) ((world_after terms ds one).pages k).phase → Settled (world_after terms ds (one ++ two)) k
    by_dispute h = by ((world_after terms ds (one ++ two)).pages k).phase refl
      where
        w : World
        w = world_after terms ds (one ++ two)

        ends : EndsBy ((world_after terms ds one).now + terms.window) ((world_after terms ds (one ++ two)).pages k).phase
        ends =
            subst (λ (x : World). EndsBy ((world_after terms ds one).now + terms.window) (x.pages k).phase) (sym (run_append one two (beginning terms ds)))
            (run_ends ((world_after terms ds one).now + terms.window) two (world_after terms ds one) k h)

        state : (p : Phase) → (w.pages k).phase ≡ p → SafeIn w k p
        state p e = subst (λ (x : Phase). SafeIn w k x) e ((always terms holds ds (one ++ two)).safe k l).state

        passed : (now first until window delay : ℕ) → until ≤ first + window → first ≡ last → now ≡ last + (window + delay + 1) → until + delay < now
        passed now first until window delay h e f = omega arith

        not_after : (now first until window delay : ℕ) → until ≤ first + window → first ≡ last → now ≡ last + (window + delay + 1) → now < until → ⊥
        not_after now first until window delay h e f g = omega arith

        ended_by_lem : (now until delay : ℕ) → until + delay < now → until ≤ now
        ended_by_lem now until delay h = omega arith

        same_delay : (terms_of w).delay ≡ terms.delay
        same_delay = ap (λ (t : Terms). t.delay) (world_terms terms ds (one ++ two))

        by : (p : Phase) → (w.pages k).phase ≡ p → Settled w k
        by quiet e = absurd (subst (EndsBy ((world_after terms ds one).now + terms.window)) e ends)
        by (disputed s until) e =
            absurd (not_after w.now (world_after terms ds one).now until terms.window terms.delay (subst (EndsBy ((world_after terms ds one).now + terms.window)) e ends) at_last at_end (state (disputed s until) e).0)
        by (ended s until) e =
            subst (λ (p : Phase). settled_by (terms_of w).delay w.now (account_at (node_of w) k) p ≡ true) (sym e)
            (and_from (leb until w.now) (all_over (until + (terms_of w).delay) w.now s.ins && all_over (until + (terms_of w).delay) w.now s.outs) (le-leb until w.now (ended_by_lem w.now until terms.delay long))
            (and_from (all_over (until + (terms_of w).delay) w.now s.ins) (all_over (until + (terms_of w).delay) w.now s.outs) (all_over_lem (until + (terms_of w).delay) w.now s.ins before.0 longer)
            (all_over_lem (until + (terms_of w).delay) w.now s.outs before.1 longer)))
          where
            long : until + terms.delay < w.now
            long = passed w.now (world_after terms ds one).now until terms.window terms.delay (subst (EndsBy ((world_after terms ds one).now + terms.window)) e ends) at_last at_end

            longer : until + (terms_of w).delay < w.now
            longer = subst (λ (x : ℕ). until + x < w.now) (sym same_delay) long

            after_last : (now window delay : ℕ) → now ≡ last + (window + delay + 1) → last ≤ now
            after_last now window delay f = omega arith

            before : AllBefore w.now s.ins × AllBefore w.now s.outs
            before =
                all_before (one ++ two) w.now k l (after_last w.now terms.window terms.delay at_end) ((q.sheets k l).0 ∙ (r.sheets k l).0, (q.sheets k l).1 ∙ (r.sheets k l).1) s
                (no_older_from always terms holds ds (one ++ two) k s until l e)

    -- an account that is quiet at the tick `last` is bare, and stays quiet
    by_quiet : ((world_after terms ds one).pages k).phase ≡ quiet → Settled (world_after terms ds (one ++ two)) k
    by_quiet e = by (past_or_bare v.now (account_at (node_of v) k) (all_before one v.now k l (reaches v.now at_last) (r.sheets k l)) (next_touched terms ds one k))
      where
        w : World
        w = world_after terms ds (one ++ two)

        v : World
        v = world_after terms ds one

        reaches : (a : ℕ) → a ≡ last → last ≤ a
        reaches a f = omega arith

        by : (is_past v.now (account_at (node_of v) k) ≡ true) ⊎ (is_bare (account_at (node_of v) k) ≡ true) → Settled w k
        by (inl h) = absurd (quiet_not v k r.coming (r.past k l h) (subst (λ (p : Phase). SafeIn v k p) e ((always terms holds ds one).safe k l).state))
        by (inr h) =
            subst (λ (p : Phase). settled_by (terms_of w).delay w.now (account_at (node_of w) k) p ≡ true) (sym (q.still k l (bare_not_past (account_at (node_of v) k) h) e))
            (bare_same (account_at (node_of v) k) (account_at (node_of w) k) (q.sheets k l) h)

    pub settled : Settled (world_after terms ds (one ++ two)) k
    settled = by ((world_after terms ds one).pages k).phase refl
      where
        until : (p : Phase) → ((world_after terms ds one).pages k).phase ≡ p → By ((world_after terms ds one).now + terms.window) p
        until p e = subst (By ((world_after terms ds one).now + terms.window)) e (until_by terms ds one k)

        by : (p : Phase) → ((world_after terms ds one).pages k).phase ≡ p → Settled (world_after terms ds (one ++ two)) k
        by quiet e = by_quiet e
        by (disputed s t) e = by_dispute (subst (EndsBy ((world_after terms ds one).now + terms.window)) (sym e) (until (disputed s t) e))
        by (ended s t) e = by_dispute (subst (EndsBy ((world_after terms ds one).now + terms.window)) (sym e) (until (ended s t) e))

abbrev Done : Terms → List Deposit → List Event → ℕ → Type 0
Done terms ds events last =
    (more : List Event) × Alone more × ((world_after terms ds (events ++ more)).now ≡ settled_at terms last) ×
    ((k : ℕ) → k < length ds → Settled (world_after terms ds (events ++ more)) k)

pub settles_from : AlwaysTimely → SettlesAlone
settles_from always terms holds ds events last over fits = by (rounds always terms holds ds (last - w.now) events (first_fits w.now terms.window terms.delay over.now fits))
  where
    w : World
    w = world_after terms ds events

    first_fits : (a window delay : ℕ) → a ≤ last → last + window + delay + 1 ≤ most → a + (last - a) ≤ most
    first_fits a window delay h l = omega arith

    second_fits : (b window delay : ℕ) → b ≡ last → last + window + delay + 1 ≤ most → b + (window + delay + 1) ≤ most
    second_fits b window delay h l = omega arith

    arrives : (b c window delay : ℕ) → b ≡ last → c ≡ b + (window + delay + 1) → c ≡ last + window + delay + 1
    arrives b c window delay e f = omega arith

    by : (more : List Event) × Alone more × Round ds (last - w.now) w (world_after terms ds (events ++ more)) → Done terms ds events last
    by (more, alone, r) = then (rounds always terms holds ds (terms.window + terms.delay + 1) (events ++ more) (second_fits (world_after terms ds (events ++ more)).now terms.window terms.delay at_last fits))
      where
        at_last : (world_after terms ds (events ++ more)).now ≡ last
        at_last = reach w.now (world_after terms ds (events ++ more)).now last over.now r.now

        then : (list : List Event) × Alone list × Round ds (terms.window + terms.delay + 1) (world_after terms ds (events ++ more)) (world_after terms ds ((events ++ more) ++ list)) → Done terms ds events last
        then (list, too, q) = (
          more ++ list,
          alone_append more list alone too,
          subst (λ (l : List Event). (world_after terms ds l).now ≡ settled_at terms last) (append_assoc events more list)
              (arrives (world_after terms ds (events ++ more)).now (world_after terms ds ((events ++ more) ++ list)).now terms.window terms.delay at_last q.now),
          λ k l. subst (λ (z : List Event). Settled (world_after terms ds z) k) (append_assoc events more list) (settled always terms holds ds events last over (events ++ more) list r q k l),
        )

-- with time left there is such a tick
pub settles_by : SettlesAlone → Settles
settles_by alone terms holds ds events room = (done.0, done.1, done.3)
  where
    until : (a window delay : ℕ) → a + window + delay + 1 ≤ most → a ≤ most - (window + delay + 1)
    until a window delay l = omega arith

    before : (a window delay : ℕ) → a + 1 + window + delay + 1 ≤ most → a < most - (window + delay + 1)
    before a window delay l = omega arith

    fits : (a window delay : ℕ) → a + window + delay + 1 ≤ most → most - (window + delay + 1) + window + delay + 1 ≤ most
    fits a window delay l = omega arith

    over : Over (world_after terms ds events) (length ds) (most - (terms.window + terms.delay + 1))
    over =
        record {
          now = until (world_after terms ds events).now terms.window terms.delay room.now;
          ins = λ k x l m. before x.end terms.window terms.delay (room.ins k x l m);
          outs = λ k x l m. before x.end terms.window terms.delay (room.outs k x l m);
        }

    done : Done terms ds events (most - (terms.window + terms.delay + 1))
    done = alone terms holds ds events (most - (terms.window + terms.delay + 1)) over (fits (world_after terms ds events).now terms.window terms.delay room.now)

pub paid_by_lem : Main → Settles → PaidAlone
paid_by_lem main settles terms holds ds events room = (list, done.1, done.2, main terms holds ds (events ++ list) done.2)
  where
    done : (more : List Event) × Alone more × ((k : ℕ) → k < length ds → Settled (world_after terms ds (events ++ more)) k)
    done = settles terms holds ds events room

    list : List Event
    list = (settles terms holds ds events room).0

pub settles_alone : SettlesAlone
settles_alone = settles_from always_timely

pub settles : Settles
settles = settles_by settles_alone

pub paid_alone : PaidAlone
paid_alone = paid_by_lem main settles

-- Rounds: a look, and all that is on its way comes in; then ticks, each followed by a look and arrivals again.
use Rattle.std.proofs.Common.{◌≡◌, ℕ, zero, suc, ◌+◌, ◌<◌, ◌≤◌, Bool, true, false, cond, ◌||◌, ltb, List, [], ◌∷◌, ◌++◌, length, Option, sym, refl, ap, ◌∙◌, subst, inl, inr, append_assoc, arith}
use Rattle.std.proofs.lemmas.Bool.{cond-true, and_from, lt-ltb}
use Rattle.sheet.specs.Contents.{Content}
use Rattle.change.specs.Changes.{most}
use Rattle.account.specs.Accounts.{Standing}
use Rattle.schedule.specs.declared.types.Terms.{Terms}
use Rattle.node_state.specs.Nodes.{account_at}
use Rattle.looking.specs.Looking.{past_on, past_on_next, is_past, looked_of, is_refused}
use Rattle.register.specs.Register.{Phase, quiet, ended_by}
use Rattle.moments.specs.Runs.{Deposit, History}
use Rattle.moments.specs.Moves.{SameSheets}
use Rattle.moments.proofs.Theorems.{run_whole}
use Rattle.promise_told.specs.World.{World, node_of, terms_of, Coming, sheet_for, Event, tick, looks, picture_of, none_due, may_tick, ticked, happens, run, beginning, world_after}
use Rattle.promise_told.specs.Main.{Holds}
use Rattle.promise_told.proofs.Replays.{node_alone}
use Rattle.promise_told.proofs.Follows.{world_terms}
use Rattle.promise_told.proofs.Safe.{OnWay, SafeIn, Timely, AlwaysTimely}
use Rattle.settling.specs.Settling.{Alone}
use Rattle.settling.proofs.Pages.{run_append}
use Rattle.settling.proofs.Looks.{not_refused, seen, look_is, seen_account, look_disputes, arrivals, Arrived, all_arrive}

-- After n ticks: the next look isn't due yet and nothing is on its way; the sheets are the same; an account with an end that is
-- past is disputed; and one that had none to be past is quiet if it was.
pub record Round (ds : List Deposit) (n : ℕ) (w v : World) : Type 0 where
  pub now : v.now ≡ w.now + n
  pub soon : v.now < v.due
  pub coming : v.coming ≡ []
  pub sheets : (k : ℕ) → k < length ds → SameSheets (account_at (node_of w) k) (account_at (node_of v) k)
  pub past : (k : ℕ) → k < length ds → is_past v.now (account_at (node_of v) k) ≡ true → (account_at (node_of v) k).disputed ≡ true
  pub still : (k : ℕ) → k < length ds → ((t : ℕ) → is_past t (account_at (node_of w) k) ≡ false) → (w.pages k).phase ≡ quiet → (v.pages k).phase ≡ quiet

never : {A : Type 0} → true ≡ false → A
never e =
    let z : ◌≡◌ {A = ℕ} 1 0 = ap (λ (b : Bool). cond b 1 0) e in
    absurd (omega arith)

pub past_same : (t : ℕ) (a b : Standing) → SameSheets a b → is_past t b ≡ is_past t a
past_same t a b e = ap (λ (h : Content). past_on t h || past_on_next t b.next) e.0 ∙ ap (λ (o : Option Content). past_on t a.held || past_on_next t o) e.1

-- a look and the arrivals
module _ (ds : List Deposit) (w : World) (t : Timely ds w) (after : Timely ds (seen w)) (many : length (node_of w).accounts ≡ length ds) (fits : w.now ≤ most) (looks : 1 ≤ (terms_of w).look) where
  free : is_refused (node_of w) w.now ≡ false
  free = not_refused ds w t many fits

  all : Arrived (seen w) (run (arrivals (seen w).coming) (seen w))
  all = all_arrive (seen w).coming (seen w)

  account_is : (k : ℕ) → k < length ds → account_at (node_of (seen w)) k ≡ looked_of (terms_of w).delay w.now (picture_of w) k (account_at (node_of w) k)
  account_is k l = seen_account w free k (omega (arith, many))

  came_is : (k : ℕ) → k < length ds → account_at (node_of (run (arrivals (seen w).coming) (seen w))) k ≡ looked_of (terms_of w).delay w.now (picture_of w) k (account_at (node_of w) k)
  came_is k l = ap (λ (h : History). account_at h.node k) all.history ∙ account_is k l

  soon_by : (v : World) → v.due ≡ w.now + (terms_of w).look → v.now ≡ w.now → v.now < v.due
  soon_by v d n = omega arith

  disputed_by : (v : World) → v.now ≡ w.now → (k : ℕ) → k < length ds → account_at (node_of v) k ≡ looked_of (terms_of w).delay w.now (picture_of w) k (account_at (node_of w) k) →
      is_past v.now (account_at (node_of v) k) ≡ true → (account_at (node_of v) k).disputed ≡ true
  disputed_by v n k l e h =
      let same : is_past v.now (account_at (node_of v) k) ≡ is_past w.now (account_at (node_of w) k) =
      ap (λ (x : ℕ). is_past x (account_at (node_of v) k)) n ∙ past_same w.now (account_at (node_of w) k) (account_at (node_of v) k) (ap (λ (a : Standing). a.held) e, ap (λ (a : Standing). a.next) e) in
      ap (λ (a : Standing). a.disputed) e
      ∙ look_disputes (terms_of w).delay w.now k (picture_of w) (account_at (node_of w) k) (sym same ∙ h) (λ x s. (t.safe k l).sent_seen x s)

  quiet_nothing : (k : ℕ) → k < length ds → is_past w.now (account_at (node_of w) k) ≡ false → SafeIn (seen w) k quiet → (s : Content) (by : ℕ) → OnWay (sheet_for k s by) (seen w).coming → ⊥
  quiet_nothing k l h (inl c) = c.nothing
  quiet_nothing k l h (inr o) =
      let same : is_past w.now (account_at (node_of (seen w)) k) ≡ is_past w.now (account_at (node_of w) k) =
      past_same w.now (account_at (node_of w) k) (account_at (node_of (seen w)) k) (ap (λ (a : Standing). a.held) (account_is k l), ap (λ (a : Standing). a.next) (account_is k l)) in
      never (sym o.past ∙ same ∙ h)

  pub sees : Round ds 0 w (run (arrivals (seen w).coming) (seen w))
  sees =
      record {
        now = all.now ∙ none w.now;
        soon = soon_by (run (arrivals (seen w).coming) (seen w)) all.due all.now;
        coming = all.coming;
        sheets = λ k l. (ap (λ (a : Standing). a.held) (came_is k l), ap (λ (a : Standing). a.next) (came_is k l));
        past = λ k l h. disputed_by (run (arrivals (seen w).coming) (seen w)) all.now k l (came_is k l) h;
        still = λ k l h e. all.apart k (quiet_nothing k l (h w.now) (subst (λ (p : Phase). SafeIn (seen w) k p) e (after.safe k l).state)) ∙ e;
      }
    where
      none : (a : ℕ) → a ≡ a + 0
      none a = omega arith

-- a tick
tick_is : (w : World) → w.now < w.due → w.coming ≡ [] → happens tick w ≡ ticked w
tick_is w l e =
    cond-true (may_tick w) (ticked w) w
    (and_from (ltb w.now w.due) (none_due w.now w.coming) (lt-ltb w.now w.due l) (ap (λ (c : List Coming). none_due w.now c) e))

sheets_then : (a b c : Standing) → SameSheets a b → SameSheets b c → SameSheets a c
sheets_then a b c e f = (f.0 ∙ e.0, f.1 ∙ e.1)

one_more : (ds : List Deposit) (n : ℕ) (w v u : World) → Round ds n w v → Round ds 0 (ticked v) u → Round ds (suc n) w u
one_more ds n w v u r q =
    record {
      now = later w.now v.now u.now n r.now q.now;
      soon = q.soon;
      coming = q.coming;
      sheets = λ k l. sheets_then (account_at (node_of w) k) (account_at (node_of v) k) (account_at (node_of u) k) (r.sheets k l) (q.sheets k l);
      past = q.past;
      still = λ k l h e. q.still k l (λ t. past_same t (account_at (node_of w) k) (account_at (node_of v) k) (r.sheets k l) ∙ h t) (ap (ended_by (v.now + 1)) (r.still k l h e));
    }
  where
    later : (a b c m : ℕ) → b ≡ a + m → c ≡ b + 1 + 0 → c ≡ a + suc m
    later a b c m e f = omega arith

-- events of a run
pub alone_append : (xs ys : List Event) → Alone xs → Alone ys → Alone (xs ++ ys)
alone_append [] ys a b = b
alone_append (x ∷ xs) ys a b = (a.0, alone_append xs ys a.1 b)

arrivals_alone : (l : List Coming) → Alone (arrivals l)
arrivals_alone [] = tt
arrivals_alone (x ∷ l) = (refl, arrivals_alone l)

pub world_many : (terms : Terms) (ds : List Deposit) (events : List Event) → length (node_of (world_after terms ds events)).accounts ≡ length ds
world_many terms ds events =
    ap (λ (h : History). length h.node.accounts) (node_alone terms ds events).1 ∙ (run_whole terms ds (node_alone terms ds events).0).many

module _ (always : AlwaysTimely) (terms : Terms) (holds : Holds terms) (ds : List Deposit) where
  -- some events of the node and of time alone lead n ticks on
  abbrev pub Goes : ℕ → List Event → Type 0
  Goes n events = (more : List Event) × Alone more × Round ds n (world_after terms ds events) (world_after terms ds (events ++ more))

  looks_on : (events : List Event) → (world_after terms ds events).now ≤ most → Goes 0 events
  looks_on events fits = (more, (refl, arrivals_alone (seen w).coming), subst (λ (x : World). Round ds 0 w x) (sym whole) (sees ds w (always terms holds ds events) after (world_many terms ds events) fits often))
    where
      w : World
      w = world_after terms ds events

      more : List Event
      more = looks (picture_of w) ∷ arrivals (seen w).coming

      one : happens (looks (picture_of w)) w ≡ seen w
      one = look_is w (not_refused ds w (always terms holds ds events) (world_many terms ds events) fits)

      after : Timely ds (seen w)
      after = subst (Timely ds) (run_append events (looks (picture_of w) ∷ []) (beginning terms ds) ∙ one) (always terms holds ds (events ++ looks (picture_of w) ∷ []))

      whole : world_after terms ds (events ++ more) ≡ run (arrivals (seen w).coming) (seen w)
      whole = run_append events more (beginning terms ds) ∙ ap (λ (x : World). run (arrivals (seen w).coming) x) one

      often : 1 ≤ (terms_of w).look
      often = subst (λ (x : Terms). 1 ≤ x.look) (sym (world_terms terms ds events)) holds.looks

  pub rounds : (n : ℕ) (events : List Event) → (world_after terms ds events).now + n ≤ most → Goes n events
  rounds zero events fits = looks_on events (omega arith)
  rounds (suc n) events fits = by (rounds n events (less (world_after terms ds events).now n fits))
    where
      less : (a m : ℕ) → a + suc m ≤ most → a + m ≤ most
      less a m l = omega arith

      by : Goes n events → Goes (suc n) events
      by (more, alone, r) = (more ++ tick ∷ next.0, alone_append more (tick ∷ next.0) alone (refl, next.1), subst (λ (l : List Event). Round ds (suc n) (world_after terms ds events) (world_after terms ds l)) joined whole)
        where
          v : World
          v = world_after terms ds (events ++ more)

          ticks : world_after terms ds ((events ++ more) ++ tick ∷ []) ≡ ticked v
          ticks = run_append (events ++ more) (tick ∷ []) (beginning terms ds) ∙ tick_is v r.soon r.coming

          fit : (a b m : ℕ) → b ≡ a + m → a + suc m ≤ most → b + 1 ≤ most
          fit a b m e l = omega arith

          next : Goes 0 ((events ++ more) ++ tick ∷ [])
          next = looks_on ((events ++ more) ++ tick ∷ []) (subst (λ (x : World). x.now ≤ most) (sym ticks) (fit (world_after terms ds events).now v.now n r.now fits))

          whole : Round ds (suc n) (world_after terms ds events) (world_after terms ds (((events ++ more) ++ tick ∷ []) ++ next.0))
          whole =
              one_more ds n (world_after terms ds events) v (world_after terms ds (((events ++ more) ++ tick ∷ []) ++ next.0)) r
              (subst (λ (x : World). Round ds 0 x (world_after terms ds (((events ++ more) ++ tick ∷ []) ++ next.0))) ticks next.2)

          joined : ((events ++ more) ++ tick ∷ []) ++ next.0 ≡ events ++ (more ++ tick ∷ next.0)
          joined = append_assoc (events ++ more) (tick ∷ []) next.0 ∙ append_assoc events more (tick ∷ next.0)

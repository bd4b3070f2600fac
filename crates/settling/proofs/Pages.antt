-- Disputes over a run: each keeps its end, and none ends more than a window from now.
use Rattle.std.proofs.Common.{◌≡◌, ℕ, ◌+◌, ◌≤◌, eqb, leb, List, [], ◌∷◌, ◌++◌, Some, None, Option, sym, refl, subst, arith}
use Rattle.std.proofs.lemmas.Bool.{cond_both}
use Rattle.std.specs.List.{slice_get}
use Rattle.sheet.specs.Contents.{Content}
use Rattle.schedule.specs.declared.types.Terms.{Terms}
use Rattle.looking.specs.Looking.{is_refused}
use Rattle.register.specs.Register.{Phase, quiet, disputed, ended, Page, with_sheet, sheet_shown, key_shown, ended_by}
use Rattle.moments.specs.Runs.{Deposit}
use Rattle.promise_told.specs.World.{World, node_of, terms_of, Coming, sheet_for, key_for, Signed, Event, tick, entry, looks, shows, reveals, arrives, restart, entry_cut, look_cut, sheet_in, key_in, may_tick, ticked, looked, looked_in_part, shown, arrived, is_true, happens, run, beginning, world_after}
use Rattle.promise_told.proofs.Follows.{world_terms}

pub run_append : (xs ys : List Event) (w : World) → run (xs ++ ys) w ≡ run ys (run xs w)
run_append [] ys w = refl
run_append (x ∷ xs) ys w = run_append xs ys (happens x w)

-- the dispute, if there is one, ends by a tick; there is one, and it ends by a tick
abbrev pub By : ℕ → Phase → Type 0
By b quiet = Unit {0}
By b (disputed s until) = until ≤ b
By b (ended s until) = until ≤ b

abbrev pub EndsBy : ℕ → Phase → Type 0
EndsBy b quiet = ⊥
EndsBy b (disputed s until) = until ≤ b
EndsBy b (ended s until) = until ≤ b

-- what sheets that come in and ticks keep, every event keeps
module _ (P : Phase → Type 0) (w : World) (on-sheet : (s : Content) (p : Phase) → P p → P (with_sheet (terms_of w).window w.now s p)) (on-tick : (p : Phase) → P p → P (ended_by (w.now + 1) p)) (k : ℕ) (now : P (w.pages k).phase) where
  sheet_keeps : (i : ℕ) (s : Content) → P ((sheet_in i s w).pages k).phase
  sheet_keeps i s =
      cond_both (eqb k i) (sheet_shown (terms_of w).window w.now s (w.pages k)) (w.pages k) (λ (q : Page). P q.phase) (λ _. on-sheet s (w.pages k).phase now) (λ _. now)

  key_keeps : (i : ℕ) (key : List ℕ) → P ((key_in i key w).pages k).phase
  key_keeps i key = cond_both (eqb k i) (key_shown w.now key (w.pages k)) (w.pages k) (λ (q : Page). P q.phase) (λ _. now) (λ _. now)

  shown_keeps : (o : Option Signed) → P ((shown o w).pages k).phase
  shown_keeps None = now
  shown_keeps (Some x) = sheet_keeps x.account x.sheet

  arrived_keeps : (m : ℕ) (o : Option Coming) → P ((arrived m o w).pages k).phase
  arrived_keeps m None = now
  arrived_keeps m (Some (sheet_for i s by)) = sheet_keeps i s
  arrived_keeps m (Some (key_for i key by)) = key_keeps i key

  pub happens_keeps : (e : Event) → P ((happens e w).pages k).phase
  happens_keeps tick = cond_both (may_tick w) (ticked w) w (λ (x : World). P (x.pages k).phase) (λ _. on-tick (w.pages k).phase now) (λ _. now)
  happens_keeps (entry e) = now
  happens_keeps (looks told) =
      cond_both (is_true w told) (looked w told) w (λ (x : World). P (x.pages k).phase)
      (λ _. cond_both (is_refused (node_of w) w.now) w _ (λ (x : World). P (x.pages k).phase) (λ _. now) (λ _. now))
      (λ _. now)
  happens_keeps (shows m) = shown_keeps (slice_get w.signed m)
  happens_keeps (reveals i key) = key_keeps i key
  happens_keeps (arrives m) = arrived_keeps m (slice_get w.coming m)
  happens_keeps restart = now
  happens_keeps (entry_cut e j) = now
  happens_keeps (look_cut told j) = cond_both (is_true w told) (looked_in_part w told j) w (λ (x : World). P (x.pages k).phase) (λ _. now) (λ _. now)

-- a dispute keeps its end
ends_sheet : (b window now : ℕ) (s : Content) (p : Phase) → EndsBy b p → EndsBy b (with_sheet window now s p)
ends_sheet b window now s quiet h = absurd h
ends_sheet b window now s (disputed x until) h = h
ends_sheet b window now s (ended x until) h = h

ends_tick : (b now : ℕ) (p : Phase) → EndsBy b p → EndsBy b (ended_by now p)
ends_tick b now quiet h = h
ends_tick b now (disputed x until) h = cond_both (leb until now) (ended x until) (disputed x until) (EndsBy b) (λ _. h) (λ _. h)
ends_tick b now (ended x until) h = h

pub run_ends : (b : ℕ) (events : List Event) (w : World) (k : ℕ) → EndsBy b (w.pages k).phase → EndsBy b ((run events w).pages k).phase
run_ends b [] w k h = h
run_ends b (e ∷ events) w k h =
    run_ends b events (happens e w) k (happens_keeps (EndsBy b) w (λ s p. ends_sheet b (terms_of w).window w.now s p) (λ p. ends_tick b (w.now + 1) p) k h e)

-- none ends more than a window from now
by_more : (a b : ℕ) (p : Phase) → a ≤ b → By a p → By b p
by_more a b quiet l h = tt
by_more a b (disputed s until) l h = omega arith
by_more a b (ended s until) l h = omega arith

by_sheet : (b window now : ℕ) → now + window ≤ b → (s : Content) (p : Phase) → By b p → By b (with_sheet window now s p)
by_sheet b window now l s quiet h = l
by_sheet b window now l s (disputed x until) h = h
by_sheet b window now l s (ended x until) h = h

by_tick : (b now : ℕ) (p : Phase) → By b p → By b (ended_by now p)
by_tick b now quiet h = h
by_tick b now (disputed x until) h = cond_both (leb until now) (ended x until) (disputed x until) (By b) (λ _. h) (λ _. h)
by_tick b now (ended x until) h = h

le_self : (a : ℕ) → a ≤ a
le_self a = omega arith

le_one : (a : ℕ) → a ≤ a + 1
le_one a = omega arith

now_shown : (o : Option Signed) (w : World) → w.now ≤ (shown o w).now
now_shown None w = le_self w.now
now_shown (Some x) w = le_self w.now

now_arrived : (m : ℕ) (o : Option Coming) (w : World) → w.now ≤ (arrived m o w).now
now_arrived m None w = le_self w.now
now_arrived m (Some (sheet_for i s by)) w = le_self w.now
now_arrived m (Some (key_for i key by)) w = le_self w.now

now_grows : (e : Event) (w : World) → w.now ≤ (happens e w).now
now_grows tick w = cond_both (may_tick w) (ticked w) w (λ (x : World). w.now ≤ x.now) (λ _. le_one w.now) (λ _. le_self w.now)
now_grows (entry e) w = le_self w.now
now_grows (looks told) w =
    cond_both (is_true w told) (looked w told) w (λ (x : World). w.now ≤ x.now)
    (λ _. cond_both (is_refused (node_of w) w.now) w _ (λ (x : World). w.now ≤ x.now) (λ _. le_self w.now) (λ _. le_self w.now))
    (λ _. le_self w.now)
now_grows (shows m) w = now_shown (slice_get w.signed m) w
now_grows (reveals i key) w = le_self w.now
now_grows (arrives m) w = now_arrived m (slice_get w.coming m) w
now_grows restart w = le_self w.now
now_grows (entry_cut e k) w = le_self w.now
now_grows (look_cut told k) w = cond_both (is_true w told) (looked_in_part w told k) w (λ (x : World). w.now ≤ x.now) (λ _. le_self w.now) (λ _. le_self w.now)

abbrev UntilBy : ℕ → World → Type 0
UntilBy window w = (k : ℕ) → By (w.now + window) (w.pages k).phase

until_step : (window : ℕ) (w : World) → (terms_of w).window ≤ window → (e : Event) → UntilBy window w → UntilBy window (happens e w)
until_step window w same e h k =
    by_more (w.now + window) ((happens e w).now + window) ((happens e w).pages k).phase (more w.now (happens e w).now window (now_grows e w))
    (happens_keeps (By (w.now + window)) w (by_sheet (w.now + window) (terms_of w).window w.now (longer w.now (terms_of w).window window same)) (λ p. by_tick (w.now + window) (w.now + 1) p) k (h k) e)
  where
    more : (a b c : ℕ) → a ≤ b → a + c ≤ b + c
    more a b c l = omega arith

    longer : (a b c : ℕ) → b ≤ c → a + b ≤ a + c
    longer a b c l = omega arith

until_run : (terms : Terms) (ds : List Deposit) (events before : List Event) → UntilBy terms.window (world_after terms ds before) → UntilBy terms.window (run events (world_after terms ds before))
until_run terms ds [] before h = h
until_run terms ds (e ∷ events) before h =
    let one : world_after terms ds (before ++ e ∷ []) ≡ happens e (world_after terms ds before) = run_append before (e ∷ []) (beginning terms ds) in
    subst (λ (x : World). UntilBy terms.window (run events x)) one
    (until_run terms ds events (before ++ e ∷ [])
    (subst (λ (x : World). UntilBy terms.window x) (sym one) (until_step terms.window (world_after terms ds before) (same (world_terms terms ds before)) e h)))
  where
    same : terms_of (world_after terms ds before) ≡ terms → (terms_of (world_after terms ds before)).window ≤ terms.window
    same q = subst (λ (t : Terms). t.window ≤ terms.window) (sym q) (le_self terms.window)

pub until_by : (terms : Terms) (ds : List Deposit) (events : List Event) (k : ℕ) → By ((world_after terms ds events).now + terms.window) ((world_after terms ds events).pages k).phase
until_by terms ds events k = until_run terms ds events [] (λ j. tt) k

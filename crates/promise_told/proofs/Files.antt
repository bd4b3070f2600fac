-- In every run of the world the node's file says what it is after a stop.
use Rattle.std.proofs.Common.{◌≡◌, ℕ, ◌+◌, Bool, true, false, cond, ltb, ◌⊎◌, List, [], ◌∷◌, ◌++◌, map, take, Some, None, Option, sym, refl, ap, ◌∙◌, inl, inr}
use Rattle.std.proofs.lemmas.Bool.{cond_both, cond-true, cond-false, or_cases, or_parts}
use Rattle.std.specs.List.{slice_get}
use Rattle.refusal.specs.declared.Refusal.TheVariants.{Unreadable, TooLarge}
use Rattle.change.specs.Changes.{most}
use Rattle.account.specs.Accounts.{Standing}
use Rattle.node_state.specs.Nodes.{NodeState, with_accounts}
use Rattle.outcome.specs.Acts.{Record, Act, shown_sheet, shown_key}
use Rattle.outcome.specs.Records.{acted_all}
use Rattle.outcome.specs.Outcomes.{refused, done}
use Rattle.looking.specs.declared.types.Shown.{Shown}
use Rattle.looking.specs.Looking.{shows_held, learned, showing, showing_all, keys_to_show, look_taken, is_earlier, is_refused, look_of, looked_of, each_from, looked_node}
use Rattle.looking.specs.Looking as look
use Rattle.moments.specs.Runs.{each_of, restarted_of, started_again, outcome_of, start_of}
use Rattle.moments.specs.Records.{records_of, written_all}
use Rattle.moments.proofs.Replays.{written_append, again_acts, again_passing, again_opened}
use Rattle.promise_told.specs.World.{World, node_of, Coming, sheet_for, key_for, Signed, shown, arrived, Event, tick, entry, looks, shows, reveals, arrives, restart, entry_cut, look_cut, may_tick, ticked, is_true, look_acts, looked, looked_in_part, happens, run, beginning}
use Rattle.promise_told.specs.Replay.{records_in, journal_of, FileTells}
use Rattle.promise_told.proofs.Replays.{learning_learns, learns_accounts}
use Rattle.promise_told.proofs.LookActs.{acted_append}

-- showing changes nothing of the node
keys_acted : (i : ℕ) (keys : List (List ℕ)) (n : NodeState) → acted_all (map (shown_key i) keys) n ≡ n
keys_acted i [] n = refl
keys_acted i (k ∷ keys) n = keys_acted i keys n

showing_acted : (m : NodeState) (t : ℕ) (told : List Shown) (i : ℕ) (a : Standing) (n : NodeState) → acted_all (showing m t told i a) n ≡ n
showing_acted m t told i a n =
    cond_both (shows_held m.terms.delay t i told a) (shown_sheet i a.held ∷ []) [] (λ (l : List Act). acted_all (l ++ map (shown_key i) (keys_to_show m t told i a)) n ≡ n)
    (λ _. keys_acted i (keys_to_show m t told i a) n) (λ _. keys_acted i (keys_to_show m t told i a) n)

all_acted : (m : NodeState) (t : ℕ) (told : List Shown) (i : ℕ) (xs : List Standing) (n : NodeState) → acted_all (showing_all m t told i xs) n ≡ n
all_acted m t told i [] n = refl
all_acted m t told i (a ∷ xs) n =
    acted_append (showing m t told i a) (showing_all m t told (i + 1) xs) n ∙ (ap (acted_all (showing_all m t told (i + 1) xs)) (showing_acted m t told i a n) ∙ all_acted m t told (i + 1) xs n)

taken_acted : (n : NodeState) (t : ℕ) (told : List Shown) → acted_all (look_taken n t told) n ≡ learned n told
taken_acted n t told = acted_append (look.learning n told) (showing_all (learned n told) t told 0 n.accounts) n ∙ all_acted (learned n told) t told 0 n.accounts (learned n told)

-- what the accounts keep of a look is gone after a start
each_of_lem : (f : ℕ → Standing → Standing) (i : ℕ) (xs : List Standing) → each_from f i xs ≡ each_of f i xs
each_of_lem f i [] = refl
each_of_lem f i (a ∷ xs) = ap (λ (l : List Standing). f i a ∷ l) (each_of_lem f (i + 1) xs)

kept_again : (n : NodeState) (xs : List Standing) (delay t : ℕ) (told : List Shown) → n.accounts ≡ xs → started_again (with_accounts n (each_from (looked_of delay t told) 0 xs)) ≡ started_again n
kept_again n xs delay t told e =
    ap (λ (l : List Standing). started_again (with_accounts n l)) (each_of_lem (looked_of delay t told) 0 xs ∙ ap (each_of (looked_of delay t told) 0) (sym e)) ∙ again_passing (looked_of delay t told) (λ k a. refl) n

refused_acts : (n : NodeState) (t : ℕ) (told : List Shown) → is_refused n t ≡ true → (look_of n t told).acts ≡ []
refused_acts n t told e = go (or_cases (is_earlier t n.accounts) (ltb most t) e)
  where
    go : (is_earlier t n.accounts ≡ true) ⊎ (ltb most t ≡ true) → (look_of n t told).acts ≡ []
    go (inl h) = ap (λ o. o.acts) (cond-true (is_earlier t n.accounts) (refused Unreadable) (cond (ltb most t) (refused TooLarge) (done (look_taken n t told))) h)
    go (inr h) =
        cond_both (is_earlier t n.accounts) (refused Unreadable) (cond (ltb most t) (refused TooLarge) (done (look_taken n t told))) (λ o. o.acts ≡ []) (λ _. refl)
        (λ _. ap (λ o. o.acts) (cond-true (ltb most t) (refused TooLarge) (done (look_taken n t told)) h))

taken_acts : (n : NodeState) (t : ℕ) (told : List Shown) → is_refused n t ≡ false → (look_of n t told).acts ≡ look_taken n t told
taken_acts n t told e =
    let parts = or_parts (is_earlier t n.accounts) (ltb most t) e in
    ap (λ o. o.acts)
    (cond-false (is_earlier t n.accounts) (refused Unreadable) (cond (ltb most t) (refused TooLarge) (done (look_taken n t told))) parts.0
    ∙ cond-false (ltb most t) (refused TooLarge) (done (look_taken n t told)) parts.1)

-- a look
looked_again : (n : NodeState) (t : ℕ) (told : List Shown) → started_again (looked_node n t told) ≡ written_all (records_of (look_of n t told).acts) (started_again n)
looked_again n t told =
    cond_both (is_refused n t) n (with_accounts (learned n told) (each_from (looked_of n.terms.delay t told) 0 n.accounts)) (λ (m : NodeState). started_again m ≡ written_all (records_of (look_of n t told).acts) (started_again n))
    (λ e. ap (λ (l : List Act). written_all (records_of l) (started_again n)) (sym (refused_acts n t told e)))
    (λ e. kept_again (learned n told) n.accounts n.terms.delay t told (learns_accounts n (look.learning n told) (learning_learns n told))
    ∙ (ap started_again (sym (taken_acted n t told)) ∙ (again_acts (look_taken n t told) n ∙ ap (λ (l : List Act). written_all (records_of l) (started_again n)) (sym (taken_acts n t told e)))))

pub looked_node_lem : (w : World) (told : List Shown) → node_of (looked w told) ≡ looked_node (node_of w) w.now told
looked_node_lem w told =
    cond_both (is_refused (node_of w) w.now) w _ (λ (x : World). node_of x ≡ looked_node (node_of w) w.now told)
    (λ e. sym (cond-true (is_refused (node_of w) w.now) (node_of w) (with_accounts (learned (node_of w) told) (each_from (looked_of (node_of w).terms.delay w.now told) 0 (node_of w).accounts)) e)) (λ _. refl)

-- each event
abbrev Tells : Event → World → World → Type 0
Tells e w x = started_again (node_of x) ≡ written_all (records_in e w) (started_again (node_of w))

shown_tells : (o : Option Signed) (w : World) → started_again (node_of (shown o w)) ≡ started_again (node_of w)
shown_tells None w = refl
shown_tells (Some x) w = refl

arrived_tells : (m : ℕ) (o : Option Coming) (w : World) → started_again (node_of (arrived m o w)) ≡ started_again (node_of w)
arrived_tells m None w = refl
arrived_tells m (Some (sheet_for i s by)) w = refl
arrived_tells m (Some (key_for i key by)) w = refl

both : {A B : Type 0} (b : Bool) (x y : A) (u v : B) (P : A → B → Type 0) → (b ≡ true → P x u) → (b ≡ false → P y v) → P (cond b x y) (cond b u v)
both true x y u v P f g = f refl
both false x y u v P f g = g refl

event_tells : (e : Event) (w : World) → Tells e w (happens e w)
event_tells tick w = cond_both (may_tick w) (ticked w) w (λ (x : World). started_again (node_of x) ≡ started_again (node_of w)) (λ _. refl) (λ _. refl)
event_tells (entry e) w = again_acts (outcome_of (node_of w) e).acts (node_of w)
event_tells (looks told) w =
    both (is_true w told) (looked w told) w (records_of (look_acts w told)) [] (λ (x : World) (rs : List Record). started_again (node_of x) ≡ written_all rs (started_again (node_of w)))
    (λ _. ap started_again (looked_node_lem w told) ∙ looked_again (node_of w) w.now told) (λ _. refl)
event_tells (shows m) w = shown_tells (slice_get w.signed m) w
event_tells (reveals i key) w = refl
event_tells (arrives m) w = arrived_tells m (slice_get w.coming m) w
event_tells restart w = again_passing restarted_of (λ i a. refl) (node_of w)
event_tells (entry_cut e k) w =
    again_passing restarted_of (λ i a. refl) (acted_all (take k (outcome_of (node_of w) e).acts) (node_of w)) ∙ again_acts (take k (outcome_of (node_of w) e).acts) (node_of w)
event_tells (look_cut told k) w =
    both (is_true w told) (looked_in_part w told k) w (records_of (take k (look_acts w told))) [] (λ (x : World) (rs : List Record). started_again (node_of x) ≡ written_all rs (started_again (node_of w)))
    (λ _. again_passing restarted_of (λ i a. refl) (acted_all (take k (look_acts w told)) (node_of w)) ∙ again_acts (take k (look_acts w told)) (node_of w)) (λ _. refl)

run_tells : (events : List Event) (w : World) → started_again (node_of (run events w)) ≡ written_all (journal_of events w) (started_again (node_of w))
run_tells [] w = refl
run_tells (e ∷ events) w =
    run_tells events (happens e w) ∙ (ap (written_all (journal_of events (happens e w))) (event_tells e w) ∙ sym (written_append (records_in e w) (journal_of events (happens e w)) (started_again (node_of w))))

pub file_tells : FileTells
file_tells terms ds events =
    run_tells events (beginning terms ds) ∙ ap (written_all (journal_of events (beginning terms ds))) (ap (with_accounts (start_of terms ds).node) (again_opened ds 0))

-- By the rules a run of a conduct is a run of the world.
use Rattle.std.proofs.Common.{◌≡◌, ℕ, ◌+◌, Bool, true, false, cond, ◌||◌, ltb, List, [], ◌∷◌, ◌++◌, map, Some, None, Ok, Err, Option, Result, sym, refl, ap, ◌∙◌}
use Rattle.std.proofs.lemmas.Bool.{cond_both}
use Rattle.std.specs.List.{slice_get}
use Rattle.refusal.specs.declared.Refusal.{Refusal}
use Rattle.refusal.specs.declared.Refusal.TheVariants.{Unreadable, TooLarge}
use Rattle.sheet.specs.Contents.{Content, content_of, first_of}
use Rattle.digest.specs.Sha256.{sha256}
use Rattle.change.specs.Changes.{most}
use Rattle.account.specs.Accounts.{Standing, opened_of}
use Rattle.schedule.specs.declared.types.Terms.{Terms}
use Rattle.node_state.specs.Nodes.{NodeState, account_at, with_accounts, with_key}
use Rattle.judgement.specs.Tests.{is_under_way, has_key}
use Rattle.judgement.specs.Judgements.{to_accept_both}
use Rattle.outcome.specs.Acts.{key_is, Act, recorded, synced, sent_sheet, sent_signature, shown_sheet, shown_key}
use Rattle.outcome.specs.Records.{acted_all}
use Rattle.outcome.specs.Outcomes.{Outcome, refused, done, signing, passing, accepting, accepting_both, holding, learning}
use Rattle.rules.specs.declared.types.Message.TheVariants.{Proposed, ProposedSigned, Signed, Key}
use Rattle.rules.specs.declared.types.Call.TheVariants.{Pass, Pay, Get, GiveUp}
use Rattle.looking.specs.declared.types.Shown.{Shown}
use Rattle.looking.specs.declared.types.Shown.TheVariants as statement
use Rattle.looking.specs.Looking.{shows_held, new_keys, then_synced, learned, showing, showing_all, keys_to_show, look_taken, is_earlier, each_from, looked_of}
use Rattle.looking.specs.Looking as look
use Rattle.moments.specs.Runs.{Deposit, Entry, message, call, outcome_of, each_of, restarted_of, started_again, opened_all, with_node}
use Rattle.promise_told.specs.World as world
use Rattle.promise_told.specs.World.{World, node_of, terms_of, Event, tick, entry, looks, shows, reveals, arrives, restart, entry_cut, look_cut, Coming, sheet_for, key_for, shown, arrived, ticked, may_tick, acted, with_due, look_acts, is_true, happens, run, beginning}
use Rattle.losing_runs.specs.Conduct.{by_the_rules, Ran, synced_by, looked_by, cut_off, looked_in_part, happens_by, run_by, beginning_by, SameWorld}

-- a start finds the same in the two
abbrev Alike : NodeState → NodeState → Type 0
Alike file n = started_again file ≡ started_again n

-- what is done is synced, or nothing was recorded
abbrev Safe : List Act → Type 0
Safe acts = (n file : NodeState) → Alike file n → Alike (synced_by acts n file) (acted_all acts n)

nothing_safe : Safe []
nothing_safe n file h = h

signing_safe : (i : ℕ) (r : Result Content Refusal) → Safe (signing i r).acts
signing_safe i (Ok s) n file h = refl
signing_safe i (Err e) n file h = h

passing_safe : (i j : ℕ) (lock : List ℕ) (r : Result Content Refusal) → Safe (passing i j lock r).acts
passing_safe i j lock (Ok s) n file h = refl
passing_safe i j lock (Err e) n file h = h

accepting_safe : (i : ℕ) (r : Result Content Refusal) → Safe (accepting i r).acts
accepting_safe i (Ok s) n file h = refl
accepting_safe i (Err e) n file h = h

both_safe : (i : ℕ) (r : Result Content Refusal) → Safe (accepting_both i r).acts
both_safe i (Ok s) n file h = refl
both_safe i (Err e) n file h = h

holding_safe : (i : ℕ) (r : Result Content Refusal) → Safe (holding i r).acts
holding_safe i (Ok s) n file h = refl
holding_safe i (Err e) n file h = h

outcome_safe : (m : NodeState) (e : Entry) → Safe (outcome_of m e).acts
outcome_safe m (message i (Proposed s)) = accepting_safe i _
outcome_safe m (message i (ProposedSigned s x)) =
    cond_both (is_under_way (account_at m i)) (holding i (to_accept_both m i (content_of s) x)) (accepting_both i (to_accept_both m i (content_of s) x)) (λ (o : Outcome). Safe o.acts)
    (λ _. holding_safe i (to_accept_both m i (content_of s) x)) (λ _. both_safe i (to_accept_both m i (content_of s) x))
outcome_safe m (message i (Signed x)) = holding_safe i _
outcome_safe m (message i (Key key)) =
    cond_both (has_key m (sha256 key)) (done []) (learning key) (λ (o : Outcome). Safe o.acts) (λ _. nothing_safe) (λ _ n file h. refl)
outcome_safe m (call (Pass i j p)) = passing_safe i j p.lock _
outcome_safe m (call (Pay i lock)) = signing_safe i _
outcome_safe m (call (Get i lock)) = signing_safe i _
outcome_safe m (call (GiveUp i lock)) = signing_safe i _

-- the acts of a look
synced_append : (xs ys : List Act) (n file : NodeState) → synced_by (xs ++ ys) n file ≡ synced_by ys (acted_all xs n) (synced_by xs n file)
synced_append [] ys n file = refl
synced_append (recorded r ∷ xs) ys n file = synced_append xs ys _ file
synced_append (synced ∷ xs) ys n file = synced_append xs ys n n
synced_append (sent_sheet i s ∷ xs) ys n file = synced_append xs ys n file
synced_append (sent_signature i k ∷ xs) ys n file = synced_append xs ys n file
synced_append (shown_sheet i s ∷ xs) ys n file = synced_append xs ys n file
synced_append (shown_key i k ∷ xs) ys n file = synced_append xs ys n file

acted_append : (xs ys : List Act) (n : NodeState) → acted_all (xs ++ ys) n ≡ acted_all ys (acted_all xs n)
acted_append [] ys n = refl
acted_append (x ∷ xs) ys n = acted_append xs ys _

then_safe : (xs : List Act) → Safe (then_synced xs)
then_safe [] n file h = h
then_safe (x ∷ xs) n file h =
    ap started_again (synced_append (x ∷ xs) (synced ∷ []) n file ∙ sym (acted_append (x ∷ xs) (synced ∷ []) n))

-- what is shown leaves the file as it is
abbrev Keeps : List Act → Type 0
Keeps acts = (n file : NodeState) → synced_by acts n file ≡ file

keeps_append : (xs ys : List Act) → Keeps xs → Keeps ys → Keeps (xs ++ ys)
keeps_append xs ys h g n file = synced_append xs ys n file ∙ (g _ _ ∙ h n file)

keys_keep : (i : ℕ) (keys : List (List ℕ)) → Keeps (map (shown_key i) keys)
keys_keep i [] n file = refl
keys_keep i (k ∷ keys) n file = keys_keep i keys n file

showing_keeps : (m : NodeState) (t : ℕ) (l : List Shown) (i : ℕ) (a : Standing) → Keeps (showing m t l i a)
showing_keeps m t l i a =
    keeps_append (cond (shows_held m.terms.delay t i l a) (shown_sheet i a.held ∷ []) []) (map (shown_key i) (keys_to_show m t l i a))
    (cond_both (shows_held m.terms.delay t i l a) (shown_sheet i a.held ∷ []) [] Keeps (λ _ n file. refl) (λ _ n file. refl))
    (keys_keep i (keys_to_show m t l i a))

all_keep : (m : NodeState) (t : ℕ) (l : List Shown) (i : ℕ) (xs : List Standing) → Keeps (showing_all m t l i xs)
all_keep m t l i [] = λ n file. refl
all_keep m t l i (a ∷ xs) = keeps_append (showing m t l i a) (showing_all m t l (i + 1) xs) (showing_keeps m t l i a) (all_keep m t l (i + 1) xs)

-- new keys leave the accounts as they are
new_accounts : (n : NodeState) (l : List Shown) → (acted_all (new_keys n l) n).accounts ≡ n.accounts
new_accounts n [] = refl
new_accounts n (statement.Dispute account number until ∷ l) = new_accounts n l
new_accounts n (statement.Key account key t ∷ l) =
    cond_both (has_key n (sha256 key)) (new_keys n l) (recorded (key_is key) ∷ new_keys (with_key n (sha256 key) key) l) (λ (xs : List Act). (acted_all xs n).accounts ≡ n.accounts)
    (λ _. new_accounts n l) (λ _. new_accounts (with_key n (sha256 key) key) l)

then_acted : (xs : List Act) (n : NodeState) → acted_all (then_synced xs) n ≡ acted_all xs n
then_acted [] n = refl
then_acted (x ∷ xs) n = acted_append (x ∷ xs) (synced ∷ []) n

learned_accounts : (n : NodeState) (l : List Shown) → (learned n l).accounts ≡ n.accounts
learned_accounts n l = ap (λ (m : NodeState). m.accounts) (then_acted (new_keys n l) n) ∙ new_accounts n l

-- a start forgets looks and starts
looks_forgotten : (delay t : ℕ) (l : List Shown) (i : ℕ) (xs : List Standing) → each_of restarted_of i (each_from (looked_of delay t l) i xs) ≡ each_of restarted_of i xs
looks_forgotten delay t l i [] = refl
looks_forgotten delay t l i (a ∷ xs) = ap (λ (ys : List Standing). restarted_of i a ∷ ys) (looks_forgotten delay t l (i + 1) xs)

starts_forgotten : (i : ℕ) (xs : List Standing) → each_of restarted_of i (each_of restarted_of i xs) ≡ each_of restarted_of i xs
starts_forgotten i [] = refl
starts_forgotten i (a ∷ xs) = ap (λ (ys : List Standing). restarted_of i a ∷ ys) (starts_forgotten (i + 1) xs)

started_twice : (n : NodeState) → Alike n (started_again n)
started_twice n = sym (ap (with_accounts n) (starts_forgotten 0 n.accounts))

looked_alike : (n m : NodeState) (delay t : ℕ) (l : List Shown) → m.accounts ≡ n.accounts → Alike m (with_accounts m (each_from (looked_of delay t l) 0 n.accounts))
looked_alike n m delay t l e =
    ap (λ (xs : List Standing). with_accounts m (each_of restarted_of 0 xs)) e ∙ sym (ap (with_accounts m) (looks_forgotten delay t l 0 n.accounts))

taken_alike : (n file : NodeState) (t : ℕ) (l : List Shown) → Alike file n →
    Alike (synced_by (look_taken n t l) n file) (with_accounts (learned n l) (each_from (looked_of n.terms.delay t l) 0 n.accounts))
taken_alike n file t l h =
    ap started_again (synced_append (look.learning n l) (showing_all (learned n l) t l 0 n.accounts) n file ∙ all_keep (learned n l) t l 0 n.accounts _ _)
    ∙ (then_safe (new_keys n l) n file h ∙ looked_alike n (learned n l) n.terms.delay t l (learned_accounts n l))

-- each event keeps the world the same, and the file alike
abbrev Holding : Ran → Type 0
Holding r = Alike r.file (node_of r.world)

refused_alike : (a b : Bool) (w : World) (acts taken : List Act) (m file : NodeState) (due : ℕ) → Alike file (node_of w) → Alike (synced_by taken (node_of w) file) m →
    Alike (synced_by (cond a (refused Unreadable) (cond b (refused TooLarge) (done taken))).acts (node_of w) file)
    (node_of (cond (a || b) w (with_due (acted w acts (with_node w.history (cond (a || b) (node_of w) m))) due)))
refused_alike true b w acts taken m file due h g = h
refused_alike false true w acts taken m file due h g = h
refused_alike false false w acts taken m file due h g = g

look_alike : (w : World) (file : NodeState) (told : List Shown) → Alike file (node_of w) → Alike (synced_by (look_acts w told) (node_of w) file) (node_of (looked_by by_the_rules w told))
look_alike w file told h =
    refused_alike (is_earlier w.now (node_of w).accounts) (ltb most w.now) w (look_acts w told) (look_taken (node_of w) w.now told)
    (with_accounts (learned (node_of w) told) (each_from (looked_of (terms_of w).delay w.now told) 0 (node_of w).accounts)) file (w.now + (terms_of w).look) h
    (taken_alike (node_of w) file w.now told h)

-- what happens only if a test holds
under : (b : Bool) (r q : Ran) (w v : World) → r.world ≡ w → q.world ≡ v → (cond b r q).world ≡ cond b w v
under true r q w v h g = h
under false r q w v h g = g

same_event : (e : Event) (r : Ran) → Holding r → (happens_by by_the_rules e r).world ≡ happens e r.world
same_event tick r h = refl
same_event (entry e) r h = refl
same_event (looks told) r h = under (is_true r.world told) _ r _ r.world refl refl
same_event (shows m) r h = refl
same_event (reveals i key) r h = refl
same_event (arrives m) r h = refl
same_event restart r h =
    ap (λ (n : NodeState). record { history = with_node r.world.history n; pages = r.world.pages; coming = r.world.coming; now = r.world.now; due = r.world.due; signed = r.world.signed }) h
same_event (entry_cut e k) r h = refl
same_event (look_cut told k) r h = under (is_true r.world told) _ r _ r.world refl refl

shown_node : (o : Option world.Signed) (w : World) → node_of (shown o w) ≡ node_of w
shown_node None w = refl
shown_node (Some x) w = refl

arrived_node : (m : ℕ) (o : Option Coming) (w : World) → node_of (arrived m o w) ≡ node_of w
arrived_node m None w = refl
arrived_node m (Some (sheet_for i s by)) w = refl
arrived_node m (Some (key_for i key by)) w = refl

holding_event : (e : Event) (r : Ran) → Holding r → Holding (happens_by by_the_rules e r)
holding_event tick r h = cond_both (may_tick r.world) (ticked r.world) r.world (λ (w : World). Alike r.file (node_of w)) (λ _. h) (λ _. h)
holding_event (entry e) r h = outcome_safe (node_of r.world) e (node_of r.world) r.file h
holding_event (looks told) r h =
    cond_both (is_true r.world told) _ r Holding (λ _. look_alike r.world r.file told h) (λ _. h)
holding_event (shows m) r h = h ∙ sym (ap started_again (shown_node (slice_get r.world.signed m) r.world))
holding_event (reveals i key) r h = h
holding_event (arrives m) r h = h ∙ sym (ap started_again (arrived_node m (slice_get r.world.coming m) r.world))
holding_event restart r h = started_twice r.file
holding_event (entry_cut e k) r h = started_twice _
holding_event (look_cut told k) r h =
    cond_both (is_true r.world told) (cut_off by_the_rules r.file (looked_in_part r.world told k)) r Holding (λ _. started_twice (node_of (looked_in_part r.world told k))) (λ _. h)

same_run : (events : List Event) (r : Ran) → Holding r → (run_by by_the_rules events r).world ≡ run events r.world
same_run [] r h = refl
same_run (e ∷ events) r h = same_run events (happens_by by_the_rules e r) (holding_event e r h) ∙ ap (run events) (same_event e r h)

first_start : (i : ℕ) (ds : List Deposit) → each_of restarted_of i (opened_all i ds) ≡ opened_all i ds
first_start i [] = refl
first_start i (d ∷ ds) = ap (λ (xs : List Standing). opened_of (first_of i d.own d.theirs) ∷ xs) (first_start (i + 1) ds)

same_beginning : (terms : Terms) (ds : List Deposit) → (beginning_by by_the_rules terms ds).world ≡ beginning terms ds
same_beginning terms ds =
    ap (λ (xs : List Standing). record {
      history = with_node (beginning terms ds).history (with_accounts (node_of (beginning terms ds)) xs);
      pages = (beginning terms ds).pages;
      coming = [];
      now = 0;
      due = terms.look;
      signed = (beginning terms ds).signed;
    }) (first_start 0 ds)

pub same_world : SameWorld
same_world terms ds events =
    same_run events (beginning_by by_the_rules terms ds) (started_twice (node_of (beginning terms ds))) ∙ ap (run events) (same_beginning terms ds)

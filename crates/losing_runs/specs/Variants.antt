-- Nodes that leave out one rule each: every definition here is one of the rules' with the one edit that its comment tells.
-- Assumes nothing.
use Rattle.std.specs.Prelude.{ℕ, ◌+◌, Bool, true, false, cond, ◌&&◌, ◌||◌, List, [], ◌∷◌, length, is_some, Some, None, Ok, Err, Option, Result, ◌==◌, nat_le, nat_lt}
use Rattle.std.specs.Option.{unwrap_or}
use Rattle.refusal.specs.declared.Refusal.{Refusal}
use Rattle.refusal.specs.declared.Refusal.TheVariants.{NotOpen, UnderWay, Mismatch, LockUsed, NotCovered, EndTooNear, KeyKnown, OutStands}
use Rattle.sheet.specs.declared.types.Payment.{Payment}
use Rattle.sheet.specs.Contents.{Content, content_of, found}
use Rattle.change.specs.declared.types.Change.TheVariants.{PassingOn, GivingUp}
use Rattle.change.specs.Changes.{changed}
use Rattle.account.specs.Accounts.{Standing}
use Rattle.node_state.specs.declared.types.Route.{Route}
use Rattle.node_state.specs.Nodes.{NodeState, account_at, with_accounts}
use Rattle.judgement.specs.declared.types.Signature.{Signature}
use Rattle.judgement.specs.Tests.{unless, is_shut, is_under_way, has_key, used_out, looked_at}
use Rattle.judgement.specs.Judgements.{only_lock, may_call, calling, to_pass, to_accept_both, to_hold, next_with}
use Rattle.outcome.specs.Acts.{signed_in, both_in, passed_on, recorded, synced, sent_sheet}
use Rattle.outcome.specs.Outcomes.{Outcome, refused, done, signing, passing, accepting_both, holding}
use Rattle.rules.specs.declared.types.Message.{Message}
use Rattle.rules.specs.declared.types.Message.TheVariants.{Proposed, ProposedSigned, Signed, Key}
use Rattle.rules.specs.declared.types.Call.{Call}
use Rattle.rules.specs.declared.types.Call.TheVariants.{Pass, Pay, Get, GiveUp}
use Rattle.rules.specs.Entries.{proposed, key_taken, message_of, call_of, proposed_signed}
use Rattle.looking.specs.declared.types.Shown.{Shown}
use Rattle.looking.specs.Looking.{has_dispute, shows_held, still_sent, learned, is_refused, each_from, looked_node}
use Rattle.moments.specs.Runs.{Entry, message, call, each_of, outcome_of, started_again}
use Rattle.losing_runs.specs.Conduct.{Conduct}

-- A node that differs in the outcome of entries, or of messages or calls only; in what it is after a look; in what a start
-- makes of it.
abbrev pub answering : (NodeState → Entry → Outcome) → Conduct
answering f = record { outcome = f; seen = looked_node; started = started_again; kept = λ certain found. found }

abbrev pub on_messages : (NodeState → ℕ → Message → Outcome) → NodeState → Entry → Outcome
on_messages f n (message i m) = f n i m
on_messages f n (call c) = call_of n c

abbrev pub on_calls : (NodeState → Call → Outcome) → NodeState → Entry → Outcome
on_calls f n (message i m) = message_of n i m
on_calls f n (call c) = f n c

abbrev pub seeing : (NodeState → ℕ → List Shown → NodeState) → Conduct
seeing f = record { outcome = outcome_of; seen = f; started = started_again; kept = λ certain found. found }

abbrev pub starting : (NodeState → NodeState) → Conduct
starting f = record { outcome = outcome_of; seen = looked_node; started = f; kept = λ certain found. found }

-- Run 1. Opening a dispute doesn't count as seeing one: `looked_of` without `opens`.
abbrev pub sees_only_shown : (delay tick : ℕ) → List Shown → ℕ → Standing → Standing
sees_only_shown delay tick shown i a =
    record {
      held = a.held;
      next = a.next;
      looked = Some tick;
      disputed = a.disputed || has_dispute i shown;
      sent = cond (shows_held delay tick i shown a) (Some (record { number = a.held.number; at = tick })) (still_sent delay tick i shown a.sent);
    }

abbrev pub opening_unseen : Conduct
opening_unseen =
    seeing (λ n tick shown. cond (is_refused n tick) n (with_accounts (learned n shown) (each_from (sees_only_shown n.terms.delay tick shown) 0 n.accounts)))

-- Run 2. Passing on looks only at the in's end: `too_near` without the out's.
abbrev pub too_near_in : (gap : ℕ) → (from : Standing) → (incoming p : Payment) → Bool
too_near_in gap from incoming p = nat_lt incoming.end (p.end + gap) || nat_lt incoming.end (looked_at from)

abbrev pub passed_as_late : NodeState → (from to : Standing) → Payment → Option Payment → Result Content Refusal
passed_as_late n from to p None = Err Mismatch
passed_as_late n from to p (Some incoming) =
    unless (used_out n p.lock) LockUsed
    (unless (nat_lt incoming.amount p.amount) NotCovered
    (unless (too_near_in n.terms.gap from incoming p) EndTooNear (changed to.held PassingOn p)))

abbrev pub to_pass_late : NodeState → (i j : ℕ) → Payment → Result Content Refusal
to_pass_late n i j p =
    cond (is_shut n i || is_shut n j) (Err NotOpen)
    (cond (is_under_way (account_at n i) || is_under_way (account_at n j)) (Err UnderWay)
    (cond (i == j) (Err Mismatch)
    (passed_as_late n (account_at n i) (account_at n j) p (found p.lock (account_at n i).held.ins))))

abbrev pub call_passed_late : NodeState → Call → Outcome
call_passed_late n (Pass i j p) = passing i j p.lock (to_pass_late n i j p)
call_passed_late n (Pay i lock) = call_of n (Pay i lock)
call_passed_late n (Get i lock) = call_of n (Get i lock)
call_passed_late n (GiveUp i lock) = call_of n (GiveUp i lock)

abbrev pub passed_late : Conduct
passed_late = answering (on_calls call_passed_late)

-- Run 3. After a start the node signs before it has looked: `started_again`, but as if it had looked at tick 0.
abbrev pub ready_of : ℕ → Standing → Standing
ready_of k a = record { held = a.held; next = a.next; looked = Some 0; disputed = false; sent = None }

abbrev pub started_ready : NodeState → NodeState
started_ready n = with_accounts n (each_of ready_of 0 n.accounts)

abbrev pub signed_unlooked : Conduct
signed_unlooked = starting started_ready

-- Run 3b. The same, but only where the file is new, that is, has nothing but first sheets.
abbrev pub only_first : List Standing → Bool
only_first [] = true
only_first (a ∷ others) = cond (is_some a.next) false (a.held.number == 0 && only_first others)

abbrev pub new_file_unlooked : Conduct
new_file_unlooked = starting (λ n. cond (only_first n.accounts) (started_ready n) (started_again n))

-- Run 4. A signature back is taken in a frozen account too: `to_hold` without the frozen test.
abbrev pub to_hold_anyway : NodeState → ℕ → Signature → Result Content Refusal
to_hold_anyway n i signature =
    cond (nat_le (length n.accounts) i || nat_lt 15 signature.account) (Err NotOpen) (next_with signature.number (account_at n i).next)

abbrev pub message_held_anyway : NodeState → ℕ → Message → Outcome
message_held_anyway n i (Proposed s) = proposed n i (content_of s)
message_held_anyway n i (ProposedSigned s signature) = proposed_signed n i (content_of s) signature
message_held_anyway n i (Signed signature) = holding i (to_hold_anyway n i signature)
message_held_anyway n i (Key key) = key_taken n key

abbrev pub signed_in_dispute : Conduct
signed_in_dispute = answering (on_messages message_held_anyway)

-- Run 5. The sheet is recorded before the lock passed on: `passing` with the two records the other way round.
abbrev pub passing_sheet_first : (from to : ℕ) → List ℕ → Result Content Refusal → Outcome
passing_sheet_first from to lock (Err e) = refused e
passing_sheet_first from to lock (Ok s) = done (recorded (signed_in to s) ∷ recorded (passed_on lock from to) ∷ synced ∷ sent_sheet to s ∷ [])

abbrev pub call_sheet_first : NodeState → Call → Outcome
call_sheet_first n (Pass i j p) = passing_sheet_first i j p.lock (to_pass n i j p)
call_sheet_first n (Pay i lock) = call_of n (Pay i lock)
call_sheet_first n (Get i lock) = call_of n (Get i lock)
call_sheet_first n (GiveUp i lock) = call_of n (GiveUp i lock)

abbrev pub sheet_first : Conduct
sheet_first = answering (on_calls call_sheet_first)

-- Run 6. A signature back isn't synced: `holding` without its sync.
abbrev pub holding_unsynced : ℕ → Result Content Refusal → Outcome
holding_unsynced i (Err e) = refused e
holding_unsynced i (Ok s) = done (recorded (both_in i s) ∷ [])

abbrev pub message_unsynced : NodeState → ℕ → Message → Outcome
message_unsynced n i (Proposed s) = proposed n i (content_of s)
message_unsynced n i (ProposedSigned s signature) =
    cond (is_under_way (account_at n i)) (holding_unsynced i (to_accept_both n i (content_of s) signature)) (accepting_both i (to_accept_both n i (content_of s) signature))
message_unsynced n i (Signed signature) = holding_unsynced i (to_hold n i signature)
message_unsynced n i (Key key) = key_taken n key

abbrev pub back_unsynced : Conduct
back_unsynced = answering (on_messages message_unsynced)

-- Run 7. Giving up looks at one sheet of the account that the lock was passed on to: `out_stands` with only the last that the
-- node has signed, or with only held.
abbrev pub last_signed : Standing → Content
last_signed a = unwrap_or a.next a.held

abbrev pub stands_on : (Standing → Content) → NodeState → List ℕ → Option Route → Bool
stands_on sheet n lock None = false
stands_on sheet n lock (Some r) = is_some (found lock (sheet (account_at n r.to)).outs)

abbrev pub to_give_up_by : (Standing → Content) → NodeState → ℕ → List ℕ → Result Content Refusal
to_give_up_by sheet n i lock =
    calling (may_call n i)
    (unless (has_key n lock) KeyKnown
    (unless (stands_on sheet n lock (n.route_of lock)) OutStands (changed (account_at n i).held GivingUp (only_lock lock))))

abbrev pub call_given_up_by : (Standing → Content) → NodeState → Call → Outcome
call_given_up_by sheet n (Pass i j p) = call_of n (Pass i j p)
call_given_up_by sheet n (Pay i lock) = call_of n (Pay i lock)
call_given_up_by sheet n (Get i lock) = call_of n (Get i lock)
call_given_up_by sheet n (GiveUp i lock) = signing i (to_give_up_by sheet n i lock)

abbrev pub given_up_by_last : Conduct
given_up_by_last = answering (on_calls (call_given_up_by last_signed))

abbrev pub given_up_by_held : Conduct
given_up_by_held = answering (on_calls (call_given_up_by (λ a. a.held)))

-- Run 9. A start doesn't sync what it finds.
abbrev pub start_unsynced : Conduct
start_unsynced = record { outcome = outcome_of; seen = looked_node; started = started_again; kept = λ certain found. certain }

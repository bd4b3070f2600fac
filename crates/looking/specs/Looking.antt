-- What a look comes to: the tick and what the register shows then, what the node does, and what it becomes. Assumes nothing.
use Rattle.std.specs.Prelude.{ℕ, ◌+◌, ◌*◌, Bool, true, false, cond, not, ◌&&◌, ◌||◌, List, [], ◌∷◌, ◌++◌, map, is_some, Some, None, Option, ◌==◌, nat_le, nat_lt}
use Rattle.std.specs.Str.{bytes_eq}
use Rattle.refusal.specs.declared.Refusal.TheVariants.{Unreadable, TooLarge}
use Rattle.sheet.specs.declared.types.Payment.{Payment}
use Rattle.sheet.specs.Contents.{Content}
use Rattle.digest.specs.Sha256.{sha256}
use Rattle.change.specs.Changes.{most}
use Rattle.account.specs.declared.types.OnItsWay.{OnItsWay}
use Rattle.account.specs.Accounts.{Standing}
use Rattle.schedule.specs.declared.types.Terms.{Terms}
use Rattle.node_state.specs.Nodes.{NodeState, with_accounts, with_key}
use Rattle.judgement.specs.Tests.{has_key}
use Rattle.outcome.specs.Acts.{key_is, Act, recorded, synced, shown_sheet, shown_key}
use Rattle.outcome.specs.Records.{acted_all}
use Rattle.outcome.specs.Outcomes.{Outcome, refused, done}
use Rattle.looking.specs.declared.types.Shown.{Shown}
use Rattle.looking.specs.declared.types.Shown.TheVariants.{Dispute, Key}

-- Is there a statement that passes the test. The rules ask for nothing else of what is shown, so the same twice is as once.
abbrev pub any_shown : (Shown → Bool) → List Shown → Bool
any_shown test [] = false
any_shown test (x ∷ others) = test x || any_shown test others

-- A dispute for account i, with a number and an end that pass the test.
abbrev pub is_dispute : ℕ → (ℕ → ℕ → Bool) → Shown → Bool
is_dispute i test (Dispute account number until) = account == i && test number until
is_dispute i test (Key account key tick) = false

abbrev pub has_dispute : ℕ → List Shown → Bool
has_dispute i shown = any_shown (is_dispute i (λ number until. true)) shown

-- One that has ended at the tick.
abbrev pub has_ended : (tick i : ℕ) → List Shown → Bool
has_ended tick i shown = any_shown (is_dispute i (λ number until. nat_le until tick)) shown

-- One that shows this number or a higher one.
abbrev pub has_reached : (i least : ℕ) → List Shown → Bool
has_reached i least shown = any_shown (is_dispute i (λ number until. nat_le least number)) shown

-- One that is open at the tick and shows a number below this.
abbrev pub has_below : (tick i held : ℕ) → List Shown → Bool
has_below tick i held shown = any_shown (is_dispute i (λ number until. nat_lt tick until && nat_lt number held)) shown

-- The key was shown for account i.
abbrev pub is_shown_for : ℕ → List ℕ → Shown → Bool
is_shown_for i key (Dispute account number until) = false
is_shown_for i key (Key account k tick) = account == i && bytes_eq k key

-- The keys that the node doesn't have yet, whatever account they are for: each is recorded, in the order of the statements.
abbrev pub new_keys : NodeState → List Shown → List Act
new_keys n [] = []
new_keys n (Dispute account number until ∷ others) = new_keys n others
new_keys n (Key account key tick ∷ others) =
    cond (has_key n (sha256 key)) (new_keys n others) (recorded (key_is key) ∷ new_keys (with_key n (sha256 key) key) others)

-- Synced where something was recorded.
abbrev pub then_synced : List Act → List Act
then_synced [] = []
then_synced (a ∷ others) = a ∷ others ++ synced ∷ []

abbrev pub learning : NodeState → List Shown → List Act
learning n shown = then_synced (new_keys n shown)

-- What is still on its way at the tick: not what was sent more than `delay` ticks ago, nor where a dispute has ended or
-- shows that number or a higher one.
abbrev pub still_sent : (delay tick i : ℕ) → List Shown → Option OnItsWay → Option OnItsWay
still_sent delay tick i shown None = None
still_sent delay tick i shown (Some w) =
    cond (nat_lt (w.at + delay) tick || has_ended tick i shown || has_reached i w.number shown) None (Some w)

-- A payment with an end that is past at the tick: in a list, on a sheet, on a sheet that may count.
abbrev pub any_past : ℕ → List Payment → Bool
any_past tick [] = false
any_past tick (p ∷ others) = nat_lt p.end tick || any_past tick others

abbrev pub past_on : ℕ → Content → Bool
past_on tick s = any_past tick s.ins || any_past tick s.outs

abbrev pub past_on_next : ℕ → Option Content → Bool
past_on_next tick None = false
past_on_next tick (Some s) = past_on tick s

abbrev pub is_past : ℕ → Standing → Bool
is_past tick a = past_on tick a.held || past_on_next tick a.next

-- Nothing of the node's own is on its way in account i.
abbrev pub is_free : (delay tick i : ℕ) → List Shown → Standing → Bool
is_free delay tick i shown a = not (is_some (still_sent delay tick i shown a.sent))

-- Held is shown to open a dispute: there is none, and a payment's end is past.
abbrev pub opens : (delay tick i : ℕ) → List Shown → Standing → Bool
opens delay tick i shown a = is_free delay tick i shown a && (not (has_dispute i shown) && is_past tick a)

-- Held is shown against a lower number.
abbrev pub answers : (delay tick i : ℕ) → List Shown → Standing → Bool
answers delay tick i shown a = is_free delay tick i shown a && has_below tick i a.held.number shown

abbrev pub shows_held : (delay tick i : ℕ) → List Shown → Standing → Bool
shows_held delay tick i shown a = opens delay tick i shown a || answers delay tick i shown a

-- What the account is after the look. Its sheets stay.
abbrev pub looked_of : (delay tick : ℕ) → List Shown → ℕ → Standing → Standing
looked_of delay tick shown i a =
    record {
      held = a.held;
      next = a.next;
      looked = Some tick;
      disputed = a.disputed || (has_dispute i shown || opens delay tick i shown a);
      sent = cond (shows_held delay tick i shown a) (Some (record { number = a.held.number; at = tick })) (still_sent delay tick i shown a.sent);
    }

-- The key of an in, where the node has it and it wasn't shown for account i.
abbrev pub unshown : ℕ → List Shown → Option (List ℕ) → Option (List ℕ)
unshown i shown None = None
unshown i shown (Some key) = cond (any_shown (is_shown_for i key) shown) None (Some key)

abbrev pub before : Option (List ℕ) → List (List ℕ) → List (List ℕ)
before None keys = keys
before (Some key) keys = key ∷ keys

-- The keys of these ins, where the end is below a tick, in their order.
abbrev pub wanted : NodeState → (below i : ℕ) → List Shown → List Payment → List (List ℕ)
wanted n below i shown [] = []
wanted n below i shown (p ∷ others) =
    before (cond (nat_lt p.end below) (unshown i shown (n.key_of p.lock)) None) (wanted n below i shown others)

abbrev pub is_among : List ℕ → List (List ℕ) → Bool
is_among key [] = false
is_among key (k ∷ others) = bytes_eq k key || is_among key others

-- Each once, at its first place; these were there before.
abbrev pub once : List (List ℕ) → List (List ℕ) → List (List ℕ)
once earlier [] = []
once earlier (k ∷ others) = cond (is_among k earlier) (once earlier others) (k ∷ once (k ∷ earlier) others)

abbrev pub ins_of : Option Content → List Payment
ins_of None = []
ins_of (Some s) = s.ins

-- An end is near if it is below this.
abbrev pub near_below : Terms → ℕ → ℕ
near_below terms tick = tick + 2 * terms.look + 2 * terms.delay

abbrev pub keys_to_show : NodeState → ℕ → List Shown → ℕ → Standing → List (List ℕ)
keys_to_show n tick shown i a = once [] (wanted n (near_below n.terms tick) i shown (a.held.ins ++ ins_of a.next))

-- What is shown to the register in account i: held, and then keys. The node has taken the new keys by then.
abbrev pub showing : NodeState → ℕ → List Shown → ℕ → Standing → List Act
showing n tick shown i a =
    cond (shows_held n.terms.delay tick i shown a) (shown_sheet i a.held ∷ []) [] ++ map (shown_key i) (keys_to_show n tick shown i a)

-- From account i up.
abbrev pub showing_all : NodeState → ℕ → List Shown → ℕ → List Standing → List Act
showing_all n tick shown i [] = []
showing_all n tick shown i (a ∷ others) = showing n tick shown i a ++ showing_all n tick shown (i + 1) others

-- A look at an earlier tick than the last.
abbrev pub is_before : ℕ → Option ℕ → Bool
is_before tick None = false
is_before tick (Some looked) = nat_lt tick looked

abbrev pub is_earlier : ℕ → List Standing → Bool
is_earlier tick [] = false
is_earlier tick (a ∷ others) = is_before tick a.looked || is_earlier tick others

-- The node once it has taken the new keys.
abbrev pub learned : NodeState → List Shown → NodeState
learned n shown = acted_all (learning n shown) n

abbrev pub look_taken : NodeState → ℕ → List Shown → List Act
look_taken n tick shown = learning n shown ++ showing_all (learned n shown) tick shown 0 n.accounts

abbrev pub is_refused : NodeState → ℕ → Bool
is_refused n tick = is_earlier tick n.accounts || nat_lt most tick

-- The answer and the acts of a look.
abbrev pub look_of : NodeState → ℕ → List Shown → Outcome
look_of n tick shown =
    cond (is_earlier tick n.accounts) (refused Unreadable) (cond (nat_lt most tick) (refused TooLarge) (done (look_taken n tick shown)))

-- Each account with its number, from i up, changed in one way.
abbrev pub each_from : (ℕ → Standing → Standing) → ℕ → List Standing → List Standing
each_from f i [] = []
each_from f i (a ∷ others) = f i a ∷ each_from f (i + 1) others

-- The node after a look: what it recorded, and what each account keeps of the look until the node stops.
abbrev pub looked_node : NodeState → ℕ → List Shown → NodeState
looked_node n tick shown =
    cond (is_refused n tick) n
    (with_accounts (learned n shown) (each_from (looked_of n.terms.delay tick shown) 0 n.accounts))

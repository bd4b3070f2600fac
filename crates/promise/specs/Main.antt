-- What is promised of every run, with the register and time. Assumes nothing.
use Rattle.std.specs.Prelude.{◌≡◌, ℕ, ◌+◌, ◌*◌, ◌<◌, ◌≤◌, Bool, true, false, not, ◌&&◌, ◌⊎◌, List, [], ◌∷◌, length, is_some}
use Rattle.sheet.specs.declared.types.Payment.{Payment}
use Rattle.sheet.specs.Contents.{Content}
use Rattle.digest.specs.Sha256.{sha256}
use Rattle.account.specs.Accounts.{Standing}
use Rattle.schedule.specs.declared.types.Terms.{Terms}
use Rattle.node_state.specs.Nodes.{account_at}
use Rattle.register.specs.Register.{Phase, quiet, disputed, ended, KeyAt, payout_of, is_settled}
use Rattle.moments.specs.Runs.{Deposit}
use Rattle.moments.specs.Moments.{Counts, In, Out, is_from, sum_to, put_in}
use Rattle.promise.specs.World.{World, node_of, terms_of, Event, world_after}

-- The numbers that are agreed on.
pub record Holds (terms : Terms) : Type 0 where
  pub looks : 1 ≤ terms.look
  pub window_enough : terms.look + terms.delay + 1 ≤ terms.window
  pub gap_enough : terms.window + 3 * terms.delay + 3 * terms.look ≤ terms.gap

-- No payments and no next: such an account may be ended by agreement.
abbrev pub none_of : List Payment → Bool
none_of [] = true
none_of (p ∷ others) = false

abbrev pub is_bare : Standing → Bool
is_bare a = none_of a.held.ins && (none_of a.held.outs && not (is_some a.next))

-- An account is settled by its dispute, or, where there never was one, by agreement.
abbrev pub settled_by : (delay now : ℕ) → Standing → Phase → Bool
settled_by delay now a quiet = is_bare a
settled_by delay now a (disputed s until) = is_settled delay now (disputed s until)
settled_by delay now a (ended s until) = is_settled delay now (ended s until)

abbrev pub Settled : World → ℕ → Type 0
Settled w k = settled_by (terms_of w).delay w.now (account_at (node_of w) k) (w.pages k).phase ≡ true

-- What the node gets: by agreement its own.
abbrev pub payout_by : (delay : ℕ) → Standing → List KeyAt → Phase → ℕ
payout_by delay a keys quiet = a.held.own
payout_by delay a keys (disputed s until) = payout_of delay keys (disputed s until)
payout_by delay a keys (ended s until) = payout_of delay keys (ended s until)

abbrev pub payout : World → ℕ → ℕ
payout w k = payout_by (terms_of w).delay (account_at (node_of w) k) (w.pages k).keys (w.pages k).phase

-- Whatever happens: once every account is settled, the node has at least what it put in.
abbrev pub Main : Type 0
Main =
    (terms : Terms) → Holds terms → (ds : List Deposit) (events : List Event) →
    ((k : ℕ) → k < length ds → Settled (world_after terms ds events) k) →
    put_in ds ≤ sum_to (length ds) (payout (world_after terms ds events))

-- No older sheet: where a dispute has ended, the sheet that counts is held or next.
abbrev pub NoOlder : Type 0
NoOlder =
    (terms : Terms) → Holds terms → (ds : List Deposit) (events : List Event) (k : ℕ) (s : Content) (until : ℕ) → k < length ds →
    ((world_after terms ds events).pages k).phase ≡ ended s until → Counts (account_at (node_of (world_after terms ds events)) k) s

-- A dispute that is open or has ended, and its end.
abbrev pub EndsAt : Phase → ℕ → Type 0
EndsAt phase until = (s : Content) × ((phase ≡ disputed s until) ⊎ (phase ≡ ended s until))

-- Outs are decided early: a dispute over an out that may count ends soon after the out's own end.
abbrev pub DecidedEarly : Type 0
DecidedEarly =
    (terms : Terms) → Holds terms → (ds : List Deposit) (events : List Event) (k : ℕ) (x : Payment) (until : ℕ) → k < length ds →
    Out (node_of (world_after terms ds events)) k x → EndsAt ((world_after terms ds events).pages k).phase until →
    until ≤ x.end + terms.look + terms.delay + terms.window

-- The lock is in the list.
abbrev pub Among : List ℕ → List (List ℕ) → Type 0
Among lock [] = ⊥
Among lock (l ∷ others) = (l ≡ lock) ⊎ Among lock others

-- A key of the lock stands in the list since a tick at most this.
abbrev pub KeyBy : ℕ → List ℕ → List KeyAt → Type 0
KeyBy by lock [] = ⊥
KeyBy by lock (k ∷ others) = ((sha256 k.key ≡ lock) × (k.tick ≤ by)) ⊎ KeyBy by lock others

-- What binds the node to get the in c: it has signed paying the out, or the key was shown for one of its accounts, and that
-- a look and a delay before c's end.
abbrev pub Bound : World → ℕ → Payment → Type 0
Bound w many c =
    Among c.lock w.history.paid ⊎
    ((j by : ℕ) × (j < many) × KeyBy by c.lock (w.pages j).keys × (by + (terms_of w).look + (terms_of w).delay ≤ c.end))

-- Keys come through: the key of an in that was passed on, and that the node is bound to get, is shown for its account by its end.
abbrev pub InTime : Type 0
InTime =
    (terms : Terms) → Holds terms → (ds : List Deposit) (events : List Event) (i : ℕ) (c : Payment) → i < length ds →
    In (node_of (world_after terms ds events)) i c → is_from i ((node_of (world_after terms ds events)).route_of c.lock) ≡ true →
    Bound (world_after terms ds events) (length ds) c → c.end < (world_after terms ds events).now →
    KeyBy c.end c.lock ((world_after terms ds events).pages i).keys

-- The promise follows from these three: the sheets that count are such as may count, outs are decided early, and the keys of
-- ins come through.
abbrev pub MainFollows : Type 0
MainFollows = NoOlder → DecidedEarly → InTime → Main

-- Every run can go on to where every account is settled, and the node and time alone bring it there: so the promise, which
-- speaks of accounts that are settled, says something of every run. Assumes nothing.
use Rattle.std.specs.Prelude.{◌≡◌, ℕ, ◌+◌, ◌<◌, ◌≤◌, Bool, true, false, List, [], ◌∷◌, ◌++◌, length}
use Rattle.sheet.specs.declared.types.Payment.{Payment}
use Rattle.change.specs.Changes.{most}
use Rattle.schedule.specs.declared.types.Terms.{Terms}
use Rattle.moments.specs.Runs.{Deposit}
use Rattle.moments.specs.Moments.{In, Out, sum_to, put_in}
use Rattle.promise_told.specs.World.{World, node_of, Event, tick, entry, looks, shows, reveals, arrives, restart, entry_cut, look_cut, world_after}
use Rattle.promise_told.specs.Main.{Holds, Settled, payout}

-- Looks, arrivals and ticks: no neighbour sends, shows or reveals anything, and the owner calls nothing.
abbrev pub is_alone : Event → Bool
is_alone tick = true
is_alone (looks told) = true
is_alone (arrives m) = true
is_alone (entry e) = false
is_alone (shows m) = false
is_alone (reveals i key) = false
is_alone restart = false
is_alone (entry_cut e k) = false
is_alone (look_cut told k) = false

abbrev pub Alone : List Event → Type 0
Alone [] = Unit {0}
Alone (e ∷ events) = (is_alone e ≡ true) × Alone events

-- The tick is not before now, and each payment on a sheet that may count ends before it.
pub record Over (w : World) (many last : ℕ) : Type 0 where
  pub now : w.now ≤ last
  pub ins : (k : ℕ) (x : Payment) → k < many → In (node_of w) k x → x.end < last
  pub outs : (k : ℕ) (x : Payment) → k < many → Out (node_of w) k x → x.end < last

-- From such a tick on: a dispute that opens then lasts a window, keys may still come a delay after that, and at the next tick
-- all is settled.
abbrev pub settled_at : Terms → ℕ → ℕ
settled_at terms last = last + terms.window + terms.delay + 1

-- From wherever a run has come, looks, arrivals and ticks alone settle every account, and that by this tick. It must not be
-- above the largest number, since the node takes no look at a tick above it.
abbrev pub SettlesAlone : Type 0
SettlesAlone =
    (terms : Terms) → Holds terms → (ds : List Deposit) (events : List Event) (last : ℕ) → Over (world_after terms ds events) (length ds) last → settled_at terms last ≤ most →
    (more : List Event) × Alone more × ((world_after terms ds (events ++ more)).now ≡ settled_at terms last) ×
    ((k : ℕ) → k < length ds → Settled (world_after terms ds (events ++ more)) k)

-- There is time left: now, and the tick after the end of each payment that may count, are early enough for that.
pub record Room (terms : Terms) (w : World) (many : ℕ) : Type 0 where
  pub now : settled_at terms w.now ≤ most
  pub ins : (k : ℕ) (x : Payment) → k < many → In (node_of w) k x → settled_at terms (x.end + 1) ≤ most
  pub outs : (k : ℕ) (x : Payment) → k < many → Out (node_of w) k x → settled_at terms (x.end + 1) ≤ most

-- So, wherever a run has come with time left, some list of such events settles every account.
abbrev pub Settles : Type 0
Settles =
    (terms : Terms) → Holds terms → (ds : List Deposit) (events : List Event) → Room terms (world_after terms ds events) (length ds) →
    (more : List Event) × Alone more × ((k : ℕ) → k < length ds → Settled (world_after terms ds (events ++ more)) k)

-- And then the payouts together are at least what the node put in: whatever happened before, it gets there by itself. As in
-- Main, an account with no payments, no next and no dispute counts as settled, by agreement.
abbrev pub PaidAlone : Type 0
PaidAlone =
    (terms : Terms) → Holds terms → (ds : List Deposit) (events : List Event) → Room terms (world_after terms ds events) (length ds) →
    (more : List Event) × Alone more × ((k : ℕ) → k < length ds → Settled (world_after terms ds (events ++ more)) k) ×
    (put_in ds ≤ sum_to (length ds) (payout (world_after terms ds (events ++ more))))

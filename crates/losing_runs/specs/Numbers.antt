-- Why the numbers that are agreed on are as they are: with a smaller window, or a smaller gap, the node of the rules loses.
-- Assumes nothing.
use Rattle.std.specs.Prelude.{ℕ, ◌<◌, List, [], ◌∷◌, ◌++◌, length}
use Rattle.schedule.specs.declared.types.Terms.{Terms}
use Rattle.rules.specs.declared.types.Message.TheVariants.{Key}
use Rattle.looking.specs.declared.types.Shown.TheVariants.{Dispute}
use Rattle.looking.specs.declared.types.Shown.TheVariants as statement
use Rattle.moments.specs.Runs.{message}
use Rattle.moments.specs.Moments.{sum_to, put_in}
use Rattle.promise_told.specs.World.{world_after, Event, tick, entry, looks, shows, arrives}
use Rattle.promise_told.specs.Main.{Settled, payout}
use Rattle.losing_runs.specs.Runs.{deposits, key, offered, passed_on, signed_back, paid, got, looking, key_at_last}

-- With these terms the node of the rules loses by these events.
pub record LosesWith (terms : Terms) (events : List Event) : Type 0 where
  pub settled : (k : ℕ) → k < length deposits → Settled (world_after terms deposits events) k
  pub less : sum_to (length deposits) (payout (world_after terms deposits events)) < put_in deposits

-- The window is one less than agreed: look and delay together.
abbrev pub short_window : Terms
short_window = record { gap = 9; window = 2; delay = 1; look = 1 }

abbrev pub short_window_run : List Event
short_window_run =
    looks []
    -- a payment goes through
    ∷ offered 9
    ∷ passed_on 0
    ∷ signed_back 1 1
    ∷ entry (message 1 (Key key))
    ∷ paid
    ∷ signed_back 1 2
    ∷ got
    ∷ signed_back 0 2
    -- neighbour 0 shows sheet 0, from before it: a dispute until 2
    ∷ shows 0
    -- tick 1: the node sends sheet 2, which is in by tick 2, when the dispute has ended
    ∷ looking 1 (Dispute 0 0 2 ∷ [])
    ++ tick
    ∷ []

-- The gap is less than window, 3 delays and 2 looks; what is agreed has one look more.
abbrev pub short_gap : Terms
short_gap = record { gap = 7; window = 3; delay = 1; look = 1 }

abbrev pub short_gap_run : List Event
short_gap_run =
    looks []
    ∷ offered 7
    ∷ passed_on 0
    ∷ signed_back 1 1
    -- neighbour 0 shows the sheet with the in: a dispute until 3, so the in's key counts until 7, its end
    ∷ shows 2
    -- tick 1: the out's end is past, so the node sends the sheet with the out
    ∷ looking 1 (Dispute 0 1 3 ∷ [])
    -- tick 2: that comes in: a dispute until 5, so the out's key counts until 6
    ++ tick
    ∷ arrives 0
    ∷ looks (Dispute 0 1 3 ∷ Dispute 1 1 5 ∷ [])
    -- up to tick 6
    ∷ looking 4 (Dispute 0 1 3 ∷ Dispute 1 1 5 ∷ [])
    ++ key_at_last
    -- tick 7: the node learns the key and sends it for account 0, where it is in by tick 8
    ++ looks (Dispute 0 1 3 ∷ Dispute 1 1 5 ∷ statement.Key 1 key 6 ∷ [])
    ∷ tick
    ∷ arrives 0
    ∷ []

abbrev pub ShortWindowLoses : Type 0
ShortWindowLoses = LosesWith short_window short_window_run

abbrev pub ShortGapLoses : Type 0
ShortGapLoses = LosesWith short_gap short_gap_run

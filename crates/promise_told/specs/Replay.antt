-- The node in the world is a node by itself: what time and the register add is no other way to change it; and its file says
-- what it is after a stop. Assumes nothing.
use Rattle.std.specs.Prelude.{◌≡◌, cond, List, [], ◌∷◌, ◌++◌, take}
use Rattle.schedule.specs.declared.types.Terms.{Terms}
use Rattle.outcome.specs.Acts.{Record}
use Rattle.moments.specs.Runs as alone
use Rattle.moments.specs.Runs.{Deposit, outcome_of, started_again, start_of}
use Rattle.moments.specs.Records.{records_of, written_all}
use Rattle.promise_told.specs.World.{World, node_of, Event, tick, entry, looks, shows, reveals, arrives, restart, entry_cut, look_cut, is_true, look_acts, happens, beginning, world_after}

-- In every run of the world the node, and what it paid for, are those of a run of the node alone. So all that holds of those
-- holds here.
abbrev pub NodeAlone : Type 0
NodeAlone =
    (terms : Terms) (ds : List Deposit) (events : List Event) →
    (list : List alone.Event) × ((world_after terms ds events).history ≡ alone.after list (start_of terms ds))

-- What an event writes to the node's file, and what all events of a run do, after the first sheets.
abbrev pub records_in : Event → World → List Record
records_in tick w = []
records_in (entry e) w = records_of (outcome_of (node_of w) e).acts
records_in (looks told) w = cond (is_true w told) (records_of (look_acts w told)) []
records_in (shows m) w = []
records_in (reveals i key) w = []
records_in (arrives m) w = []
records_in restart w = []
records_in (entry_cut e k) w = records_of (take k (outcome_of (node_of w) e).acts)
records_in (look_cut told k) w = cond (is_true w told) (records_of (take k (look_acts w told))) []

abbrev pub journal_of : List Event → World → List Record
journal_of [] w = []
journal_of (e ∷ events) w = records_in e w ++ journal_of events (happens e w)

-- Stopped and started again at any moment, the node is what the records of the run make of the first sheets.
abbrev pub FileTells : Type 0
FileTells =
    (terms : Terms) (ds : List Deposit) (events : List Event) →
    started_again (node_of (world_after terms ds events)) ≡ written_all (journal_of events (beginning terms ds)) (start_of terms ds).node

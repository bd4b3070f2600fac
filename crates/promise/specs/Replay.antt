-- The node in the world is a node by itself: what time and the register add is no other way to change it. Assumes nothing.
use Rattle.std.specs.Prelude.{◌≡◌, List}
use Rattle.schedule.specs.declared.types.Terms.{Terms}
use Rattle.moments.specs.Runs as alone
use Rattle.moments.specs.Runs.{Deposit, start_of}
use Rattle.promise.specs.World.{Event, world_after}

-- In every run of the world the node, and what it paid for, are those of a run of the node alone. So all that holds of those
-- holds here.
abbrev pub NodeAlone : Type 0
NodeAlone =
    (terms : Terms) (ds : List Deposit) (events : List Event) →
    (list : List alone.Event) × ((world_after terms ds events).history ≡ alone.after list (start_of terms ds))

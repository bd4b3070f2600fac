-- How a run begins: a node that is opened with the deposits is the node at the beginning of the world. Assumes nothing.
use Rattle.std.specs.Prelude.{◌≡◌, ◌≤◌, List, [], ◌∷◌, length}
use Rattle.schedule.specs.declared.types.Terms.{Terms}
use Rattle.node_state.specs.Nodes.{NodeState, empty_of, with_opened}
use Rattle.moments.specs.Runs.{Deposit}
use Rattle.promise_told.specs.World.{node_of, beginning}

-- One account after the other is opened, as the contract of opening says.
abbrev pub opened_with : List Deposit → NodeState → NodeState
opened_with [] n = n
opened_with (d ∷ others) n = opened_with others (with_opened n d.own d.theirs).1

abbrev pub OpenedBegins : Type 0
OpenedBegins = (terms : Terms) (ds : List Deposit) → length ds ≤ 16 → opened_with ds (empty_of terms) ≡ node_of (beginning terms ds)

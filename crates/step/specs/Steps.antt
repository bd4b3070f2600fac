-- What a request comes to, and what that is in the world of the promise. Assumes nothing.
use Rattle.std.specs.Prelude.{◌≡◌, ℕ, true, List, [], ◌∷◌, ◌++◌, take, Ok, Err, vec_items, Result}
use Rattle.refusal.specs.declared.Refusal.{Refusal}
use Rattle.schedule.specs.declared.types.Terms.{Terms}
use Rattle.node_state.specs.Nodes.{NodeState}
use Rattle.outcome.specs.declared.types.Fault.{Fault}
use Rattle.outcome.specs.Acts.{Act}
use Rattle.outcome.specs.Logs.{extended, Begun}
use Rattle.outcome.specs.Outcomes.{Outcome}
use Rattle.outcome.specs.Records.{acted_all}
use Rattle.rules.specs.Entries.{message_of, call_of}
use Rattle.looking.specs.Looking.{look_of, looked_node}
use Rattle.any_request.specs.declared.types.Request.{Request}
use Rattle.any_request.specs.declared.types.Request.TheVariants.{Message, Asked, Look}
use Rattle.request_told.specs.declared.types.TickShown.{TickShown}
use Rattle.moments.specs.Runs.{Deposit, message, call, started_again}
use Rattle.promise_told.specs.World.{World, node_of, Event, entry, looks, entry_cut, look_cut, is_true, world_after}

-- The answer and the acts, as the rules and looking say.
abbrev pub outcome_by : NodeState → Request TickShown → Outcome
outcome_by n (Message i m) = message_of n i m
outcome_by n (Asked c) = call_of n c
outcome_by n (Look l) = look_of n l.tick (vec_items l.shown)

-- The node afterwards.
abbrev pub node_by : NodeState → Request TickShown → NodeState
node_by n (Message i m) = acted_all (message_of n i m).acts n
node_by n (Asked c) = acted_all (call_of n c).acts n
node_by n (Look l) = looked_node n l.tick (vec_items l.shown)

-- What was done, and what became of the node, of which the state and the log before are given first: all of it; or, where
-- something failed, a first part of the acts, and no answer.
abbrev pub StepDone : Request TickShown → NodeState → List Act → Result (Result (Unit {0}) Refusal) Fault → NodeState → List Act → Type 0
StepDone q n log (Ok answer) m after = (answer ≡ (outcome_by n q).answer) × (after ≡ extended log (outcome_by n q).acts) × (m ≡ node_by n q)
StepDone q n log (Err f) m after = Begun log (outcome_by n q).acts after

-- The request as an event of the world, and as one that is cut off after the first k acts.
abbrev pub event_of : Request TickShown → Event
event_of (Message i m) = entry (message i m)
event_of (Asked c) = entry (call c)
event_of (Look l) = looks (vec_items l.shown)

abbrev pub cut_of : Request TickShown → ℕ → Event
cut_of (Message i m) k = entry_cut (message i m) k
cut_of (Asked c) k = entry_cut (call c) k
cut_of (Look l) k = look_cut (vec_items l.shown) k

-- A message or a call can come in every world. A look comes at the world's own tick, and is told what its register shows.
abbrev pub CanCome : World → Request TickShown → Type 0
CanCome w (Message i m) = Unit {0}
CanCome w (Asked c) = Unit {0}
CanCome w (Look l) = (w.now ≡ l.tick) × (is_true w (vec_items l.shown) ≡ true)

-- A node that came about by a run is afterwards one that came about by that run and this event. Where something failed, some
-- first acts were done, and the node that starts from its file then is one of that run and of the event cut off there.
abbrev pub Continues : Request TickShown → NodeState → List Act → Result (Result (Unit {0}) Refusal) Fault → NodeState → List Act → Type 0
Continues q n log (Ok answer) m after =
    (terms : Terms) (ds : List Deposit) (events : List Event) → n ≡ node_of (world_after terms ds events) → CanCome (world_after terms ds events) q →
    m ≡ node_of (world_after terms ds (events ++ event_of q ∷ []))
Continues q n log (Err f) m after =
    (terms : Terms) (ds : List Deposit) (events : List Event) → n ≡ node_of (world_after terms ds events) → CanCome (world_after terms ds events) q →
    (k : ℕ) × (after ≡ log ++ take k (outcome_by n q).acts)
    × (started_again (acted_all (take k (outcome_by n q).acts) n) ≡ node_of (world_after terms ds (events ++ cut_of q k ∷ [])))

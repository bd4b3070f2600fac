use Rattle.std.proofs.Common.{◌≡◌, ◌||◌, drop}
use Rattle.node_state.specs.Nodes.{state_of}
use Rattle.outcome.specs.Records.{acted_all}
use Rattle.looking.specs.Looking.{new_keys}
use Rattle.looking.specs.Steps.{is_something}
use Rattle.looking.proofs.Doing.{Left}
use Rattle.looking.proofs.learning.record_all.Given as goal

abbrev pub invariant-loop-statement : goal.invariant-loop-statement
invariant-loop-statement g l =
    Left (g.O.Outside.log l.initial.outside) (new_keys (state_of l.initial.node) l.shown) (g.O.Outside.log l.outside) (new_keys (state_of l.node) (drop l.statement-index l.shown))
    × (acted_all (new_keys (state_of l.node) (drop l.statement-index l.shown)) (state_of l.node) ≡ acted_all (new_keys (state_of l.initial.node) l.shown) (state_of l.initial.node))
    × ((l.some || is_something (new_keys (state_of l.node) (drop l.statement-index l.shown))) ≡ is_something (new_keys (state_of l.initial.node) l.shown))

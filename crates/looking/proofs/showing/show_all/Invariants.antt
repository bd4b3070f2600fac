use Rattle.std.proofs.Common.{drop}
use Rattle.node_state.specs.Nodes.{state_of}
use Rattle.looking.specs.Looking.{showing_all}
use Rattle.looking.proofs.Doing.{Left}
use Rattle.looking.proofs.showing.show_all.Given as goal

abbrev pub invariant-loop-i : goal.invariant-loop-i
invariant-loop-i g l =
    Left (g.O.Outside.log l.initial.outside) (showing_all (state_of l.node) l.tick l.shown 0 (state_of l.node).accounts) (g.O.Outside.log l.outside) (showing_all (state_of l.node) l.tick l.shown l.i (drop l.i (state_of l.node).accounts))

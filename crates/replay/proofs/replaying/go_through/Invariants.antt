use Rattle.std.proofs.Common.{◌-◌, ◌≤◌, length}
use Rattle.node_state.specs.Nodes.{state_of}
use Rattle.replay.specs.Starts.{progress_of}
use Rattle.replay.proofs.Turns.{Goes}
use Rattle.replay.proofs.replaying.go_through.Given as goal

abbrev pub invariant-loop-node : goal.invariant-loop-node
invariant-loop-node l =
    (l.whole ≤ length l.bytes) × Goes l.bytes l.whole l.others (state_of l.node) (progress_of (state_of l.fn.start) l.bytes)

abbrev pub decreases-loop-node : goal.decreases-loop-node
decreases-loop-node l = length l.bytes - l.whole

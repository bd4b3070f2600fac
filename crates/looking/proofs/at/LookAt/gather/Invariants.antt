use Rattle.std.proofs.Common.{◌≡◌, ◌+◌, ◌≤◌, drop}
use Rattle.arrayvec.specs.ArrayVec.{array_vec_len}
use Rattle.node_state.specs.Nodes.{state_of}
use Rattle.looking.specs.Looking.{wanted}
use Rattle.looking.specs.Steps.{gathered}
use Rattle.looking.proofs.at.LookAt.gather.Given as goal

abbrev pub invariant-loop-payment : goal.invariant-loop-payment
invariant-loop-payment l =
    (gathered l.keys.items (wanted (state_of l.node) l.below l.self.i l.self.shown.now (drop l.payment-index l.ins))
    ≡ gathered l.initial.keys.items (wanted (state_of l.node) l.below l.self.i l.self.shown.now l.ins))
    × (array_vec_len l.keys ≤ array_vec_len l.initial.keys + l.payment-index)

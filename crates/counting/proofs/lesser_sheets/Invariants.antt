use Rattle.std.proofs.Common.{◌≡◌, map, length, take}
use Rattle.sheet.specs.Contents.{content_of}
use Rattle.node_state.specs.Nodes.{state_of}
use Rattle.counting.specs.Orders.{lesser}
use Rattle.counting.proofs.lesser_sheets.Given as goal

abbrev pub invariant-loop-i : goal.invariant-loop-i
invariant-loop-i l = (map content_of (take l.i l.sheets) ≡ map lesser (take l.i (state_of l.node).accounts)) × (length l.sheets ≡ 16)

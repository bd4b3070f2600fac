use Rattle.std.proofs.Common.{◌≡◌, drop}
use Rattle.counting.specs.Orders.{left_of}
use Rattle.counting.proofs.orders.is_part.Given as goal

abbrev pub invariant-loop-p : goal.invariant-loop-p
invariant-loop-p l = left_of l.left (drop l.p-index l.others) ≡ left_of l.list l.others

use Rattle.std.proofs.Common.{◌≡◌, ◌*◌, ◌≤◌}
use Rattle.moments.specs.Moments.{sum_to}
use Rattle.counting.specs.Deposits.{own_first}
use Rattle.counting.proofs.deposits.deposits.Given as goal

abbrev pub invariant-loop-i : goal.invariant-loop-i
invariant-loop-i l = (l.sum ≡ sum_to l.i (own_first l.bytes)) × (l.sum ≤ 4294967295 * l.i)

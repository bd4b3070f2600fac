use Rattle.std.proofs.Common.{◌≡◌, ◌*◌, ◌≤◌, take}
use Rattle.change.specs.Totals.{amounts}
use Rattle.change.proofs.totals.amounts.Given as goal

abbrev pub invariant-loop-p : goal.invariant-loop-p
invariant-loop-p l = (l.sum ≡ amounts (take l.p-index l.list)) × (l.sum ≤ 4294967295 * l.p-index)

use Rattle.std.proofs.Common.{◌*◌}
use Rattle.digest.specs.Progress.{Reached}
use Rattle.digest.proofs.compress.compress.Given as goal

abbrev pub invariant-loop-i : goal.invariant-loop-i
invariant-loop-i l = Reached l.s l.block (8 * l.i) l.v l.w

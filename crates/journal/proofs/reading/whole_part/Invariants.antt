use Rattle.std.proofs.Common.{◌-◌, ◌≤◌, length}
use Rattle.journal.specs.Records.{whole_part}
use Rattle.journal.proofs.Reaching.{Reaches}
use Rattle.journal.proofs.reading.whole_part.Given as goal

abbrev pub invariant-loop-got : goal.invariant-loop-got
invariant-loop-got l = (l.at ≤ length l.bytes) × Reaches l.bytes l.at (whole_part l.bytes)

abbrev pub decreases-loop-got : goal.decreases-loop-got
decreases-loop-got l = length l.bytes - l.at

use Rattle.std.proofs.Common.{◌≡◌, length, take, drop}
use Rattle.sheet_bytes.specs.Bytes.{payments_of}
use Rattle.sheet_bytes.proofs.payments.payments_at.Given as goal

abbrev pub invariant-loop-i : goal.invariant-loop-i
invariant-loop-i l = (length l.list ≡ 32) × (take l.i l.list ≡ payments_of l.i (drop l.at l.bytes))

use Rattle.std.proofs.Common.{◌*◌, take}
use Rattle.std.specs.List.{flat_map}
use Rattle.sheet_bytes.specs.Appends.{Put}
use Rattle.sheet_bytes.specs.Bytes.{payment_bytes}
use Rattle.sheet_bytes.proofs.payments.put_payments.Given as goal

abbrev pub invariant-loop-p : goal.invariant-loop-p
invariant-loop-p l = Put l.initial.out l.out (flat_map payment_bytes (take l.p-index l.list)) (40 * l.p-index)

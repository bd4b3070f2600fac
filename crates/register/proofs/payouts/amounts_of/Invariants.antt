use Rattle.std.proofs.Common.{◌≡◌, ◌*◌, ◌^◌, ◌≤◌, Bool, take}
use Rattle.sheet.specs.declared.types.Payment.{Payment}
use Rattle.register.specs.Register.{amounts_of}
use Rattle.register.proofs.payouts.amounts_of.Given as goal

abbrev pub invariant-loop-p : goal.invariant-loop-p
invariant-loop-p g l =
    (l.sum ≤ l.p-index * 2 ^ 32)
    × ((t : Payment → Bool) → ((p : _) (b : Bool) → goal.F-post g l.test p b → b ≡ t p.now) → l.sum ≡ amounts_of t (take l.p-index l.list))

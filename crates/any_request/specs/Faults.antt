-- What reading gives, unless memory runs out. Assumes nothing.
use Rattle.std.specs.Prelude.{◌≡◌, Ok, Err, Result}
use Rattle.refusal.specs.declared.Refusal.{Refusal}
use Rattle.any_request.specs.declared.faults.Fault.{Fault}
use Rattle.any_request.specs.declared.faults.Fault.TheVariants.{Refused, NoMemory}

-- What is read, by what it means, is this; where memory runs out nothing is said.
abbrev pub Reads : {T W : Type 0} → (T → W) → Result T Fault → Result W Refusal → Type 0
Reads meaning (Ok t) r = Ok (meaning t) ≡ r
Reads meaning (Err (Refused e)) r = Err e ≡ r
Reads meaning (Err (NoMemory e)) r = Unit

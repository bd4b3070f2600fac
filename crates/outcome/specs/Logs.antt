-- How the list of what was done grows. Assumes nothing.
use Rattle.std.specs.Prelude.{◌≡◌, ℕ, ◌⊎◌, List, [], ◌∷◌, ◌++◌, take, Ok, Err, Result}
use Rattle.outcome.specs.Acts.{Act}
use Rattle.outcome.specs.declared.types.Fault.{Fault}

-- With the act, which comes last, where it was done.
abbrev pub grown : Result (Unit {0}) Fault → List Act → Act → List Act
grown (Ok x) log act = log ++ act ∷ []
grown (Err f) log act = log

-- With all of these, one after the other.
abbrev pub extended : List Act → List Act → List Act
extended log [] = log
extended log (a ∷ others) = extended (log ++ a ∷ []) others

-- With a first part of these: none, or all, or some.
abbrev pub Begun : List Act → List Act → List Act → Type 0
Begun log [] after = after ≡ log
Begun log (a ∷ others) after = (after ≡ log) ⊎ Begun (log ++ a ∷ []) others after

-- So the acts stand after the log, in their order; and a first part of them is the first k, for some k.
abbrev pub ExtendedIsAppended : Type 0
ExtendedIsAppended = (log acts : List Act) → extended log acts ≡ log ++ acts

abbrev pub BegunIsFirstPart : Type 0
BegunIsFirstPart = (log acts after : List Act) → Begun log acts after → (k : ℕ) × (after ≡ log ++ take k acts)

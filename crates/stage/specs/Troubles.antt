-- What is said of a trouble. Assumes nothing.
use Rattle.std.specs.Prelude.{ℕ, List, codes}
use Rattle.stage.specs.declared.types.Trouble.{Trouble}
use Rattle.stage.specs.declared.types.Trouble.TheVariants.{Memory, Failed, Damaged}

abbrev pub trouble_text : Trouble → List ℕ
trouble_text Memory = codes "out of memory"
trouble_text Failed = codes "an act failed"
trouble_text Damaged = codes "a node could not be started from its records"

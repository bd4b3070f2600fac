-- The number of each refusal: what is answered as `no N`. Assumes nothing.
use Rattle.std.specs.Prelude.{ℕ}
use Rattle.refusal.specs.declared.Refusal.{Refusal}
use Rattle.refusal.specs.declared.Refusal.TheVariants.{Unreadable, NotOpen, UnderWay, Mismatch, LockUsed, NotCovered, EndTooNear, KeyMissing, KeyKnown, OutStands, TooLarge}

-- A key that is missing, and one that is there where it must not be, are both 8: which is meant shows from the call.
abbrev pub number_of : Refusal → ℕ
number_of Unreadable = 1
number_of NotOpen = 2
number_of UnderWay = 3
number_of Mismatch = 4
number_of LockUsed = 5
number_of NotCovered = 6
number_of EndTooNear = 7
number_of KeyMissing = 8
number_of KeyKnown = 8
number_of OutStands = 9
number_of TooLarge = 10

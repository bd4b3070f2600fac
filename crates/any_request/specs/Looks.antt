-- What a look is read as, and its tick. Assumes nothing.
use Rattle.std.specs.Prelude.{ℕ, List, Ok, Err, Result}
use Rattle.lines.specs.declared.NumberFault.{NumberFault}
use Rattle.lines.specs.declared.NumberFault.TheVariants.{NotANumber, TooLarge}
use Rattle.lines.specs.Lines.{number_read}
use Rattle.refusal.specs.declared.Refusal.{Refusal}
use Rattle.refusal.specs.declared.Refusal.TheVariants.{Unreadable, TooLarge as TickTooLarge}

-- A look by what it says.
abbrev pub on_look : {L S : Type 0} → (L → S) → Result L Refusal → Result S Refusal
on_look seen (Ok l) = Ok (seen l)
on_look seen (Err e) = Err e

-- The tick of a look: one above the largest number is refused as such.
abbrev pub tick_by : Result ℕ NumberFault → Result ℕ Refusal
tick_by (Ok t) = Ok t
tick_by (Err NotANumber) = Err Unreadable
tick_by (Err TooLarge) = Err TickTooLarge

abbrev pub tick_read : List ℕ → Result ℕ Refusal
tick_read word = tick_by (number_read word)

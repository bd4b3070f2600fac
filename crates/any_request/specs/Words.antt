-- The words of a line, one after the other: whatever is read of them, a word that is missing or too many is refused. Assumes nothing.
use Rattle.std.specs.Prelude.{ℕ, List, [], ◌∷◌, Some, None, Ok, Err, Option, Result}
use Rattle.lines.specs.declared.NumberFault.{NumberFault}
use Rattle.refusal.specs.declared.Refusal.{Refusal}
use Rattle.refusal.specs.declared.Refusal.TheVariants.{Unreadable}

-- One word more, and no word more.
abbrev pub on_word : {A : Type 0} → List (List ℕ) → (List ℕ → List (List ℕ) → Result A Refusal) → Result A Refusal
on_word [] next = Err Unreadable
on_word (w ∷ ws) next = next w ws

abbrev pub on_end : {A : Type 0} → List (List ℕ) → Result A Refusal → Result A Refusal
on_end [] r = r
on_end (w ∷ ws) r = Err Unreadable

-- A number, and a lock of 32 bytes.
abbrev pub on_number : {A : Type 0} → Result ℕ NumberFault → (ℕ → Result A Refusal) → Result A Refusal
on_number (Ok n) next = next n
on_number (Err e) next = Err Unreadable

abbrev pub on_lock : {A : Type 0} → Option (List ℕ) → (List ℕ → Result A Refusal) → Result A Refusal
on_lock None next = Err Unreadable
on_lock (Some lock) next = next lock

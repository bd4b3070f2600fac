-- A look that is its tick alone. Assumes nothing.
use Rattle.std.specs.Prelude.{ℕ, List, Result}
use Rattle.refusal.specs.declared.Refusal.{Refusal}
use Rattle.any_request.specs.Looks.{tick_read}
use Rattle.any_request.specs.Words.{on_word, on_end}

-- tick T: a tick above the largest number is refused as such.
abbrev pub tick_of : List (List ℕ) → Result ℕ Refusal
tick_of ws = on_word ws (λ t ws. on_end ws (tick_read t))

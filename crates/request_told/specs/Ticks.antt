-- A look at a tick, with what the register shows then. Assumes nothing.
use Rattle.std.specs.Prelude.{ℕ, List, Some, None, Ok, Err, vec_items, Option, Result}
use Rattle.refusal.specs.declared.Refusal.{Refusal}
use Rattle.refusal.specs.declared.Refusal.TheVariants.{Unreadable}
use Rattle.looking.specs.declared.types.Shown.{Shown}
use Rattle.any_request.specs.Looks.{tick_read}
use Rattle.any_request.specs.Words.{on_word}
use Rattle.request_told.specs.Looks.{words_show}
use Rattle.request_told.specs.declared.types.TickShown.{TickShown}

abbrev pub look_seen : TickShown → ℕ × List Shown
look_seen l = (l.tick, vec_items l.shown)

-- tick T WORD ..: where all words are statements of the register, a tick above the largest number is refused as such.
abbrev pub look_at : Result ℕ Refusal → Option (List Shown) → Result (ℕ × List Shown) Refusal
look_at t None = Err Unreadable
look_at (Ok t) (Some shown) = Ok (t, shown)
look_at (Err e) (Some shown) = Err e

abbrev pub tick_of : List (List ℕ) → Result (ℕ × List Shown) Refusal
tick_of ws = on_word ws (λ t ws. look_at (tick_read t) (words_show ws))

-- What a line of the input of node_told asks for: as any_request has it, where a look is its tick and what the register shows then.
-- Assumes nothing.
use Rattle.std.specs.Prelude.{ℕ, List, Result}
use Rattle.refusal.specs.declared.Refusal.{Refusal}
use Rattle.looking.specs.declared.types.Shown.{Shown}
use Rattle.any_request.specs.Requests as any
use Rattle.any_request.specs.declared.types.Request.{Request}
use Rattle.request_told.specs.Ticks.{look_seen, tick_of}
use Rattle.request_told.specs.declared.types.TickShown.{TickShown}

abbrev pub Wish : Type 0
Wish = any.Wish (ℕ × List Shown)

-- A look at a tick, with what the register shows then.
abbrev pub looked : ℕ → List Shown → Wish
looked t shown = any.looked (t, shown)

abbrev pub on_wish : Result (Request TickShown) Refusal → Result Wish Refusal
on_wish = any.on_wish look_seen

abbrev pub request_of : List ℕ → Result Wish Refusal
request_of = any.request_of tick_of

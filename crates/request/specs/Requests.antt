-- What a line of the input of node asks for: as any_request has it, where a look is its tick. Assumes nothing.
use Rattle.std.specs.Prelude.{ℕ, List, Result}
use Rattle.refusal.specs.declared.Refusal.{Refusal}
use Rattle.any_request.specs.Requests as any
use Rattle.any_request.specs.declared.types.Request.{Request}
use Rattle.request.specs.Ticks.{tick_of}
use Rattle.request.specs.declared.ticks.Tick.{Tick}

abbrev pub Wish : Type 0
Wish = any.Wish ℕ

abbrev pub on_wish : Result (Request Tick) Refusal → Result Wish Refusal
on_wish = any.on_wish (λ t. t.0)

abbrev pub request_of : List ℕ → Result Wish Refusal
request_of = any.request_of tick_of

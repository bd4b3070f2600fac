-- How far the compression of a block has come. Only contracts of private functions cite it. Assumes nothing.
use Rattle.std.specs.Prelude.{◌≡◌, ℕ, ◌+◌, List, take}
use Rattle.digest.specs.declared.state.State.{State}
use Rattle.digest.specs.Sha256.{schedule, rounds}

-- after t rounds that began at `before`: w begins with t words of the block's schedule, and s is what the rounds give
pub record Reached (before : State) (block : List ℕ) (t : ℕ) (s : State) (w : List ℕ) : Type 0 where
  pub words : take t w ≡ schedule t block
  pub state : s ≡ rounds t before (schedule 64 block)

-- `many` rounds from t on lead from s and w to r and x, wherever the first t began
abbrev pub Advances : List ℕ → ℕ → ℕ → State → List ℕ → State → List ℕ → Type 0
Advances block many t s w r x =
    (before : State) (n : ℕ) → n ≡ t + many → Reached before block t s w → Reached before block n r x

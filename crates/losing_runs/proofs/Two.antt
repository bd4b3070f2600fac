-- What all runs have in common: their terms hold, and there are two accounts.
use Rattle.std.proofs.Common.{ℕ, zero, suc, ◌<◌, arith}
use Rattle.promise_told.specs.Main.{Holds}
use Rattle.losing_runs.specs.Runs.{terms}

pub terms_hold : Holds terms
terms_hold = record { looks = omega arith; window_enough = omega arith; gap_enough = omega arith }

pub below_two : (P : ℕ → Type 0) → P 0 → P 1 → (k : ℕ) → k < 2 → P k
below_two P first second zero h = first
below_two P first second (suc zero) h = second
below_two P first second (suc (suc k)) h = absurd (omega arith)

use Rattle.std.proofs.Common.{◌≡◌, ℕ, ◌*◌, ◌≤◌, Bool, List, take}
use Rattle.moments.specs.Moments.{those}
use Rattle.counting.proofs.sums.amount_of.Given as goal

abbrev pub invariant-loop-p : goal.invariant-loop-p
invariant-loop-p g l =
    (l.sum ≤ l.p-index * 4294967295)
    × ((f : List ℕ → Bool) → ((lock : _) (b : Bool) → goal.F-post g l.counts lock b → b ≡ f lock.now) → l.sum ≡ those f (take l.p-index l.list))

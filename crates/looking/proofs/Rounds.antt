-- The crates that look change each account in turn alike.
use Rattle.std.proofs.Common.{◌≡◌, ℕ, ◌+◌, List, [], ◌∷◌, refl, ap}
use Rattle.account.specs.Accounts.{Standing}
use Rattle.clock.specs.Clocks as clock
use Rattle.looking.specs.Looking.{each_from}

pub same_each : (f : ℕ → Standing → Standing) (i : ℕ) (xs : List Standing) → clock.each_from f i xs ≡ each_from f i xs
same_each f i [] = refl
same_each f i (a ∷ others) = ap (λ r. f i a ∷ r) (same_each f (i + 1) others)

-- A search for an account that was looked at later, as a test of each account.
use Rattle.std.proofs.Common.{◌≡◌, ℕ, ◌||◌, List, map, refl}
use Rattle.std.specs.List.{list_any}
use Rattle.std.proofs.lemmas.List.Recursion.{same_from_clauses}
use Rattle.account.specs.declared.types.Account.{Account}
use Rattle.account.specs.Accounts.{standing_of}
use Rattle.clock.specs.Clocks.{is_later, any_later}

pub any_by_test : (tick : ℕ) (xs : List Account) → list_any (λ a. is_later (standing_of a).looked tick) xs ≡ any_later (map standing_of xs) tick
any_by_test tick xs =
    same_from_clauses (list_any (λ a. is_later (standing_of a).looked tick)) (λ ys. any_later (map standing_of ys) tick) (λ a b. is_later (standing_of a).looked tick || b) refl (λ _ _. refl) (λ _ _. refl) xs

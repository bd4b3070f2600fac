-- A search through accounts for a lock, as a test of each account.
use Rattle.std.proofs.Common.{◌≡◌, ℕ, ◌||◌, List, map, refl}
use Rattle.std.specs.List.{list_any}
use Rattle.std.proofs.lemmas.List.Recursion.{same_from_clauses}
use Rattle.sheet.specs.declared.types.Payment.{Payment}
use Rattle.sheet.specs.Contents.{Content}
use Rattle.account.specs.declared.types.Account.{Account}
use Rattle.account.specs.Accounts.{standing_of, on_either}
use Rattle.node_state.specs.Nodes.{any_has}

pub any_by_test : (side : Content → List Payment) (lock : List ℕ) (xs : List Account) → list_any (λ a. on_either side (standing_of a) lock) xs ≡ any_has side (map standing_of xs) lock
any_by_test side lock xs =
    same_from_clauses (list_any (λ a. on_either side (standing_of a) lock)) (λ ys. any_has side (map standing_of ys) lock) (λ a b. on_either side (standing_of a) lock || b) refl (λ _ _. refl) (λ _ _. refl) xs

-- Searches through lists, as tests of each element.
use Rattle.std.proofs.Common.{◌≡◌, ℕ, Bool, ◌||◌, List, Some, None, Option, refl, nat_lt}
use Rattle.std.specs.List.{list_any}
use Rattle.std.specs.Str.{bytes_eq}
use Rattle.std.proofs.lemmas.List.Recursion.{same_from_clauses}
use Rattle.sheet.specs.declared.types.Payment.{Payment}
use Rattle.account.specs.Accounts.{Standing}
use Rattle.clock.specs.Clocks.{any_later, is_later}
use Rattle.looking.specs.declared.types.Shown.{Shown}
use Rattle.looking.specs.Looking.{any_shown, any_past, is_among, is_before, is_earlier}

pub any_shown_by_test : (test : Shown → Bool) (xs : List Shown) → list_any test xs ≡ any_shown test xs
any_shown_by_test test xs = same_from_clauses (list_any test) (any_shown test) (λ a b. test a || b) refl (λ _ _. refl) (λ _ _. refl) xs

pub any_past_by_test : (tick : ℕ) (xs : List Payment) → list_any (λ p. nat_lt p.end tick) xs ≡ any_past tick xs
any_past_by_test tick xs =
    same_from_clauses (list_any (λ p. nat_lt p.end tick)) (any_past tick) (λ p b. nat_lt p.end tick || b) refl (λ _ _. refl) (λ _ _. refl) xs

pub is_among_by_test : (key : List ℕ) (xs : List (List ℕ)) → list_any (λ k. bytes_eq k key) xs ≡ is_among key xs
is_among_by_test key xs =
    same_from_clauses (list_any (λ k. bytes_eq k key)) (is_among key) (λ k b. bytes_eq k key || b) refl (λ _ _. refl) (λ _ _. refl) xs

-- The two crates that look ask the same of an account, and of all.
before_is_later : (o : Option ℕ) (tick : ℕ) (b : Bool) → (is_later o tick || b) ≡ (is_before tick o || b)
before_is_later None tick b = refl
before_is_later (Some last) tick b = refl

pub earlier_by_later : (tick : ℕ) (xs : List Standing) → any_later xs tick ≡ is_earlier tick xs
earlier_by_later tick xs =
    same_from_clauses (λ ys. any_later ys tick) (is_earlier tick) (λ a b. is_before tick a.looked || b) refl (λ a ys. before_is_later a.looked tick (any_later ys tick)) (λ _ _. refl) xs

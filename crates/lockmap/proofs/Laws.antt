-- What a caller wants to know of `with_at`, which an insert leaves.
use Rattle.std.proofs.Common.{◌≡◌, ℕ, Bool, true, false, List, is_some, Some, Option, refl}
use Rattle.std.proofs.lemmas.Slice.Eq.{bytes_eq-Decides}
use Rattle.std.proofs.lemmas.Bool.{cond-true, cond-false, cond_both}
use Rattle.std.specs.Str.{bytes_eq}
use Rattle.lockmap.specs.Maps.{with_at}

module _ {V : Type 0} (f : List ℕ → Option V) (k : List ℕ) (v : V) where
  pub with_here : with_at f k v k ≡ Some v
  with_here = cond-true (bytes_eq k k) (Some v) (f k) ((bytes_eq-Decides k k).1 refl)

  pub with_other : (l : List ℕ) → (l ≡ k → ⊥) → with_at f k v l ≡ f l
  with_other l n = cond-false (bytes_eq l k) (Some v) (f l) (apart (bytes_eq l k) refl)
    where
      apart : (t : Bool) → bytes_eq l k ≡ t → t ≡ false
      apart true h = absurd (n ((bytes_eq-Decides l k).0 h))
      apart false h = refl

  -- no lock is lost
  pub with_grows : (l : List ℕ) → is_some (f l) ≡ true → is_some (with_at f k v l) ≡ true
  with_grows l h = cond_both (bytes_eq l k) (Some v) (f l) (λ o. is_some o ≡ true) (λ _. refl) (λ _. h)

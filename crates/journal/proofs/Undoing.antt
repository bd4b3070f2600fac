-- A second append after a first one: where it fails, the first is cut off again.
use Rattle.std.proofs.Common.{◌≡◌, ℕ, true, false, List, ◌++◌, length, take, is_err, Ok, Err, Result, sym, ap, ◌∙◌}
use Rattle.std.proofs.lemmas.List.{append_assoc, take_at}
use Rattle.std.proofs.lemmas.Bool.{true≢false, false≢true}
use Rattle.sheet_bytes.specs.Appends.{Appended}

module _ {T E : Type 0} (r : Result T E) (old first more mid new : List ℕ) where
  pub both_stay : is_err r ≡ false → mid ≡ old ++ first → Appended r mid more new → Appended r old (first ++ more) new
  both_stay = by r
    where
      by : (q : Result T E) → is_err q ≡ false → mid ≡ old ++ first → Appended q mid more new → Appended q old (first ++ more) new
      by (Ok x) e m a = a ∙ ap (λ xs. xs ++ more) m ∙ append_assoc old first more
      by (Err x) e m a = absurd (true≢false e)

  pub both_go : (cut : List ℕ) (start : ℕ) → is_err r ≡ true → start ≡ length old → mid ≡ old ++ first → Appended r mid more new → cut ≡ take start new → Appended r old (first ++ more) cut
  both_go = by r
    where
      by : (q : Result T E) (cut : List ℕ) (start : ℕ) → is_err q ≡ true → start ≡ length old → mid ≡ old ++ first → Appended q mid more new → cut ≡ take start new → Appended q old (first ++ more) cut
      by (Ok x) cut start e n m a t = absurd (false≢true e)
      by (Err x) cut start e n m a t = t ∙ ap (take start) (a ∙ m) ∙ take_at old first start (sym n)

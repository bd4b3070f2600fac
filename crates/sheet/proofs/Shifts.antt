-- Payments are copied within an array, or into one: without one among them, or all of a list.
use Rattle.std.proofs.Common.{◌≡◌, ℕ, cond, leb, Some, None, sym, ◌+◌, ◌-◌, ◌<◌, ◌≤◌, List, ◌++◌, length, take, drop, ap, ◌∙◌, add-one, arith}
use Rattle.std.specs.List.{remove}
use borrow.Rule.Slice.PartMut.{put_mid}
use Rattle.std.proofs.lemmas.List.{take_at, take-take, length-take, length-drop}
use Rattle.std.proofs.lemmas.Bool.{cond-true, le-leb}
use Rattle.std.proofs.lemmas.Slice.{take-put_mid, between_is}

module _ {X : Type 0} where
  pub take_off : (n at : ℕ) (xs ys : List X) → n ≤ length xs → at < n → ys ≡ take (n - (at + 1)) (drop (at + 1) xs) → take (n - 1) (put_mid at (n - 1 - at) xs ys) ≡ remove (take n xs) at
  take_off n at xs ys h l e =
      let copied : ys ≡ drop (at + 1) (take n xs) = e ∙ between_is xs (at + 1) n in
      let long : length ys ≡ n - (at + 1) = ap length copied ∙ simp (length-drop, length-take) (omega arith) in
      take-put_mid at (n - 1 - at) xs ys (n - 1) (omega arith) (omega arith) ∙ rw (take-take at n xs (omega arith), copied, add-one at)

  pub put_whole : (n : ℕ) (xs ys zs : List X) → length xs ≤ n → ys ≡ xs → Some (take (length xs) (ys ++ zs)) ≡ cond (leb (length xs) n) (Some xs) None
  put_whole n xs ys zs h e =
      ap (λ ps. Some ps) (take_at ys zs (length xs) (ap length e) ∙ e) ∙ sym (cond-true (leb (length xs) n) (Some xs) None (le-leb _ _ h))

-- Each account of a list is changed in turn, by its number.
use Rattle.std.proofs.Common.{◌≡◌, ℕ, ◌+◌, ◌<◌, ◌≤◌, List, [], ◌∷◌, ◌++◌, map, length, get_or, take, drop, set, sym, refl, ap, ◌∙◌, arith}
use Rattle.std.proofs.lemmas.List.{append_assoc, append-nil, drop_more, drop_all, take_all, take_more, set_at, get_or_at, length-take-le}
use Rattle.sheet.specs.Contents.{first_of}
use Rattle.account.specs.Accounts.{Standing, opened_of}
use Rattle.node_state.specs.Nodes.{NodeState, account_at, with_account, with_accounts}
use Rattle.clock.specs.Clocks.{each_from}

module _ (f : ℕ → Standing → Standing) where
  each_push : (k : ℕ) (ys : List Standing) (x : Standing) → each_from f k (ys ++ x ∷ []) ≡ each_from f k ys ++ f (k + length ys) x ∷ []
  each_push k [] x = let e : k ≡ k + 0 = omega arith in ap (λ j. f j x ∷ []) e
  each_push k (y ∷ ys) x =
      let e : k + 1 + length ys ≡ k + length (y ∷ ys) = omega arith in
      ap (λ r. f k y ∷ r) (each_push (k + 1) ys x ∙ ap (λ j. each_from f (k + 1) ys ++ f j x ∷ []) e)

  each_length : (k : ℕ) (ys : List Standing) → length (each_from f k ys) ≡ length ys
  each_length k [] = refl
  each_length k (y ∷ ys) = let e = each_length (k + 1) ys in omega arith

  module _ (xs : List Standing) where
    -- the first i are changed
    abbrev pub changed_to : ℕ → List Standing
    changed_to i = each_from f 0 (take i xs) ++ drop i xs

    first_more : (i : ℕ) (d : Standing) → i < length xs → each_from f 0 (take (i + 1) xs) ≡ each_from f 0 (take i xs) ++ f i (get_or xs i d) ∷ []
    first_more i d h =
        let l = length-take-le i xs (omega arith) in
        let e : 0 + length (take i xs) ≡ i = omega arith in
        ap (each_from f 0) (take_more xs i d h) ∙ each_push 0 (take i xs) (get_or xs i d) ∙ ap (λ j. each_from f 0 (take i xs) ++ f j (get_or xs i d) ∷ []) e

    changed_more : (i : ℕ) (d : Standing) → i < length xs → set (changed_to i) i (f i (get_or (changed_to i) i d)) ≡ changed_to (i + 1)
    changed_more i d h =
        let front : List Standing = each_from f 0 (take i xs) in
        let rest : List Standing = drop (i + 1) xs in
        let long : length front ≡ i = each_length 0 (take i xs) ∙ length-take-le i xs (omega arith) in
        let split : changed_to i ≡ front ++ get_or xs i d ∷ rest = ap (λ r. front ++ r) (drop_more xs i d h) in
        let here : get_or (changed_to i) i d ≡ get_or xs i d = ap (λ l. get_or l i d) split ∙ get_or_at front (get_or xs i d) rest d i long in
        ap (λ l. set l i (f i (get_or (changed_to i) i d))) split
        ∙ ap (λ x. set (front ++ get_or xs i d ∷ rest) i (f i x)) here
        ∙ set_at front (get_or xs i d) rest (f i (get_or xs i d)) i long
        ∙ sym (ap (λ l. l ++ rest) (first_more i d h) ∙ append_assoc front (f i (get_or xs i d) ∷ []) rest)

    pub changed_all : (i : ℕ) → length xs ≤ i → changed_to i ≡ each_from f 0 xs
    changed_all i h =
        ap (λ l. each_from f 0 l ++ drop i xs) (take_all i xs h) ∙ ap (λ l. each_from f 0 xs ++ l) (drop_all i xs h) ∙ append-nil (each_from f 0 xs)

  -- One account more: S is the node at first, N before, a its account, b that account after, M the node after.
  pub account_changed : (S N M : NodeState) (i : ℕ) (a b : Standing) → i < length S.accounts → N ≡ with_accounts S (changed_to S.accounts i) → a ≡ account_at N i → b ≡ f i a → M ≡ with_account N i b → M ≡ with_accounts S (changed_to S.accounts (i + 1))
  account_changed S N M i a b h inv ea eb em =
      em
      ∙ ap (with_account N i) (eb ∙ ap (f i) ea)
      ∙ ap (λ n. with_account n i (f i (account_at n i))) inv
      ∙ ap (with_accounts S) (changed_more S.accounts i (opened_of (first_of 0 0 0)) h)

-- The number has no part in the change.
pub each_is_map : (f : Standing → Standing) (i : ℕ) (xs : List Standing) → each_from (λ j a. f a) i xs ≡ map f xs
each_is_map f i [] = refl
each_is_map f i (a ∷ others) = ap (λ r. f a ∷ r) (each_is_map f (i + 1) others)

-- A search through the accounts for the first that is not in order.
use Rattle.std.proofs.Common.{◌≡◌, ℕ, ◌<◌, ◌≤◌, true, false, List, [], ◌∷◌, map, length, get_or, Option, Some, None, MatchOption, sym, ap, ◌∙◌, arith}
use lib.ListN.{length-map}
use Rattle.std.specs.List.{HoldsAt, AllWithin}
use Rattle.std.proofs.lemmas.List.{get_or-map}
use Rattle.account.specs.declared.types.Account.{Account}
use Rattle.account.specs.Accounts.{standing_of, opened_of}
use Rattle.sheet.specs.Contents.{first_of}
use Rattle.node_state.specs.Nodes.{NodeState, account_at}
use Rattle.counting.specs.Orders.{is_orderly}
use Rattle.counting.specs.Answers.{Searched}

-- Of an account: it is in order, or not.
abbrev pub In : Account → Type 0
In a = true ≡ is_orderly (standing_of a)

abbrev pub Out : Account → Type 0
Out a = false ≡ is_orderly (standing_of a)

module _ (n : NodeState) (xs : List Account) (is : map standing_of xs ≡ n.accounts) (d : Account) where
  at : (k : ℕ) → k < length xs → account_at n k ≡ standing_of (get_or xs k d)
  at k l = ap (λ ys. get_or ys k (opened_of (first_of 0 0 0))) (sym is) ∙ get_or-map standing_of xs k d (opened_of (first_of 0 0 0)) l

  many : length xs ≡ length n.accounts
  many = sym (length-map xs standing_of) ∙ ap length is

  within : (k : ℕ) → k < length n.accounts → k < length xs
  within k l = let m = many in omega (arith, l, m)

  among : (k : ℕ) → k < length xs → k < length n.accounts
  among k l = let m = many in omega (arith, l, m)

  before : (j k : ℕ) → j < k → k < length xs → j < length xs
  before j k l h = omega (arith, l, h)

  orderly : (k : ℕ) → k < length xs → In (get_or xs k d) → is_orderly (account_at n k) ≡ true
  orderly k l e = ap is_orderly (at k l) ∙ sym e

  least : (k : ℕ) → 0 ≤ k
  least k = omega arith

  searched : (r : Option ℕ) → MatchOption r (AllWithin In xs 0 (length xs)) (λ i. (i < length xs) × HoldsAt Out xs i × AllWithin In xs 0 i) → Searched n r
  searched None h = λ k l. orderly k (within k l) (h k d (least k) (within k l))
  searched (Some i) h = (among i h.0, ap is_orderly (at i h.0) ∙ sym (h.1 d), λ j l. orderly j (before j i l h.0) (h.2 j d (least j) l))

pub first_found : (n : NodeState) (xs : List Account) → map standing_of xs ≡ n.accounts → (r : Option ℕ) → MatchOption r (AllWithin In xs 0 (length xs)) (λ i. (i < length xs) × HoldsAt Out xs i × AllWithin In xs 0 i) → Searched n r
first_found n [] is None h = λ k l. let m = sym (ap length is) in absurd (omega (arith, l, m))
first_found n [] is (Some i) h = let l = h.0 in absurd (omega (arith, l))
first_found n (x ∷ xs) is r h = searched n (x ∷ xs) is x r h

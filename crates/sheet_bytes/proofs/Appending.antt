-- One append after another.
use Rattle.std.proofs.Common.{◌≡◌, ℕ, ◌+◌, ◌*◌, ◌<◌, List, [], ◌++◌, length, get_or, take, vec_items, Vec, sym, ap, ◌∙◌, mul-one, mul-add, arith}
use Rattle.std.proofs.lemmas.List.{append_assoc, append-nil, take_more, take_all, flat_map_more}
use Rattle.std.specs.List.{flat_map}
use Rattle.std.specs.declared.alloc.Global.{Global}
use Rattle.sheet_bytes.specs.Appends.{Put}

module _ {a b : Vec ℕ Global} where
  pub put_like : (xs ys : List ℕ) (m n : ℕ) → xs ≡ ys → m ≡ n → Put a b xs m → Put a b ys n
  put_like xs ys m n e f p =
      record { items = p.items ∙ ap (λ zs. vec_items a ++ zs) e; len = omega (arith, p.len); capacity = p.capacity }

  pub put_then : {c : Vec ℕ Global} (xs ys : List ℕ) (m n : ℕ) → Put a b xs m → Put b c ys n → Put a c (xs ++ ys) (m + n)
  put_then xs ys m n p q =
      record { items = q.items ∙ ap (λ zs. zs ++ ys) p.items ∙ append_assoc (vec_items a) xs ys; len = omega (arith, p.len, q.len); capacity = omega (arith, p.capacity, q.capacity) }

pub put_nothing : (a : Vec ℕ Global) → Put a a [] 0
put_nothing a = record { items = sym (append-nil (vec_items a)); len = omega arith; capacity = omega arith }

-- the elements of a list one by one, each by so many bytes
module _ {X : Type 0} (f : X → List ℕ) (size : ℕ) (xs : List X) (i : ℕ) where
  pub put_more : (d : X) {a b c : Vec ℕ Global} → i < length xs → Put a b (flat_map f (take i xs)) (size * i) → Put b c (f (get_or xs i d)) size → Put a c (flat_map f (take (i + 1) xs)) (size * (i + 1))
  put_more d h p q =
      put_like _ _ _ _ (flat_map_more f [] (take i xs) (get_or xs i d) ∙ ap (flat_map f) (sym (take_more xs i d h))) (sym (mul-add size i 1 ∙ ap (λ k. size * i + k) (mul-one size))) (put_then _ _ _ _ p q)

  pub put_all : {a b : Vec ℕ Global} → i ≡ length xs → Put a b (flat_map f (take i xs)) (size * i) → Put a b (flat_map f xs) (size * length xs)
  put_all e p = put_like _ _ _ _ (ap (flat_map f) (take_all i xs (omega arith))) (ap (λ n. size * n) e) p

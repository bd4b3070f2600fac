-- What appending to a Vec of bytes does to it. Assumes nothing.
use Rattle.std.specs.Prelude.{◌≡◌, ℕ, ◌+◌, ◌≤◌, List, ◌++◌, Ok, Err, vec_items, vec_len, vec_capacity, Result, Vec}
use Rattle.std.specs.declared.alloc.Global.{Global}

-- All the bytes are appended, or memory has failed and nothing has changed.
abbrev pub Appended : {T E : Type 0} → Result T E → List ℕ → List ℕ → List ℕ → Type 0
Appended (Ok _) old bytes new = new ≡ old ++ bytes
Appended (Err _) old bytes new = new ≡ old

-- There is room for so many bytes more without new memory.
abbrev pub Room : Vec ℕ Global → ℕ → Type 0
Room v n = vec_len v + n ≤ vec_capacity v

-- The bytes, so many, were appended to the first, which gave the second; no room was lost otherwise.
pub record Put (old new : Vec ℕ Global) (bytes : List ℕ) (n : ℕ) : Type 0 where
  pub items : vec_items new ≡ vec_items old ++ bytes
  pub len : vec_len new ≡ vec_len old + n
  pub capacity : vec_capacity old ≤ vec_capacity new

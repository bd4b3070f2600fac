-- A message hashed in two parts: its whole blocks, and what is left with the padding.
use Rattle.std.proofs.Common.{◌≡◌, ℕ, zero, suc, ◌+◌, ◌*◌, ◌/◌, ◌<◌, ◌≤◌, List, ◌++◌, length, get_or, take, drop, sym, refl, ap, ◌∙◌, append_assoc, add-zero, add-suc, mul-suc, mul-add, mul-zero, add_comm, add-one, arith}
use Rattle.std.specs.Simd.{first_chunks}
use Rattle.std.proofs.lemmas.List.{take-append-le, drop-append-le, drop-drop, drop_at, take-append-drop, length-append, length-drop, length-take-le, take_all}
use Rattle.digest.specs.declared.state.State.{State}
use Rattle.digest.specs.Sha256.{block_at, compressed, absorbed, padding, padded, hashed, start}

-- whole blocks are hashed the same whatever follows
pub absorbed_front :
    (n : ℕ) (s : State) (x y : List ℕ) → 64 * n ≤ length x → absorbed n s (x ++ y) ≡ absorbed n s x
unfolding absorbed
absorbed_front zero s x y h = refl
absorbed_front (suc n) s x y h =
    let more : 64 * suc n ≡ 64 * n + 64 = mul-suc 64 n in
    let long : 64 ≤ length (drop (64 * n) x) = simp length-drop (omega arith) in
    let same : block_at (x ++ y) n ≡ block_at x n =
    ap (λ z. take 64 z) (drop-append-le (64 * n) x y (omega arith))
    ∙ take-append-le 64 (drop (64 * n) x) y long
    in
    ap (λ v. compressed v (block_at (x ++ y) n)) (absorbed_front n s x y (omega arith))
    ∙ ap (λ b. compressed (absorbed n s x) b) same

-- n whole blocks, and then k more
pub absorbed_append :
    (n k : ℕ) (s : State) (x y : List ℕ) → length x ≡ 64 * n
    → absorbed (n + k) s (x ++ y) ≡ absorbed k (absorbed n s x) y
unfolding absorbed
absorbed_append n zero s x y long = rw (add-zero n) (absorbed_front n s x y (omega arith))
absorbed_append n (suc k) s x y long =
    let same : block_at (x ++ y) (n + k) ≡ block_at y k =
    ap (λ z. take 64 z)
    (ap (λ j. drop j (x ++ y)) (mul-add 64 n k) ∙ sym (drop-drop (64 * k) (64 * n) (x ++ y))
    ∙ ap (λ z. drop (64 * k) z) (drop_at x y (64 * n) long))
    in
    ap (λ j. absorbed j s (x ++ y)) (add-suc n k)
    ∙ ap (λ v. compressed v (block_at (x ++ y) (n + k))) (absorbed_append n k s x y long)
    ∙ ap (λ b. compressed (absorbed k (absorbed n s x) y) b) same

-- the last hash value, from the one after the whole blocks and from the bytes that are left
pub hashed_end :
    (m : List ℕ) (n : ℕ) (z : List ℕ) → n ≡ length m / 64 → z ≡ drop (64 * n) m ++ padding (length m)
    → absorbed (length z / 64) (absorbed n start m) z ≡ hashed m
unfolding hashed padded
hashed_end m n z whole is =
    let x = take (64 * n) m in
    let long : length x ≡ 64 * n = length-take-le (64 * n) m (omega arith) in
    let split : padded m ≡ x ++ z =
    ap (λ v. v ++ padding (length m)) (sym (take-append-drop (64 * n) m))
    ∙ append_assoc x (drop (64 * n) m) (padding (length m)) ∙ sym (ap (λ v. x ++ v) is)
    in
    let count : length (x ++ z) / 64 ≡ n + length z / 64 = simp length-append (omega arith) in
    let front : absorbed n start m ≡ absorbed n start x =
    ap (λ v. absorbed n start v) (sym (take-append-drop (64 * n) m))
    ∙ absorbed_front n start x (drop (64 * n) m) (omega arith)
    in
    ap (λ v. absorbed (length z / 64) v z) front ∙ sym (absorbed_append n (length z / 64) start x z long)
    ∙ sym (ap (λ k. absorbed k start (x ++ z)) count) ∙ sym (ap (λ p. absorbed (length p / 64) start p) split)

-- a padded message of one block
pub hashed_alone : (m p : List ℕ) → p ≡ padded m → length p ≡ 64 → compressed start p ≡ hashed m
unfolding absorbed hashed
hashed_alone m p is long =
    sym (ap (λ b. compressed start b) (take_all 64 p (omega arith))) ∙ sym (ap (λ k. absorbed (k / 64) start p) long)
    ∙ ap (λ v. absorbed (length v / 64) start v) is

-- a loop's next block
pub absorbed_more :
    (i : ℕ) (s v r : State) (m b : List ℕ) → v ≡ absorbed i s m → b ≡ block_at m i → r ≡ compressed v b
    → r ≡ absorbed (i + 1) s m
unfolding absorbed
absorbed_more i s v r m b was block ran =
    ran ∙ ap (λ u. compressed u b) was ∙ ap (λ c. compressed (absorbed i s m) c) block
    ∙ sym (ap (λ k. absorbed k s m) (add-one i))

pub absorbed_none : (s : State) (m : List ℕ) → s ≡ absorbed 0 s m
unfolding absorbed
absorbed_none s m = refl

-- a block among all
pub chunk_at : (n k : ℕ) (xs : List ℕ) (i : ℕ) (d : List ℕ) → i < k → get_or (first_chunks n k xs) i d ≡ take n (drop (n * i) xs)
chunk_at n zero xs i d h = absurd (omega arith)
chunk_at n (suc k) xs zero d h = ap (λ j. take n (drop j xs)) (sym (mul-zero n))
chunk_at n (suc k) xs (suc i) d h =
    let more : n * suc i ≡ n + n * i = mul-suc n i ∙ add_comm (n * i) n in
    chunk_at n k (drop n xs) i d (omega arith) ∙ ap (λ t. take n t) (drop-drop (n * i) n xs ∙ sym (ap (λ j. drop j xs) more))

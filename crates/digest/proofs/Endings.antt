-- The last block or two of a padded message, as they are written into zeros.
use Rattle.std.proofs.Common.{◌≡◌, ℕ, suc, ◌+◌, ◌-◌, ◌*◌, ◌%◌, ◌^◌, ◌≤◌, List, ◌∷◌, ◌++◌, length, take, set, replicate, sym, refl, ap, ◌∙◌, append_assoc, mul_comm, arith}
use borrow.Rule.Slice.PartMut.{put_mid, post_of}
use lib.Seq.{take-append-add}
use Rattle.std.proofs.lemmas.List.{drop-replicate, take-replicate, set_at, set-append_right, length-append, length-replicate}
use Rattle.std.proofs.lemmas.Slice.{take-put_mid}
use Rattle.digest.specs.Sha256.{bytes8, zero_bytes, padding, padded}

-- into n zeros: the bytes that are left, 0x80 after them, and the eight bytes of the length up to e
written :
    (n : ℕ) (rest bits : List ℕ) (e z : ℕ) → length bits ≡ 8 → e ≡ length rest + 9 + z → e ≤ n
    → take e (put_mid (e - 8) (e - (e - 8)) (set (rest ++ post_of 0 (length rest - 0) (replicate n 0)) (length rest) 0x80) bits)
    ≡ rest ++ (0x80 ∷ (replicate z 0 ++ bits))
written n rest bits e z eight is within =
    let m = n - length rest - 1 in
    let xs = rest ++ (0x80 ∷ replicate m 0) in
    let zeros : ◌≡◌ {A = List ℕ} (post_of 0 (length rest - 0) (replicate n 0)) (0 ∷ replicate m 0) =
    drop-replicate (length rest - 0) n 0
    ∙ ap (λ k. replicate k 0) (let one : n - (length rest - 0) ≡ suc m = omega arith in one)
    in
    let marked : set (rest ++ post_of 0 (length rest - 0) (replicate n 0)) (length rest) 0x80 ≡ xs =
    ap (λ v. set (rest ++ v) (length rest) 0x80) zeros ∙ set_at rest 0 (replicate m 0) 0x80 (length rest) refl
    in
    let long : length xs ≡ n = simp (length-append, length-replicate) (omega arith) in
    let front : take (e - 8) xs ≡ rest ++ (0x80 ∷ replicate z 0) =
    ap (λ k. take k xs) (let at : e - 8 ≡ length rest + suc z = omega arith in at)
    ∙ take-append-add rest (0x80 ∷ replicate m 0) (suc z)
    ∙ ap (λ v. rest ++ (0x80 ∷ v)) (take-replicate z m 0 (omega arith))
    in
    ap (λ v. take e (put_mid (e - 8) (e - (e - 8)) v bits)) marked
    ∙ take-put_mid (e - 8) (e - (e - 8)) xs bits e (omega arith) (omega arith)
    ∙ ap (λ v. v ++ bits) front ∙ append_assoc rest (0x80 ∷ replicate z 0) bits

-- the same as the code has it, for a message of `size` bytes
pub end_written :
    (size e : ℕ) (rest copied last bits : List ℕ) → length rest ≡ size % 64 → e ≡ length rest + 9 + zero_bytes (length rest)
    → last ≡ replicate 128 0 → copied ≡ rest → bits ≡ bytes8 (size * 8 % 2 ^ 64)
    → take e (put_mid (e - 8) (e - (e - 8)) (set (copied ++ post_of 0 (length rest - 0) last) (length rest) 0x80) bits)
    ≡ rest ++ padding size
unfolding padding
end_written size e rest copied last bits left is zeros first second =
    let same : zero_bytes (length rest) ≡ zero_bytes size = omega arith in
    let field : bits ≡ bytes8 (8 * size % 2 ^ 64) = second ∙ ap (λ k. bytes8 (k % 2 ^ 64)) (mul_comm size 8) in
    ap
    (λ v. take e (put_mid (e - 8) (e - (e - 8)) (set (v ++ post_of 0 (length rest - 0) last) (length rest) 0x80) bits))
    first
    ∙ ap
    (λ v. take e (put_mid (e - 8) (e - (e - 8)) (set (rest ++ post_of 0 (length rest - 0) v) (length rest) 0x80) bits))
    zeros
    ∙ written 128 rest bits e (zero_bytes (length rest)) (ap length second) is (omega arith)
    ∙ ap (λ k. rest ++ (0x80 ∷ (replicate k 0 ++ bits))) same
    ∙ ap (λ v. rest ++ (0x80 ∷ (replicate (zero_bytes size) 0 ++ v))) field

-- a key of 32 bytes, as the code writes its block
pub key_written :
    (key copied : List ℕ) → length key ≡ 32 → copied ≡ key
    → set (set (copied ++ replicate 32 0) 32 0x80) 62 1 ≡ padded key
unfolding padding padded
key_written key copied long first =
    ap (λ v. set (set (v ++ replicate 32 0) 32 0x80) 62 1) first
    ∙ ap (λ v. set v 62 1) (set-append_right key (replicate 32 0) 32 32 0x80 long (omega arith))
    ∙ set-append_right key (set (replicate 32 0) 0 0x80) 32 62 1 long (omega arith)
    ∙ ap (λ k. key ++ padding k) (sym long)

pub length_padded_key : (key : List ℕ) → length key ≡ 32 → length (padded key) ≡ 64
unfolding padding padded
length_padded_key key long = ap (λ k. length (key ++ padding k)) long ∙ length-append key (padding 32) ∙ ap (λ k. k + 32) long

-- The key and the lock of a number. Assumes nothing.
use Rattle.std.specs.Prelude.{ℕ, List, ◌++◌, replicate}
use Rattle.digest.specs.Sha256.{bytes4, sha256}

-- 28 zero bytes, and then the number, its high byte first.
abbrev pub key_bytes : ℕ → List ℕ
key_bytes n = replicate 28 0 ++ bytes4 n

-- The lock is the SHA-256 of the key.
abbrev pub lock_bytes : ℕ → List ℕ
lock_bytes n = sha256 (key_bytes n)

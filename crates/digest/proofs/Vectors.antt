-- The published digests, by computing the definition; and the padding's rule.
use Rattle.std.proofs.Common.{refl, arith}
use Rattle.digest.specs.Sha256.{schedule, rounds, compressed, absorbed, padding, padded, hashed, bytes_of}
use Rattle.digest.specs.Vectors.{DigestOfAbc, DigestOfEmpty, DigestOfTwoBlocks, PaddingLeast}

pub digest_of_abc : DigestOfAbc
unfolding schedule rounds compressed absorbed padding padded hashed bytes_of
digest_of_abc = refl

pub digest_of_empty : DigestOfEmpty
unfolding schedule rounds compressed absorbed padding padded hashed bytes_of
digest_of_empty = refl

pub digest_of_two_blocks : DigestOfTwoBlocks
unfolding schedule rounds compressed absorbed padding padded hashed bytes_of
digest_of_two_blocks = refl

pub padding_least : PaddingLeast
padding_least n = (omega arith, λ k h. omega arith)

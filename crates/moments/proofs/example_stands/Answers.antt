use Rattle.std.proofs.Common.{refl}
use Rattle.digest.specs.Sha256.{bytes_of, hashed, absorbed, padded, padding, compressed, rounds, schedule}
use Rattle.moments.proofs.example_stands.Goals as goal

pub returns : goal.returns
unfolding bytes_of hashed absorbed padded padding compressed rounds schedule
returns c = record { first = refl; second = refl; first_still = refl; second_still = refl }

use Rattle.std.proofs.Common.{refl}
use Rattle.digest.specs.Sha256.{bytes_of, hashed, absorbed, padded, padding, compressed, rounds, schedule}
use Rattle.cases.proofs.cases_stand.Goals as goal

pub returns : goal.returns
unfolding bytes_of hashed absorbed padded padding compressed rounds schedule
returns c = (refl, (refl, (refl, (refl, (refl, (refl, (refl, (refl, (refl, (refl, tt))))))))))

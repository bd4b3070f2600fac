use Rattle.std.proofs.Common.{refl, arith}
use Rattle.digest.specs.Sha256.{bytes_of, hashed, absorbed, padded, padding, compressed, rounds, schedule}
use Rattle.losing_runs.proofs.Two.{below_two}
use Rattle.losing_runs.proofs.short_gap_loses.Goals as goal

pub returns : goal.returns
unfolding bytes_of hashed absorbed padded padding compressed rounds schedule
returns c = record { settled = below_two _ refl refl; less = omega arith }

use Rattle.std.proofs.Common.{refl, arith}
use Rattle.digest.specs.Sha256.{bytes_of, hashed, absorbed, padded, padding, compressed, rounds, schedule}
use Rattle.losing_runs.proofs.Two.{terms_hold, below_two}
use Rattle.losing_runs.proofs.sheet_first_loses.Goals as goal

pub returns : goal.returns
unfolding bytes_of hashed absorbed padded padding compressed rounds schedule
returns c =
    record {
      loses = record { holds = terms_hold; settled = below_two _ refl refl; less = omega arith };
      kept = record { settled = below_two _ refl refl; enough = omega arith };
    }

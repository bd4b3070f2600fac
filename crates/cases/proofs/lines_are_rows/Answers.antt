use Rattle.std.proofs.Common.{refl}
use Rattle.digest.specs.Sha256.{bytes_of, hashed, absorbed, padded, padding, compressed, rounds, schedule}
use Rattle.sheet_bytes.specs.Bytes.{head_bytes, sheet_bytes}
use Rattle.cases.proofs.lines_are_rows.Goals as goal

pub returns : goal.returns
unfolding bytes_of hashed absorbed padded padding compressed rounds schedule head_bytes sheet_bytes
returns c = (
  record { name = refl; lines = refl; printed = refl },
  (
    record { name = refl; lines = refl; printed = refl },
    (
      record { name = refl; lines = refl; printed = refl },
      (
        record { name = refl; lines = refl; printed = refl },
        (
          record { name = refl; lines = refl; printed = refl },
          (
            record { name = refl; lines = refl; printed = refl },
            (
              record { name = refl; lines = refl; printed = refl },
              (
                record { name = refl; lines = refl; printed = refl },
                (
                  record { name = refl; lines = refl; printed = refl },
                  (
                    record { name = refl; lines = refl; printed = refl },
                    tt,
                  ),
                ),
              ),
            ),
          ),
        ),
      ),
    ),
  ),
)

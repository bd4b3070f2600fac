use Rattle.replay.proofs.Again.{by_records, cut_anywhere, as_written}
use Rattle.replay.proofs.Deposits.{deposits_stay}
use Rattle.replay.proofs.start_stands.Goals as goal

pub returns : goal.returns
returns c = record { by_records = by_records; cut_anywhere = cut_anywhere; as_written = as_written; deposits_stay = deposits_stay }

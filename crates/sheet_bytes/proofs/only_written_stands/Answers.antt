use Rattle.sheet_bytes.proofs.Trips.{only_written}
use Rattle.sheet_bytes.proofs.only_written_stands.Goals as goal

pub returns : goal.returns
returns c = only_written

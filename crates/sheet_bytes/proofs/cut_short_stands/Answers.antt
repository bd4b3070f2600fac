use Rattle.sheet_bytes.proofs.Trips.{cut_short}
use Rattle.sheet_bytes.proofs.cut_short_stands.Goals as goal

pub returns : goal.returns
returns c = cut_short

use Rattle.sheet_bytes.proofs.Trips.{round_trip}
use Rattle.sheet_bytes.proofs.round_trip_stands.Goals as goal

pub returns : goal.returns
returns c = round_trip

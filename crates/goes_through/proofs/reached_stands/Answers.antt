use Rattle.goes_through.proofs.Opening.{is_reached, from_the_start}
use Rattle.goes_through.proofs.reached_stands.Goals as goal

pub returns : goal.returns
returns c = record { world = is_reached; whole = from_the_start }

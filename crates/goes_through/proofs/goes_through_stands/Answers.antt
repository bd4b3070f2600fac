use Rattle.goes_through.proofs.Carried.{goes_through}
use Rattle.goes_through.proofs.goes_through_stands.Goals as goal

pub returns : goal.returns
returns c = goes_through

use Rattle.moments.proofs.Signs.{exactly}
use Rattle.moments.proofs.exactly_stands.Goals as goal

pub returns : goal.returns
returns c = exactly

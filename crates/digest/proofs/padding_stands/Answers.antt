use Rattle.digest.proofs.Vectors.{padding_least}
use Rattle.digest.proofs.padding_stands.Goals as goal

pub returns : goal.returns
returns c = padding_least

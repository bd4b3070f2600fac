use Rattle.lines.proofs.Seeks.{first_then_rest}
use Rattle.lines.proofs.first_then_rest.Goals as goal

pub returns : goal.returns
returns c = first_then_rest

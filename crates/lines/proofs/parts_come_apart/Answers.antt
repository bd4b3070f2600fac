use Rattle.lines.proofs.Seeks.{parts_come_apart}
use Rattle.lines.proofs.parts_come_apart.Goals as goal

pub returns : goal.returns
returns c = parts_come_apart

use Rattle.journal.proofs.Many.{read_back}
use Rattle.journal.proofs.read_back_stands.Goals as goal

pub returns : goal.returns
returns c = read_back

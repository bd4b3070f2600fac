use Rattle.lines.proofs.Seeks.{words_stand}
use Rattle.lines.proofs.words_stand.Goals as goal

pub returns : goal.returns
returns c = words_stand

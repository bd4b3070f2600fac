use Rattle.lines.proofs.Decimals.{number_reads_back}
use Rattle.lines.proofs.number_reads_back.Goals as goal

pub returns : goal.returns
returns c = number_reads_back

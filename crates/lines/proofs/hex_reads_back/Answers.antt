use Rattle.lines.proofs.Pairs.{hex_reads_back}
use Rattle.lines.proofs.hex_reads_back.Goals as goal

pub returns : goal.returns
returns c = hex_reads_back

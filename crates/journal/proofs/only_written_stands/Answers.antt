use Rattle.journal.proofs.One.{one_written}
use Rattle.journal.proofs.Many.{only_written}
use Rattle.journal.proofs.only_written_stands.Goals as goal

pub returns : goal.returns
returns c = record { one = one_written; all = only_written }

use Rattle.outcome.proofs.Appends.{extended_appended, begun_first}
use Rattle.outcome.proofs.logs_stand.Goals as goal

pub returns : goal.returns
returns c = record { extended = extended_appended; begun = begun_first }

use Rattle.journal.specs.Readings.{record_of}
use Rattle.journal.proofs.One.{record_back}
use Rattle.journal.proofs.record_back_stands.Goals as goal

pub returns : goal.returns
returns c =
    record { good = c.record_good.ensures; back = record_back (record_of c.args.held) c.record_good.ensures }

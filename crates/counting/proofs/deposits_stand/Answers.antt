use Rattle.counting.proofs.Firsts.{deposits_read}
use Rattle.counting.proofs.deposits_stand.Goals as goal

pub returns : goal.returns
returns c = deposits_read

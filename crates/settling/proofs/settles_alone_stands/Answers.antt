use Rattle.settling.proofs.Settles.{settles_alone, settles, paid_alone}
use Rattle.settling.proofs.settles_alone_stands.Goals as goal

pub returns : goal.returns
returns c = record { alone = settles_alone; room = settles; paid = paid_alone }

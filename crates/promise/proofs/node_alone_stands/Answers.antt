use Rattle.promise.proofs.Replays.{node_alone}
use Rattle.promise.proofs.node_alone_stands.Goals as goal

pub returns : goal.returns
returns c = node_alone

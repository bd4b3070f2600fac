use Rattle.rules.proofs.Ordered.{messages_ordered, calls_ordered}
use Rattle.rules.proofs.recorded_first_stands.Goals as goal

pub returns : goal.returns
returns c = record { messages = messages_ordered; calls = calls_ordered }

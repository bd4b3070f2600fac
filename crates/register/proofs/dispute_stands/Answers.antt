use Rattle.register.proofs.Laws.{until_stays, higher_shown}
use Rattle.register.proofs.dispute_stands.Goals as goal

pub returns : goal.returns
returns c = record { stays = until_stays; higher = higher_shown }

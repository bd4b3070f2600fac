use Rattle.register.proofs.Laws.{keys_stay}
use Rattle.register.proofs.keys_stand.Goals as goal

pub returns : goal.returns
returns c = keys_stay

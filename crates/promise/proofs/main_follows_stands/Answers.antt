use Rattle.promise.proofs.Follows.{main_from}
use Rattle.promise.proofs.main_follows_stands.Goals as goal

pub returns : goal.returns
returns c = main_from c.never_less_stands.ensures.harder c.no_lock_twice_stands.ensures

use Rattle.std.proofs.Common.{rules}
use Rattle.std.proofs.lemmas.Iterator.{YieldsList-from_slice}
use Rattle.std.proofs.lemmas.Iterator.Search.{all_from_yields_List}
use borrow.Author.Tests.{tests}
use Rattle.register.proofs.Searches.{over, over_told}
use Rattle.register.proofs.payouts.all_over.Goals as goal

pub returns : goal.returns
returns c =
    over_told c.all.result c.args.last c.args.tick c.args.list.now
    (all_from_yields_List (over c.args.last c.args.tick) _ _ c.all.result c.all.ensures.ran (YieldsList-from_slice c.args.list.now cc) (λ x b q k. search (rules, tests)))

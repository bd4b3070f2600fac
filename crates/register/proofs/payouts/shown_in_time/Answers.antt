use Rattle.std.proofs.Common.{rules}
use Rattle.std.proofs.lemmas.Iterator.{YieldsList-from_slice}
use Rattle.std.proofs.lemmas.Iterator.Search.{any_from_yields_List}
use borrow.Author.Tests.{tests}
use Rattle.register.proofs.Searches.{in_time, shown_told}
use Rattle.register.proofs.payouts.shown_in_time.Goals as goal

pub returns : goal.returns
returns c =
    shown_told c.any.result c.args.last c.args.p.now c.args.keys.now
    (any_from_yields_List (in_time c.args.last c.args.p.now) _ _ c.any.result c.any.ensures.ran (YieldsList-from_slice c.args.keys.now cc) (λ x b q k. search (rules, tests)))

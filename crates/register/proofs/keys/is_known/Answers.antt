use Rattle.std.proofs.Common.{rules}
use Rattle.std.proofs.lemmas.Iterator.{YieldsList-from_slice}
use Rattle.std.proofs.lemmas.Iterator.Search.{any_from_yields_List}
use borrow.Author.Tests.{tests}
use Rattle.register.proofs.Searches.{has_key, known_told}
use Rattle.register.proofs.keys.is_known.Goals as goal

pub returns : goal.returns
returns c =
    known_told c.any.result c.args.key.now c.args.keys.now
    (any_from_yields_List (has_key c.args.key.now) _ _ c.any.result c.any.ensures.ran (YieldsList-from_slice c.args.keys.now cc) (λ x b q k. search (rules, tests)))

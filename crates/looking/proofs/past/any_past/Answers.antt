use Rattle.std.proofs.Common.{rules, ◌∙◌, nat_lt}
use Rattle.std.proofs.lemmas.Iterator.{YieldsList-from_slice}
use Rattle.std.proofs.lemmas.Iterator.Search.{any_from_yields_List}
use Rattle.looking.proofs.Searches.{any_past_by_test}
use Rattle.looking.proofs.past.any_past.Goals as goal

pub returns : goal.returns
returns c =
    let xs = c.args.list.now in
    any_from_yields_List (λ p. nat_lt p.end c.args.tick) _ _ _ c.any.ensures.ran (YieldsList-from_slice xs cc) (λ x b q k. search rules)
    ∙ any_past_by_test c.args.tick xs

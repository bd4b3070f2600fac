use Rattle.std.proofs.Common.{rules, ◌∙◌}
use Rattle.std.specs.Str.{bytes_eq}
use Rattle.std.proofs.lemmas.Iterator.{YieldsList-from_slice}
use Rattle.std.proofs.lemmas.Iterator.Search.{any_from_yields_List}
use Rattle.looking.proofs.Searches.{is_among_by_test}
use Rattle.looking.proofs.gathering.is_among.Goals as goal

pub returns : goal.returns
returns c =
    let xs = c.args.keys.now in
    any_from_yields_List (λ k. bytes_eq k c.args.key.now) _ _ _ c.any.ensures.ran (YieldsList-from_slice xs cc) (λ x b q k. search rules)
    ∙ is_among_by_test c.args.key.now xs

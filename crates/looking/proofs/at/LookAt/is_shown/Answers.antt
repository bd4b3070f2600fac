use Rattle.std.proofs.Common.{rules, ◌∙◌}
use Rattle.std.proofs.lemmas.Iterator.{YieldsList-from_slice}
use Rattle.std.proofs.lemmas.Iterator.Search.{any_from_yields_List}
use Rattle.looking.specs.Looking.{is_shown_for}
use Rattle.looking.proofs.Searches.{any_shown_by_test}
use Rattle.looking.proofs.at.LookAt.is_shown.Goals as goal

pub returns : goal.returns
returns c =
    let xs = c.args.self.now.shown.now in
    any_from_yields_List (is_shown_for c.args.self.now.i c.args.key.now) _ _ _ c.any.ensures.ran (YieldsList-from_slice xs cc) (λ x b q k. search rules)
    ∙ any_shown_by_test (is_shown_for c.args.self.now.i c.args.key.now) xs

use Rattle.std.proofs.Common.{rules, ◌∙◌}
use Rattle.std.proofs.lemmas.Iterator.{YieldsList-from_slice}
use Rattle.std.proofs.lemmas.Iterator.Search.{any_from_yields_List}
use Rattle.looking.specs.Looking.{is_dispute}
use Rattle.looking.proofs.Searches.{any_shown_by_test}
use Rattle.looking.proofs.at.LookAt.any_dispute.Goals as goal

pub returns : goal.returns
returns g c =
    λ test answers.
    let xs = c.args.self.now.shown.now in
    any_from_yields_List (is_dispute c.args.self.now.i test) _ _ _ c.any.ensures.ran (YieldsList-from_slice xs cc) (λ x b q k. search rules)
    ∙ any_shown_by_test (is_dispute c.args.self.now.i test) xs

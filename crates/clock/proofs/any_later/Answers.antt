use Rattle.std.proofs.Common.{rules, ◌∙◌, ap}
use Rattle.std.proofs.lemmas.Iterator.{YieldsList-from_slice}
use Rattle.std.proofs.lemmas.Iterator.Search.{any_from_yields_List}
use Rattle.account.specs.Accounts.{standing_of}
use Rattle.clock.specs.Clocks.{is_later, any_later}
use Rattle.clock.proofs.Later.{any_by_test}
use Rattle.clock.proofs.any_later.Goals as goal

pub returns : goal.returns
returns c =
    let xs = c.accounts.result.now in
    any_from_yields_List (λ a. is_later (standing_of a).looked c.args.tick) _ _ _ c.any.ensures.ran (YieldsList-from_slice xs cc) (λ x b q k. search rules)
    ∙ any_by_test c.args.tick xs
    ∙ ap (λ l. any_later l c.args.tick) c.accounts.ensures.value

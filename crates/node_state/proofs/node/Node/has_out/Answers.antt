use Rattle.std.proofs.Common.{rules, ◌≡◌, ◌∙◌, refl}
use Rattle.std.proofs.lemmas.Iterator.{YieldsList-from_slice}
use Rattle.std.proofs.lemmas.Iterator.Search.{any_from_yields_List}
use Rattle.account.specs.Accounts.{standing_of, on_either}
use Rattle.node_state.proofs.Anywhere.{any_by_test}
use Rattle.node_state.proofs.node.Node.has_out.Goals as goal

pub returns : goal.returns
returns c =
    let xs = c.args.self.now.accounts.items in
    any_from_yields_List (λ a. on_either (λ s. s.outs) (standing_of a) c.args.lock.now) _ _ _ c.any.ensures.ran (YieldsList-from_slice xs cc) (λ x b q k. search rules)
    ∙ any_by_test (λ s. s.outs) c.args.lock.now xs

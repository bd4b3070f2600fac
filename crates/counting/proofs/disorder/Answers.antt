use Rattle.std.proofs.Common.{rules}
use Rattle.std.proofs.lemmas.Iterator.{YieldsList-from_slice, IsFirst-from_position}
use Rattle.node_state.specs.Nodes.{state_of}
use Rattle.counting.proofs.Searched.{In, Out, first_found}
use Rattle.counting.proofs.disorder.Goals as goal

pub returns : goal.returns
returns c =
    let xs = c.accounts.result.now in
    first_found (state_of c.args.node.now) xs c.accounts.ensures.value c.position.result (IsFirst-from_position _ _ _ Out In c.position.ensures.ran (YieldsList-from_slice xs cc) (λ x q k. search rules) (λ x q k. search rules))

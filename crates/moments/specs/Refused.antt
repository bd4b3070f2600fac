-- Whatever is refused, by whatever number, does nothing and changes nothing. Assumes nothing.
use Rattle.std.specs.Prelude.{◌≡◌, [], Err}
use Rattle.refusal.specs.declared.Refusal.{Refusal}
use Rattle.node_state.specs.Nodes.{NodeState}
use Rattle.outcome.specs.Records.{acted_all}
use Rattle.moments.specs.Runs.{Entry, outcome_of}

abbrev pub RefusedUnchanged : Type 0
RefusedUnchanged =
    (n : NodeState) (e : Entry) (refusal : Refusal) → (outcome_of n e).answer ≡ Err refusal → ((outcome_of n e).acts ≡ []) × (acted_all (outcome_of n e).acts n ≡ n)

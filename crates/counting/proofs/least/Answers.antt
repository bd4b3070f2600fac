use Rattle.std.proofs.Common.{ℕ, sym, subst}
use Rattle.node_state.specs.Nodes.{state_of}
use Rattle.counting.specs.Outcomes.{IsLeast}
use Rattle.counting.proofs.Lowest.{found_is_least}
use Rattle.counting.proofs.least.Goals as goal

pub returns-in-None : goal.returns-in-None
returns-in-None c =
    record {
      value = (c.in-None.ensures, c.found.ensures.value, subst (λ (w : ℕ). IsLeast (state_of c.args.node.now) w) (sym c.found.ensures.value) (found_is_least (state_of c.args.node.now) c.in-None.ensures));
      bound = c.found.ensures.bound;
    }

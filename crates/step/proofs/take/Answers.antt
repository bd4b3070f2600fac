use Rattle.node_state.specs.Nodes.{state_of}
use Rattle.step.proofs.Continuing.{continues}
use Rattle.step.proofs.take.Goals as goal

pub returns : goal.returns
returns g c =
    record {
      done = c.done.ensures;
      continues = continues c.args.request.now (state_of c.args.node.now) (g.O.Outside.log c.args.outside.now) c.done.result (state_of c.done.new.node) (g.O.Outside.log c.done.new.outside) c.done.ensures;
    }

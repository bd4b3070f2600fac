use Rattle.std.proofs.Common.{◌∙◌}
use Rattle.node_state.specs.Nodes.{state_of}
use Rattle.looking.proofs.Searches.{earlier_by_later}
use Rattle.looking.proofs.ticks.is_earlier.Goals as goal

pub returns : goal.returns
returns c = c.any_later.ensures ∙ earlier_by_later c.args.tick (state_of c.args.node.now).accounts

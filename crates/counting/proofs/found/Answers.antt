use Rattle.std.proofs.Common.{ℕ, List, map, take, ap, ◌∙◌}
use Rattle.sheet.specs.Contents.{Content, content_of}
use Rattle.node_state.specs.Nodes.{state_of}
use Rattle.judgement.specs.Tests.{has_key}
use Rattle.counting.specs.Leasts.{least_by}
use Rattle.counting.proofs.found.Goals as goal

pub returns : goal.returns
returns c =
    record {
      value =
          c.total.ensures.value
          ∙ ap (λ (cs : List Content). least_by (has_key (state_of c.args.node.now)) cs)
          (ap (λ (k : ℕ). map content_of (take k c.lesser_sheets-sheets.result)) c.many.ensures.value ∙ c.lesser_sheets-sheets.ensures.value);
      bound = c.total.ensures.bound;
    }

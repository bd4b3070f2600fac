use Rattle.std.proofs.Common.{◌∙◌}
use Rattle.proposal.proofs.Missing.{missing_told, lent}
use Rattle.proposal.proofs.removals.missing.Goals as goal

pub returns : goal.returns
returns c =
    missing_told c.copied.result c.args.held.now c.args.proposed.now c.alike.result (c.copied.ensures ∙ lent c.args.held.now c.alike.result c.get.result c.get.ensures.lookup)
    c.alike.ensures

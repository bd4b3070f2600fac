use Rattle.moments.proofs.Refused.{refused_unchanged}
use Rattle.moments.proofs.refused_unchanged_stands.Goals as goal

pub returns : goal.returns
returns c = refused_unchanged

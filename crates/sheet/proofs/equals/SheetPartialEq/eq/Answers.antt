use Rattle.std.proofs.Common.{rules}
use Rattle.sheet.proofs.Equalities.{content_told}
use Rattle.sheet.proofs.equals.SheetPartialEq.eq.Goals as goal

pub returns-then-eq-clause-same : goal.returns-then-eq-clause-same
returns-then-eq-clause-same c = content_told _ _ _ (search rules)

pub returns-else-eq-clause-same : goal.returns-else-eq-clause-same
returns-else-eq-clause-same c = content_told _ _ _ (search rules)

use Rattle.sheet.proofs.Equalities.{payment_eq_decides, content_eq_decides}
use Rattle.sheet.proofs.equal_is_same_stands.Goals as goal

pub returns : goal.returns
returns c = (payment_eq_decides, content_eq_decides)

-- The tests of equality are right.
use Rattle.std.proofs.Common.{◌≡◌, List, Decides, refl}
use Rattle.std.proofs.lemmas.Slice.Eq.{slice_eq-Decides}
use Rattle.sheet.specs.declared.types.Payment.{Payment}
use Rattle.sheet.specs.Contents.{Content}
use Rattle.sheet.proofs.Equalities.{payment_eq_decides, content_eq_decides}
use Rattle.proposal.specs.Sames.{same_payment, same_payments, same_content}

pub same_payment_decides : (p q : Payment) → Decides (same_payment p q) (p ≡ q)
same_payment_decides = payment_eq_decides

pub same_payments_decides : (ps qs : List Payment) → Decides (same_payments ps qs) (ps ≡ qs)
same_payments_decides ps qs = slice_eq-Decides payment_eq_decides ps qs (same_payments ps qs) refl

pub same_content_decides : (s t : Content) → Decides (same_content s t) (s ≡ t)
same_content_decides = content_eq_decides

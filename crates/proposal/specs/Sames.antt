-- Tests of equality, as == answers them: of two payments, of two lists of them, of two sheets by what they mean. Assumes nothing.
use Rattle.std.specs.Prelude.{Bool, List}
use Rattle.std.specs.Cmp.Lexicographic.{pointwise}
use Rattle.sheet.specs.declared.types.Payment.{Payment}
use Rattle.sheet.specs.Contents.{Content, payment_eq, content_eq}

-- The same lock, amount and end.
abbrev pub same_payment : Payment → Payment → Bool
same_payment = payment_eq

-- As many payments, and the same at each place.
abbrev pub same_payments : List Payment → List Payment → Bool
same_payments = pointwise payment_eq

-- The same account, number, amounts and payments.
abbrev pub same_content : Content → Content → Bool
same_content = content_eq

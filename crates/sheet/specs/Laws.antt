-- What == answers of two sheets is symmetric, and holds along a chain. Assumes nothing.
use Rattle.std.specs.Prelude.{nat_eq}
use Rattle.std.specs.Cmp.{IsPartialEquivalence, on_per, and_per, partial_equiv_from_equiv, nat_eq_equiv}
use Rattle.std.specs.Cmp.Lexicographic.{lists_per}
use Rattle.std.specs.Ordering.{on}
use Rattle.sheet.specs.declared.types.Payment.{Payment}
use Rattle.sheet.specs.Contents.{Content, content_of, payment_eq, content_eq}

pub nat_eq_laws : IsPartialEquivalence nat_eq
nat_eq_laws = partial_equiv_from_equiv nat_eq_equiv

-- The same of two payments.
pub payment_eq_laws : IsPartialEquivalence payment_eq
payment_eq_laws = and_per (on_per (λ (p : Payment). p.lock) (lists_per nat_eq_laws)) (and_per (on_per (λ (p : Payment). p.amount) nat_eq_laws) (on_per (λ (p : Payment). p.end) nat_eq_laws))

pub content_eq_laws : IsPartialEquivalence content_eq
content_eq_laws =
    and_per
    (and_per
    (and_per
    (and_per (and_per (on_per (λ (s : Content). s.account) nat_eq_laws) (on_per (λ (s : Content). s.number) nat_eq_laws)) (on_per (λ (s : Content). s.own) nat_eq_laws))
    (on_per (λ (s : Content). s.theirs) nat_eq_laws))
    (on_per (λ (s : Content). s.ins) (lists_per payment_eq_laws)))
    (on_per (λ (s : Content). s.outs) (lists_per payment_eq_laws))

pub sheet_eq_laws : IsPartialEquivalence (on content_of content_eq)
sheet_eq_laws = on_per content_of content_eq_laws

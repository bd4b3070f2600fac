-- Two payments, or the contents of two sheets, are the same if all their parts are.
use Rattle.std.proofs.Common.{◌≡◌, Bool, ◌&&◌, Decides, refl, ap}
use Rattle.std.proofs.lemmas.Slice.Eq.{slice_eq-Decides, bytes_eq-Decides}
use Rattle.std.proofs.lemmas.Bool.Decides.{Decides-and, Decides-at, Decides-like, Decides-eqb}
use Rattle.sheet.specs.declared.types.Payment.{Payment}
use Rattle.sheet.specs.Contents.{Content, payment_eq, content_eq}

pub payment_decides : (a b : Payment) (x y z : Bool) → Decides x (a.lock ≡ b.lock) → Decides y (a.amount ≡ b.amount) → Decides z (a.end ≡ b.end) → Decides (x && (y && z)) (a ≡ b)
payment_decides a b x y z dx dy dz =
    Decides-like _ (λ h. joined h.0 h.1.0 h.1.1) (λ e. (ap (λ p. p.lock) e, (ap (λ p. p.amount) e, ap (λ p. p.end) e))) (Decides-and _ _ dx (Decides-and _ _ dy dz))
  where
    joined : a.lock ≡ b.lock → a.amount ≡ b.amount → a.end ≡ b.end → a ≡ b
    joined l m n = let whole : ◌≡◌ {A = Payment} (record { lock = a.lock; amount = a.amount; end = a.end }) (record { lock = b.lock; amount = b.amount; end = b.end }) = cc in whole

module _ (a b : Content) where
  content_joined : a.account ≡ b.account → a.number ≡ b.number → a.own ≡ b.own → a.theirs ≡ b.theirs → a.ins ≡ b.ins → a.outs ≡ b.outs → a ≡ b
  content_joined k n o t i u =
      let whole : ◌≡◌ {A = Content} (record { account = a.account; number = a.number; own = a.own; theirs = a.theirs; ins = a.ins; outs = a.outs }) (record { account = b.account; number = b.number; own = b.own; theirs = b.theirs; ins = b.ins; outs = b.outs }) = cc in
      whole

  pub content_decides : (k n o t i u : Bool) → Decides k (a.account ≡ b.account) → Decides n (a.number ≡ b.number) → Decides o (a.own ≡ b.own) → Decides t (a.theirs ≡ b.theirs) → Decides i (a.ins ≡ b.ins) → Decides u (a.outs ≡ b.outs) → Decides (((((k && n) && o) && t) && i) && u) (a ≡ b)
  content_decides k n o t i u dk dn do' dt di du =
      Decides-like _ (λ h. content_joined h.0.0.0.0.0 h.0.0.0.0.1 h.0.0.0.1 h.0.0.1 h.0.1 h.1)
      (λ e. (((((ap (λ s. s.account) e, ap (λ s. s.number) e), ap (λ s. s.own) e), ap (λ s. s.theirs) e), ap (λ s. s.ins) e), ap (λ s. s.outs) e))
      (Decides-and _ _ (Decides-and _ _ (Decides-and _ _ (Decides-and _ _ (Decides-and _ _ dk dn) do') dt) di) du)

pub payment_eq_decides : (a b : Payment) → Decides (payment_eq a b) (a ≡ b)
payment_eq_decides a b = payment_decides a b _ _ _ (bytes_eq-Decides a.lock b.lock) (Decides-eqb _ _) (Decides-eqb _ _)

pub content_eq_decides : (a b : Content) → Decides (content_eq a b) (a ≡ b)
content_eq_decides a b =
    content_decides a b _ _ _ _ _ _ (Decides-eqb _ _) (Decides-eqb _ _) (Decides-eqb _ _) (Decides-eqb _ _)
    (slice_eq-Decides payment_eq_decides a.ins b.ins _ refl) (slice_eq-Decides payment_eq_decides a.outs b.outs _ refl)

-- what == answers is whether two contents are the same
pub content_told : (r : Bool) (a b : Content) → r ≡ content_eq a b → Decides r (a ≡ b)
content_told r a b e = Decides-at r _ e (content_eq_decides a b)

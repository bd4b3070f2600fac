-- Accounts by their numbers: what one change of the list makes of each.
use Rattle.std.proofs.Common.{◌≡◌, ℕ, zero, suc, ◌+◌, Bool, true, false, cond, ◌⊎◌, List, [], ◌∷◌, length, get_or, set, is_some, Some, None, Option, sym, refl, ap, ◌∙◌, subst, inl, inr, arith}
use Rattle.std.proofs.lemmas.List.{get_or-set_same, get_or-set_other, set_past}
use Rattle.std.proofs.lemmas.Bool.{cases_lt, cases_eq, or_parts}
use Rattle.std.proofs.lemmas.Slice.Eq.{bytes_eq-Decides}
use Rattle.std.specs.Str.{bytes_eq}
use Rattle.sheet.specs.declared.types.Payment.{Payment}
use Rattle.sheet.specs.Contents.{Content, found}
use Rattle.account.specs.Accounts.{Standing, signed_of, on_next, on_either}
use Rattle.change.specs.Follows.{NotAmong}
use Rattle.change.proofs.Standing.{none_some, same_some, found_none}
use Rattle.lockmap.specs.Maps.{with_at}
use Rattle.node_state.specs.Nodes.{any_has}
use Rattle.moments.specs.Runs.{each_of}
use Rattle.moments.specs.Moments.{Counts}
use Rattle.moments.specs.Moves.{SameSheets}

-- one account is put
pub at_put : (P : ℕ → Standing → Type 0) (list : List Standing) (i : ℕ) (v d : Standing) → P i v → ((k : ℕ) → P k (get_or list k d)) → (k : ℕ) → P k (get_or (set list i v) k d)
at_put P list i v d new old k =
    elim (cases_eq k i) [
      | inl e ↦ elim (cases_lt i (length list)) [
        | inl l ↦ subst (λ (x : ℕ). P x (get_or (set list i v) x d)) (sym e) (subst (λ (a : Standing). P i a) (sym (get_or-set_same list i v d l)) new)
        | inr l ↦ subst (λ (zs : List Standing). P k (get_or zs k d)) (sym (set_past list i v l)) (old k)
      ]
      | inr ne ↦ subst (λ (a : Standing). P k a) (sym (get_or-set_other list i k v d ne)) (old k)
    ]

-- each account keeps its sheets
pub at_each : (f : ℕ → Standing → Standing) → ((k : ℕ) (a : Standing) → SameSheets a (f k a)) → (d : Standing) (list : List Standing) (i k : ℕ) → SameSheets (get_or list k d) (get_or (each_of f i list) k d)
at_each f same d [] i k = (refl, refl)
at_each f same d (a ∷ list) i zero = same i a
at_each f same d (a ∷ list) i (suc k) = at_each f same d list (i + 1) k

pub each_length : (f : ℕ → Standing → Standing) (list : List Standing) (i : ℕ) → length (each_of f i list) ≡ length list
each_length f [] i = refl
each_length f (a ∷ list) i = ap suc (each_length f list (i + 1))

-- sheets that may count
pub counts_same : (a b : Standing) (s : Content) → SameSheets a b → Counts b s → Counts a s
counts_same a b s e (inl h) = inl (sym e.0 ∙ h)
counts_same a b s e (inr h) = inr (sym e.1 ∙ h)

pub counts_signed : (a : Standing) (s r : Content) → Counts (signed_of a s) r → Counts a r ⊎ (r ≡ s)
counts_signed a s r (inl h) = inl (inl h)
counts_signed a s r (inr h) = inr (sym (same_some h))

-- a lock that stands nowhere
pub is_none : {X : Type 0} (o : Option X) → is_some o ≡ false → o ≡ None
is_none None e = refl
is_none (Some x) e = let z : ◌≡◌ {A = ℕ} 0 1 = cc in absurd (omega arith)

pub not_none : false ≡ true → ⊥
not_none e = let z : ◌≡◌ {A = ℕ} 0 1 = cc in absurd (omega arith)

next_none : (side : Content → List Payment) (o : Option Content) (lock : List ℕ) (s : Content) → on_next side o lock ≡ false → o ≡ Some s → NotAmong lock (side s)
next_none side None lock s e f = absurd (none_some f)
next_none side (Some t) lock s e f = subst (λ (z : Content). NotAmong lock (side z)) (same_some f) (found_none lock (side t) (is_none (found lock (side t)) e))

pub either_none : (side : Content → List Payment) (a : Standing) (lock : List ℕ) (s : Content) → on_either side a lock ≡ false → Counts a s → NotAmong lock (side s)
either_none side a lock s e (inl h) =
    subst (λ (z : Content). NotAmong lock (side z)) h (found_none lock (side a.held) (is_none (found lock (side a.held)) (or_parts (is_some (found lock (side a.held))) (on_next side a.next lock) e).0))
either_none side a lock s e (inr h) = next_none side a.next lock s (or_parts (is_some (found lock (side a.held))) (on_next side a.next lock) e).1 h

pub any_none : (side : Content → List Payment) (list : List Standing) (lock : List ℕ) (d : Standing) → on_either side d lock ≡ false → any_has side list lock ≡ false → (k : ℕ) → on_either side (get_or list k d) lock ≡ false
any_none side [] lock d e h k = e
any_none side (a ∷ list) lock d e h zero = (or_parts (on_either side a lock) (any_has side list lock) h).0
any_none side (a ∷ list) lock d e h (suc k) = any_none side list lock d e (or_parts (on_either side a lock) (any_has side list lock) h).1 k

-- what is noted of one lock leaves what was known of others
pub noted_keeps : {X : Type 0} (lock : List ℕ) (x : X) (known : List ℕ → Option X) → known lock ≡ None → (l : List ℕ) (y : X) → known l ≡ Some y → with_at known lock x l ≡ Some y
noted_keeps lock x known none l y e = by (bytes_eq l lock) refl
  where
    by : (b : Bool) → bytes_eq l lock ≡ b → cond b (Some x) (known l) ≡ Some y
    by true f = absurd (none_some (sym none ∙ ap known (sym ((bytes_eq-Decides l lock).0 f)) ∙ e))
    by false f = e

pub noted_new : {X : Type 0} (lock : List ℕ) (x : X) (known : List ℕ → Option X) → with_at known lock x lock ≡ Some x
noted_new lock x known = ap (λ (b : Bool). cond b (Some x) (known lock)) ((bytes_eq-Decides lock lock).1 refl)

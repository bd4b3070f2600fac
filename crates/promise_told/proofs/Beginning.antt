-- The beginning has the invariant about time.
use Rattle.std.proofs.Common.{◌≡◌, ℕ, zero, suc, ◌+◌, ◌<◌, ◌≤◌, List, [], ◌∷◌, length, get_or, sym, refl, ap, ◌∙◌, subst, inl, inr, arith}
use Rattle.sheet.specs.declared.types.Payment.{Payment}
use Rattle.sheet.specs.Contents.{Content, first_of}
use Rattle.account.specs.Accounts.{Standing, opened_of}
use Rattle.schedule.specs.declared.types.Terms.{Terms}
use Rattle.node_state.specs.Nodes.{account_at}
use Rattle.change.proofs.Standing.{none_some}
use Rattle.moments.specs.Runs.{Deposit, deposit_at, opened_all, start_of}
use Rattle.moments.specs.Moments.{Counts, In, Out, Stands}
use Rattle.promise_told.specs.World.{first_signed, beginning}
use Rattle.promise_told.proofs.Safe.{WasSigned, Safe, Timely}

-- the accounts at the start, and what was signed by then
opened_at : (ds : List Deposit) (j i : ℕ) (d : Standing) → i < length ds → get_or (opened_all j ds) i d ≡ opened_of (first_of (j + i) (deposit_at ds i).own (deposit_at ds i).theirs)
opened_at [] j i d l = absurd (omega arith)
opened_at (x ∷ ds) j zero d l =
    let e : j ≡ j + 0 = omega arith in
    ap (λ (k : ℕ). opened_of (first_of k x.own x.theirs)) e
opened_at (x ∷ ds) j (suc i) d l =
    let e : j + 1 + i ≡ j + suc i = omega arith in
    opened_at ds (j + 1) i d (omega arith) ∙ ap (λ (k : ℕ). opened_of (first_of k (deposit_at ds i).own (deposit_at ds i).theirs)) e

first_there : (ds : List Deposit) (j i : ℕ) → i < length ds → WasSigned (j + i) (first_of (j + i) (deposit_at ds i).own (deposit_at ds i).theirs) (first_signed j ds)
first_there [] j i l = absurd (omega arith)
first_there (x ∷ ds) j zero l =
    let e : j ≡ j + 0 = omega arith in
    inl (e, ap (λ (k : ℕ). first_of k x.own x.theirs) e)
first_there (x ∷ ds) j (suc i) l =
    let e : j + 1 + i ≡ j + suc i = omega arith in
    inr (subst (λ (k : ℕ). WasSigned k (first_of k (deposit_at ds i).own (deposit_at ds i).theirs) (first_signed (j + 1) ds)) e (first_there ds (j + 1) i (omega arith)))

-- each stands at its own account's place
first_later : (ds : List Deposit) (j i : ℕ) (s : Content) → WasSigned i s (first_signed j ds) → j ≤ i
first_later [] j i s m = absurd m
first_later (x ∷ ds) j i s (inl h) =
    let e : j ≡ i = h.0 in
    omega arith
first_later (x ∷ ds) j i s (inr m) = omega (arith, first_later ds (j + 1) i s m)

first_only : (ds : List Deposit) (j i : ℕ) (s : Content) → WasSigned (j + i) s (first_signed j ds) → first_of (j + i) (deposit_at ds i).own (deposit_at ds i).theirs ≡ s
first_only [] j i s m = absurd m
first_only (x ∷ ds) j zero s (inl h) =
    let e : j + 0 ≡ j = omega arith in
    ap (λ (k : ℕ). first_of k x.own x.theirs) e ∙ h.1
first_only (x ∷ ds) j zero s (inr m) = absurd (omega (arith, first_later ds (j + 1) (j + 0) s m))
first_only (x ∷ ds) j (suc i) s (inl h) =
    let e : j ≡ j + suc i = h.0 in
    absurd (omega arith)
first_only (x ∷ ds) j (suc i) s (inr m) =
    let e : j + suc i ≡ j + 1 + i = omega arith in
    subst (λ (k : ℕ). first_of k (deposit_at ds i).own (deposit_at ds i).theirs ≡ s) (sym e) (first_only ds (j + 1) i s (subst (λ (k : ℕ). WasSigned k s (first_signed (j + 1) ds)) e m))

pub beginning_timely : (terms : Terms) (ds : List Deposit) → Timely ds (beginning terms ds)
beginning_timely terms ds =
    record {
      not_late = omega arith;
      recent = omega arith;
      coming = λ x m. absurd m;
      sent_since = λ x m. absurd m;
      keys = λ lock key e. absurd (none_some e);
      through = λ i c l inn from b. absurd (no_ins i c l inn);
      key_ticks = λ j k m. absurd m;
      safe = safe;
    }
  where
    at : (i : ℕ) → i < length ds → account_at (start_of terms ds).node i ≡ opened_of (first_of (0 + i) (deposit_at ds i).own (deposit_at ds i).theirs)
    at i l = opened_at ds 0 i (opened_of (first_of 0 0 0)) l

    zero_plus : (i : ℕ) → 0 + i ≡ i
    zero_plus i = omega arith

    none_on : (i : ℕ) (a : Standing) (side : Content → List Payment) (x : Payment) → a ≡ opened_of (first_of (0 + i) (deposit_at ds i).own (deposit_at ds i).theirs) → side (first_of (0 + i) (deposit_at ds i).own (deposit_at ds i).theirs) ≡ [] →
        (s : Content) → Counts a s → Stands x (side s) → ⊥
    none_on i a side x e none s (inl h) m = subst (λ (l : List Payment). Stands x l) (ap side (sym h ∙ ap (λ (z : Standing). z.held) e) ∙ none) m
    none_on i a side x e none s (inr h) m = none_some (sym (ap (λ (z : Standing). z.next) e) ∙ h)

    no_ins : (i : ℕ) (c : Payment) → i < length ds → In (start_of terms ds).node i c → ⊥
    no_ins i c l (s, h, m) = none_on i (account_at (start_of terms ds).node i) (λ z. z.ins) c (at i l) refl s h m

    no_outs : (i : ℕ) (c : Payment) → i < length ds → Out (start_of terms ds).node i c → ⊥
    no_outs i c l (s, h, m) = none_on i (account_at (start_of terms ds).node i) (λ z. z.outs) c (at i l) refl s h m

    safe : (i : ℕ) → i < length ds → Safe (beginning terms ds) i
    safe i l =
        let e = at i l in
        let held = ap (λ (z : Standing). z.held) e in
        record {
          state = inl (record { unsent = ap (λ (z : Standing). z.sent) e; undisputed = ap (λ (z : Standing). z.disputed) e; nothing = λ s by m. absurd m; outs = λ x out. absurd (no_outs i x l out) });
          only_held = λ s by m. absurd m;
          signed = λ s m. inr (inl (held ∙ first_only ds 0 i s (subst (λ (k : ℕ). WasSigned k s (first_signed 0 ds)) (sym (zero_plus i)) m)));
          held_signed = subst (λ (h : Content). WasSigned i h (first_signed 0 ds)) (sym held)
              (subst (λ (k : ℕ). WasSigned k (first_of (0 + i) (deposit_at ds i).own (deposit_at ds i).theirs) (first_signed 0 ds)) (zero_plus i) (first_there ds 0 i l));
          next_signed = λ s h. absurd (none_some (sym (ap (λ (z : Standing). z.next) e) ∙ h));
          sent_seen = λ x h. absurd (none_some (sym (ap (λ (z : Standing). z.sent) e) ∙ h));
          looked = λ t h. absurd (none_some (sym (ap (λ (z : Standing). z.looked) e) ∙ h));
        }

-- A message or a call, and any first part of its acts, keeps the invariant about time.
use Rattle.std.proofs.Common.{◌≡◌, ℕ, ◌+◌, ◌<◌, ◌≤◌, Bool, true, false, ◌⊎◌, List, [], ◌∷◌, ◌++◌, length, get_or, set, Some, None, Option, sym, refl, ap, ◌∙◌, subst, inl, inr, arith}
use Rattle.std.proofs.lemmas.List.{get_or-set_same, get_or-set_other}
use Rattle.std.proofs.lemmas.Bool.{cases_eq, cond_both}
use Rattle.std.proofs.lemmas.Slice.Eq.{bytes_eq-Decides}
use Rattle.std.specs.Str.{bytes_eq}
use Rattle.sheet.specs.declared.types.Payment.{Payment}
use Rattle.sheet.specs.Contents.{Content, first_of}
use Rattle.digest.specs.Sha256.{sha256}
use Rattle.account.specs.Accounts.{Standing, is_frozen, opened_of, signed_of, held_of}
use Rattle.change.proofs.Standing.{none_some, same_some}
use Rattle.lockmap.specs.Maps.{with_at}
use Rattle.node_state.specs.declared.types.Route.{Route}
use Rattle.node_state.specs.Nodes.{NodeState, account_at}
use Rattle.moments.specs.Runs.{Deposit}
use Rattle.moments.specs.Moments.{Counts, Stands, In, Out, is_from}
use Rattle.moments.specs.Moves.{Ready}
use Rattle.moments.proofs.Places.{counts_signed}
use Rattle.promise_told.specs.World.{World, Signed, node_of, terms_of}
use Rattle.promise_told.specs.Main.{Bound}
use Rattle.promise_told.proofs.Safe.{WasSigned, Safe, Through, Timely}
use Rattle.promise_told.proofs.Steps.{entered, open_outs, Changed, Step, same, changes, entered_timely}

-- what was signed, and one more
signed_old : (l m : List Signed) (i : ℕ) (s : Content) → WasSigned i s l → WasSigned i s (l ++ m)
signed_old [] m i s h = absurd h
signed_old (x ∷ l) m i s (inl h) = inl h
signed_old (x ∷ l) m i s (inr h) = inr (signed_old l m i s h)

signed_new : (l m : List Signed) (i : ℕ) (s : Content) → WasSigned i s m → WasSigned i s (l ++ m)
signed_new [] m i s h = h
signed_new (x ∷ l) m i s h = inr (signed_new l m i s h)

signed_either : (l m : List Signed) (i : ℕ) (s : Content) → WasSigned i s (l ++ m) → WasSigned i s l ⊎ WasSigned i s m
signed_either [] m i s h = inr h
signed_either (x ∷ l) m i s (inl h) = inl (inl h)
signed_either (x ∷ l) m i s (inr h) = go (signed_either l m i s h)
  where
    go : WasSigned i s l ⊎ WasSigned i s m → WasSigned i s (x ∷ l) ⊎ WasSigned i s m
    go (inl q) = inl (inr q)
    go (inr q) = inr q

module _ (ds : List Deposit) (w : World) (t : Timely ds w) (many : length (node_of w).accounts ≡ length ds) where
  abbrev n : NodeState
  n = node_of w

  at : ℕ → Standing
  at i = account_at n i

  there : (i : ℕ) → i < length n.accounts → i < length ds
  there i l = omega (arith, many)

  -- a sheet is signed as the next of account j
  module _ (j : ℕ) (s : Content) (paid : List (List ℕ)) (ready : Ready n j) (higher : s.number ≡ (account_at n j).held.number + 1)
      (outs-new : (x : Payment) → Stands x s.outs → Stands x (account_at n j).held.outs ⊎ (w.due ≤ x.end + (terms_of w).look))
      (ins-new : (c : Payment) → Stands c s.ins → Stands c (account_at n j).held.ins ⊎ (n.route_of c.lock ≡ None))
      (bound-back : (i : ℕ) (c : Payment) → In n i c → Bound (entered w n.accounts n.key_of n.route_of paid w.signed) (length ds) c → Bound w (length ds) c ⊎ (w.due + (terms_of w).delay ≤ c.end)) where
    abbrev more : List Signed
    more = w.signed ++ record { account = j; sheet = s } ∷ []

    abbrev list : List Standing
    list = set n.accounts j (signed_of (account_at n j) s)

    now_at : get_or list j (opened_of (first_of 0 0 0)) ≡ signed_of (account_at n j) s
    now_at = get_or-set_same n.accounts j (signed_of (account_at n j) s) (opened_of (first_of 0 0 0)) ready.there

    safe_j : Safe w j
    safe_j = t.safe j (there j ready.there)

    old_outs : (x : Payment) → Out n j x → w.due ≤ x.end + (terms_of w).look
    old_outs x out = open_outs w j (w.pages j).phase safe_j.state ready.unfrozen x out

    changed : Changed w (signed_of (account_at n j) s) more j
    changed =
        record {
          unfrozen = ready.unfrozen;
          looked = refl;
          disputed = refl;
          sent = refl;
          outs = λ x r c m. outs x r (counts_signed (account_at n j) s r c) m;
          was_signed = λ r m. was r (signed_either w.signed (record { account = j; sheet = s } ∷ []) j r m);
          held_signed = signed_old w.signed (record { account = j; sheet = s } ∷ []) j (account_at n j).held safe_j.held_signed;
          next_signed = λ r e. signed_new w.signed (record { account = j; sheet = s } ∷ []) j r (inl (refl, same_some e));
        }
      where
        on_new : (x : Payment) → Stands x (account_at n j).held.outs ⊎ (w.due ≤ x.end + (terms_of w).look) → w.due ≤ x.end + (terms_of w).look
        on_new x (inl m) = old_outs x ((account_at n j).held, inl refl, m)
        on_new x (inr l) = l

        outs : (x : Payment) (r : Content) → Counts (account_at n j) r ⊎ (r ≡ s) → Stands x r.outs → w.due ≤ x.end + (terms_of w).look
        outs x r (inl c) m = old_outs x (r, c, m)
        outs x r (inr e) m = on_new x (outs-new x (subst (λ (z : Content). Stands x z.outs) e m))

        old_was : (r : Content) → (r.number < (account_at n j).held.number) ⊎ Counts (account_at n j) r → (r.number < (account_at n j).held.number) ⊎ Counts (signed_of (account_at n j) s) r
        old_was r (inl l) = inl l
        old_was r (inr (inl e)) = inr (inl e)
        old_was r (inr (inr e)) = absurd (none_some (sym ready.still ∙ e))

        was : (r : Content) → WasSigned j r w.signed ⊎ WasSigned j r (record { account = j; sheet = s } ∷ []) → (r.number < (account_at n j).held.number) ⊎ Counts (signed_of (account_at n j) s) r
        was r (inl m) = old_was r (safe_j.signed r m)
        was r (inr (inl e)) = inr (inr (ap Some e.1))
        was r (inr (inr m)) = absurd m

    each : (i : ℕ) → i < length ds → Step w (get_or list i (opened_of (first_of 0 0 0))) more i
    each i l = by (cases_eq i j)
      where
        only_j : (r : Content) → (i ≡ j → ⊥) → WasSigned i r w.signed ⊎ WasSigned i r (record { account = j; sheet = s } ∷ []) → WasSigned i r w.signed
        only_j r ne (inl m) = m
        only_j r ne (inr (inl e)) = absurd (ne (sym e.0))
        only_j r ne (inr (inr m)) = absurd m

        by : (i ≡ j) ⊎ (i ≡ j → ⊥) → Step w (get_or list i (opened_of (first_of 0 0 0))) more i
        by (inl e) =
            subst (λ (k : ℕ). Step w (get_or list k (opened_of (first_of 0 0 0))) more k) (sym e)
            (subst (λ (b : Standing). Step w b more j) (sym now_at) (changes changed))
        by (inr ne) =
            same (get_or-set_other n.accounts j i (signed_of (account_at n j) s) (opened_of (first_of 0 0 0)) ne)
            (λ r m. only_j r ne (signed_either w.signed (record { account = j; sheet = s } ∷ []) i r m))

    pub signed_timely : Timely ds (entered w list n.key_of n.route_of paid more)
    signed_timely =
        entered_timely w list n.key_of n.route_of paid more (λ i r m. signed_old w.signed (record { account = j; sheet = s } ∷ []) i r m) ds each t.keys
        (λ i c l inn from b. carried i c l (was_in i c inn (cases_eq i j)) from b) t
      where
        off : (i : ℕ) (c : Payment) → n.route_of c.lock ≡ None → is_from i (n.route_of c.lock) ≡ true → ⊥
        off i c e from =
            let f : ◌≡◌ {A = Bool} false true = sym (ap (is_from i) e) ∙ from in
            let z : ◌≡◌ {A = ℕ} 0 1 = cc in
            omega arith

        on_s : (i : ℕ) (c : Payment) → Stands c (account_at n j).held.ins ⊎ (n.route_of c.lock ≡ None) → In n j c ⊎ (n.route_of c.lock ≡ None)
        on_s i c (inl m) = inl ((account_at n j).held, inl refl, m)
        on_s i c (inr e) = inr e

        at_j : (c : Payment) (r : Content) → Counts (account_at n j) r ⊎ (r ≡ s) → Stands c r.ins → In n j c ⊎ (n.route_of c.lock ≡ None)
        at_j c r (inl q) m = inl (r, q, m)
        at_j c r (inr e) m = on_s j c (ins-new c (subst (λ (z : Content). Stands c z.ins) e m))

        was_in : (i : ℕ) (c : Payment) → In (record { terms = terms_of w; accounts = list; key_of = n.key_of; route_of = n.route_of }) i c → (i ≡ j) ⊎ (i ≡ j → ⊥) → In n i c ⊎ (n.route_of c.lock ≡ None)
        was_in i c (r, q, m) (inl e) =
            subst (λ (k : ℕ). In n k c ⊎ (n.route_of c.lock ≡ None)) (sym e)
            (at_j c r (counts_signed (account_at n j) s r (subst (λ (b : Standing). Counts b r) now_at (subst (λ (k : ℕ). Counts (get_or list k (opened_of (first_of 0 0 0))) r) e q))) m)
        was_in i c (r, q, m) (inr ne) = inl (r, subst (λ (b : Standing). Counts b r) (get_or-set_other n.accounts j i (signed_of (account_at n j) s) (opened_of (first_of 0 0 0)) ne) q, m)

        by_bound : (i : ℕ) (c : Payment) → (Bound w (length ds) c → Through w i c) → Bound w (length ds) c ⊎ (w.due + (terms_of w).delay ≤ c.end) → Through w i c
        by_bound i c f (inl b) = f b
        by_bound i c f (inr l) = inr (inr l)

        carried : (i : ℕ) (c : Payment) → i < length ds → In n i c ⊎ (n.route_of c.lock ≡ None) → is_from i (n.route_of c.lock) ≡ true →
            Bound (entered w list n.key_of n.route_of paid more) (length ds) c → Through w i c
        carried i c l (inl inn) from b = by_bound i c (λ q. t.through i c l inn from q) (bound-back i c inn b)
        carried i c l (inr e) from b = absurd (off i c e from)

  -- the next of account j has come back signed
  module _ (j : ℕ) (s : Content) (l : j < length n.accounts) (unfrozen : is_frozen (account_at n j) ≡ false) (under : (account_at n j).next ≡ Some s) (higher : s.number ≡ (account_at n j).held.number + 1) where
    abbrev list_held : List Standing
    list_held = set n.accounts j (held_of (account_at n j) s)

    held_at : get_or list_held j (opened_of (first_of 0 0 0)) ≡ held_of (account_at n j) s
    held_at = get_or-set_same n.accounts j (held_of (account_at n j) s) (opened_of (first_of 0 0 0)) l

    counts_back : (r : Content) → Counts (held_of (account_at n j) s) r → Counts (account_at n j) r
    counts_back r (inl e) = inr (under ∙ ap Some e)
    counts_back r (inr e) = absurd (none_some e)

    held_changed : Changed w (held_of (account_at n j) s) w.signed j
    held_changed =
        record {
          unfrozen = unfrozen;
          looked = refl;
          disputed = refl;
          sent = refl;
          outs = λ x r c m. open_outs w j (w.pages j).phase (t.safe j (there j l)).state unfrozen x (r, counts_back r c, m);
          was_signed = λ r m. was r ((t.safe j (there j l)).signed r m);
          held_signed = (t.safe j (there j l)).next_signed s under;
          next_signed = λ r e. absurd (none_some e);
        }
      where
        was : (r : Content) → (r.number < (account_at n j).held.number) ⊎ Counts (account_at n j) r → (r.number < s.number) ⊎ Counts (held_of (account_at n j) s) r
        was r (inl h) = inl (omega arith)
        was r (inr (inl e)) =
            let f : (account_at n j).held.number ≡ r.number = ap (λ (z : Content). z.number) e in
            inl (omega arith)
        was r (inr (inr e)) = inr (inl (same_some (sym under ∙ e)))

    pub both_timely : Timely ds (entered w list_held n.key_of n.route_of w.history.paid w.signed)
    both_timely =
        entered_timely w list_held n.key_of n.route_of w.history.paid w.signed (λ i r m. m) ds (λ i q. by i (cases_eq i j)) t.keys
        (λ i c q inn from b. t.through i c q (back i c inn (cases_eq i j)) from b) t
      where
        by : (i : ℕ) → (i ≡ j) ⊎ (i ≡ j → ⊥) → Step w (get_or list_held i (opened_of (first_of 0 0 0))) w.signed i
        by i (inl e) =
            subst (λ (k : ℕ). Step w (get_or list_held k (opened_of (first_of 0 0 0))) w.signed k) (sym e)
            (subst (λ (b : Standing). Step w b w.signed j) (sym held_at) (changes held_changed))
        by i (inr ne) = same (get_or-set_other n.accounts j i (held_of (account_at n j) s) (opened_of (first_of 0 0 0)) ne) (λ r m. m)

        back : (i : ℕ) (c : Payment) → In (record { terms = terms_of w; accounts = list_held; key_of = n.key_of; route_of = n.route_of }) i c → (i ≡ j) ⊎ (i ≡ j → ⊥) → In n i c
        back i c (r, q, m) (inl e) =
            subst (λ (k : ℕ). In n k c) (sym e)
            (r, counts_back r (subst (λ (b : Standing). Counts b r) held_at (subst (λ (k : ℕ). Counts (get_or list_held k (opened_of (first_of 0 0 0))) r) e q)), m)
        back i c (r, q, m) (inr ne) = (r, subst (λ (b : Standing). Counts b r) (get_or-set_other n.accounts j i (held_of (account_at n j) s) (opened_of (first_of 0 0 0)) ne) q, m)

  -- a lock is passed on: the next look is in time for each in that has it
  pub route_timely : (lock : List ℕ) (r : Route) → ((i : ℕ) (c : Payment) → In n i c → c.lock ≡ lock → w.due + (terms_of w).delay ≤ c.end) →
      Timely ds (entered w n.accounts n.key_of (with_at n.route_of lock r) w.history.paid w.signed)
  route_timely lock r soon =
      entered_timely w n.accounts n.key_of (with_at n.route_of lock r) w.history.paid w.signed (λ i x m. m) ds (λ i q. same refl (λ x m. m)) t.keys
      (λ i c q inn from b. cond_both (bytes_eq c.lock lock) (Some r) (n.route_of c.lock) (λ (o : Option Route). is_from i o ≡ true → Through w i c)
      (λ e _. inr (inr (soon i c inn ((bytes_eq-Decides c.lock lock).0 e)))) (λ _ f. t.through i c q inn f b) from) t

  pub key_timely : (key : List ℕ) → Timely ds (entered w n.accounts (with_at n.key_of (sha256 key) key) n.route_of w.history.paid w.signed)
  key_timely key =
      entered_timely w n.accounts (with_at n.key_of (sha256 key) key) n.route_of w.history.paid w.signed (λ i x m. m) ds (λ i q. same refl (λ x m. m))
      (λ lock k e. cond_both (bytes_eq lock (sha256 key)) (Some key) (n.key_of lock) (λ (o : Option (List ℕ)). o ≡ Some k → sha256 k ≡ lock)
      (λ f g. ap sha256 (sym (same_some g)) ∙ sym ((bytes_eq-Decides lock (sha256 key)).0 f)) (λ _ g. t.keys lock k g) e)
      (λ i c q inn from b. t.through i c q inn from b) t

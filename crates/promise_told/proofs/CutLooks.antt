-- A look that is cut off keeps the invariant about time: only its first acts are done, and then the node starts again.
use Rattle.std.proofs.Common.{◌≡◌, ℕ, ◌+◌, ◌<◌, ◌≤◌, Bool, true, false, cond, not, ◌&&◌, eqb, ltb, ◌⊎◌, List, [], ◌∷◌, ◌++◌, length, take, is_some, Some, None, Option, sym, refl, ap, ◌∙◌, subst, inl, inr, append-nil, arith}
use Rattle.std.proofs.lemmas.Bool.{cond_both, eqb-true, eqb-false, and_parts, or_cases}
use Rattle.refusal.specs.declared.Refusal.TheVariants.{Unreadable, TooLarge}
use Rattle.sheet.specs.declared.types.Payment.{Payment}
use Rattle.sheet.specs.Contents.{Content, first_of}
use Rattle.change.specs.Changes.{most}
use Rattle.account.specs.declared.types.OnItsWay.{OnItsWay}
use Rattle.account.specs.Accounts.{Standing, is_frozen, opened_of}
use Rattle.node_state.specs.Nodes.{NodeState, account_at}
use Rattle.judgement.specs.Tests.{has_key}
use Rattle.outcome.specs.Acts.{Act}
use Rattle.outcome.specs.Records.{acted_all}
use Rattle.outcome.specs.Outcomes.{Outcome, refused, done}
use Rattle.looking.specs.declared.types.Shown.{Shown}
use Rattle.looking.specs.Looking.{has_dispute, has_below, is_past, is_free, opens, answers, shows_held, look_taken, is_earlier, look_of}
use Rattle.register.specs.Register.{Phase, quiet, disputed, ended}
use Rattle.moments.specs.Runs.{Deposit, each_of, restarted_of, started_again}
use Rattle.moments.specs.Moments.{Counts, In, Out, AllShown}
use Rattle.promise_told.specs.World.{World, Coming, sheet_for, key_for, due_of, Signed, sent_off, signed_by, node_of, terms_of, is_true, look_acts, looked_in_part}
use Rattle.promise_told.specs.Main.{Holds}
use Rattle.promise_told.proofs.Replays.{Learns, learns_accounts, learns_take, look_learns}
use Rattle.promise_told.proofs.Safe.{OnWay, WasSigned, HeldGoes, SafeIn, Safe, Through, Timely, answer_in_time, restarted_at}
use Rattle.promise_told.proofs.Pictures.{Passes, told_dispute}
use Rattle.promise_told.proofs.LookActs.{KeysRight, learns_terms, learns_routes, learns_signed, learns_right, on_left, on_right, on_cases, sent_due, sent_take, look_sheet}
use Rattle.promise_told.proofs.Looks.{after, with_all, node_with, learned_node, by_then, open_until}

-- the world after a restart, with these keys and with more on its way
abbrev stopped : World → (List ℕ → Option (List ℕ)) → List Coming → World
stopped w known more = after w (each_of restarted_of 0 (node_of w).accounts) known more w.due

-- a sheet of account i is on its way, or none is
abbrev SheetOn : ℕ → List Coming → Type 0
SheetOn i l = (s : Content) × (by : ℕ) × OnWay (sheet_for i s by) l

abbrev NoSheet : ℕ → List Coming → Type 0
NoSheet i l = (s : Content) (by : ℕ) → OnWay (sheet_for i s by) l → ⊥

not_key : (i : ℕ) (s : Content) (by j : ℕ) (key : List ℕ) (t : ℕ) → key_for j key t ≡ sheet_for i s by → ⊥
not_key i s by j key t e =
    let z : ◌≡◌ {A = ℕ} 0 1 = cc in
    omega arith

sheet_or_none : (i : ℕ) (l : List Coming) → SheetOn i l ⊎ NoSheet i l
sheet_or_none i [] = inr (λ s by m. m)
sheet_or_none i (key_for j key t ∷ l) = go (sheet_or_none i l)
  where
    go : SheetOn i l ⊎ NoSheet i l → SheetOn i (key_for j key t ∷ l) ⊎ NoSheet i (key_for j key t ∷ l)
    go (inl (s, by, m)) = inl (s, by, inr m)
    go (inr f) = inr none
      where
        none : NoSheet i (key_for j key t ∷ l)
        none s by (inl e) = not_key i s by j key t e
        none s by (inr m) = f s by m
sheet_or_none i (sheet_for j x t ∷ l) = at (eqb j i) refl (sheet_or_none i l)
  where
    at : (b : Bool) → eqb j i ≡ b → SheetOn i l ⊎ NoSheet i l → SheetOn i (sheet_for j x t ∷ l) ⊎ NoSheet i (sheet_for j x t ∷ l)
    at true e rest = inl (x, t, inl (ap (λ (k : ℕ). sheet_for k x t) (eqb-true j i e)))
    at false e (inl (s, by, m)) = inl (s, by, inr m)
    at false e (inr f) = inr none
      where
        none : NoSheet i (sheet_for j x t ∷ l)
        none s by (inl q) =
            let same : j ≡ i = cc in
            eqb-false j i e same
        none s by (inr m) = f s by m

-- what a look shows in an account without a dispute, it shows because an end is past
shows_past : (w : World) (told : List Shown) → is_true w told ≡ true → (i : ℕ) → (w.pages i).phase ≡ quiet → shows_held (terms_of w).delay w.now i told (account_at (node_of w) i) ≡ true → is_past w.now (account_at (node_of w) i) ≡ true
shows_past w told honest i e h = go (or_cases (opens delay w.now i told a) (answers delay w.now i told a) h)
  where
    a : Standing
    a = account_at (node_of w) i

    delay : ℕ
    delay = (terms_of w).delay

    go : (opens delay w.now i told a ≡ true) ⊎ (answers delay w.now i told a ≡ true) → is_past w.now a ≡ true
    go (inl q) = (and_parts (not (has_dispute i told)) (is_past w.now a) (and_parts (is_free delay w.now i told a) (not (has_dispute i told) && is_past w.now a) q).1).1
    go (inr q) =
        absurd (subst (λ (p : Phase). Passes (λ number until. ltb w.now until && ltb number a.held.number) p) e
        (told_dispute w told honest i (λ number until. ltb w.now until && ltb number a.held.number)
        (and_parts (is_free delay w.now i told a) (has_below w.now i a.held.number told) q).1))

-- what a part of a look sends off of sheets
abbrev OnlyShown : World → List Shown → ℕ → List Coming → Type 0
OnlyShown w told i more =
    (s : Content) (by : ℕ) → OnWay (sheet_for i s by) more →
    (s ≡ (account_at (node_of w) i).held) × (by ≡ w.now + (terms_of w).delay) × (shows_held (terms_of w).delay w.now i told (account_at (node_of w) i) ≡ true)

cut_safe : (w : World) → Holds (terms_of w) → (told : List Shown) → is_true w told ≡ true → (known : List ℕ → Option (List ℕ)) (more : List Coming) (i : ℕ) → OnlyShown w told i more → i < length (node_of w).accounts →
    w.now ≤ w.due → Safe w i → Safe (stopped w known more) i
cut_safe w holds told honest known more i shown l soon old =
    record {
      state = state (w.pages i).phase refl old.state (sheet_or_none i more);
      only_held = λ s by m. only s by (on_cases (sheet_for i s by) w.coming more m);
      signed = λ s m. subst (λ (z : Standing). (s.number < z.held.number) ⊎ Counts z s) (sym same) (old.signed s m);
      held_signed = subst (λ (h : Content). WasSigned i h w.signed) (sym held) old.held_signed;
      next_signed = λ s e. old.next_signed s (sym (ap (λ (z : Standing). z.next) same) ∙ e);
      sent_seen = λ x e. absurd (not_sent x (sym unsent ∙ e));
      looked = λ t e. absurd (unlooked t (sym (ap (λ (z : Standing). z.looked) same) ∙ e));
    }
  where
    a : Standing
    a = account_at (node_of w) i

    b : Standing
    b = account_at (node_of (stopped w known more)) i

    same : b ≡ restarted_of 0 a
    same = restarted_at (node_of w).accounts 0 i (opened_of (first_of 0 0 0)) l

    held : b.held ≡ a.held
    held = ap (λ (z : Standing). z.held) same

    frozen : is_frozen b ≡ true
    frozen = subst (λ (z : Standing). is_frozen z ≡ true) (sym same) refl

    not_sent : (x : OnItsWay) → ◌≡◌ {A = Option OnItsWay} None (Some x) → ⊥
    not_sent x e =
        let z : ◌≡◌ {A = ℕ} 0 1 = ap (λ (o : Option OnItsWay). cond (is_some o) 1 0) e in
        omega arith

    unlooked : (t : ℕ) → ◌≡◌ {A = Option ℕ} None (Some t) → ⊥
    unlooked t e =
        let z : ◌≡◌ {A = ℕ} 0 1 = ap (λ (o : Option ℕ). cond (is_some o) 1 0) e in
        omega arith

    unsent : b.sent ≡ None
    unsent = ap (λ (z : Standing). z.sent) same

    undisputed : b.disputed ≡ false
    undisputed = ap (λ (z : Standing). z.disputed) same

    back : (x : Payment) → Out (node_of (stopped w known more)) i x → Out (node_of w) i x
    back x (s, c, m) = (s, subst (λ (z : Standing). Counts z s) same c, m)

    goes : (by : ℕ) → HeldGoes w i by → HeldGoes (stopped w known more) i by
    goes by m = subst (λ (h : Content). OnWay (sheet_for i h by) (w.coming ++ more)) (sym held) (on_left (sheet_for i a.held by) w.coming more m)

    -- held was among what was sent off
    sends : (s : Content) (by : ℕ) → OnWay (sheet_for i s by) more → HeldGoes (stopped w known more) i (w.now + (terms_of w).delay)
    sends s by m =
        let r = shown s by m in
        subst (λ (h : Content). OnWay (sheet_for i h (w.now + (terms_of w).delay)) (w.coming ++ more)) (r.0 ∙ sym held)
        (subst (λ (t : ℕ). OnWay (sheet_for i s t) (w.coming ++ more)) r.1 (on_right (sheet_for i s by) w.coming more m))

    only : (s : Content) (by : ℕ) → OnWay (sheet_for i s by) w.coming ⊎ OnWay (sheet_for i s by) more → (s ≡ b.held) × (is_frozen b ≡ true)
    only s by (inl m) = ((old.only_held s by m).0 ∙ sym held, frozen)
    only s by (inr m) = ((shown s by m).0 ∙ sym held, frozen)

    nothing : NoSheet i w.coming → NoSheet i more → NoSheet i (w.coming ++ more)
    nothing f g s by m = go (on_cases (sheet_for i s by) w.coming more m)
      where
        go : OnWay (sheet_for i s by) w.coming ⊎ OnWay (sheet_for i s by) more → ⊥
        go (inl q) = f s by q
        go (inr q) = g s by q

    numbers : (k : ℕ) → a.held.number ≤ k → b.held.number ≤ k
    numbers k h = subst (λ (x : Content). x.number ≤ k) (sym held) h

    reach : (s : Content) (until : ℕ) → (a.held.number ≤ s.number) ⊎ ((by : ℕ) × HeldGoes w i by × (by < until)) → (b.held.number ≤ s.number) ⊎ ((by : ℕ) × HeldGoes (stopped w known more) i by × (by < until))
    reach s until (inl h) = inl (numbers s.number h)
    reach s until (inr (by, m, h)) = inr (by, goes by m, h)

    state : (p : Phase) → (w.pages i).phase ≡ p → SafeIn w i p → SheetOn i more ⊎ NoSheet i more → SafeIn (stopped w known more) i p
    state quiet e (inl c) (inl (s, by, m)) =
        inr
        (record {
          by = w.now + (terms_of w).delay;
          goes = sends s by m;
          past = subst (λ (z : Standing). is_past w.now z ≡ true) (sym same) (shows_past w told honest i e (shown s by m).2);
          frozen = frozen;
          outs = λ x out. by_then w.now w.due x.end (terms_of w).look (terms_of w).delay soon (c.outs x (back x out));
        })
    state quiet e (inl c) (inr none) = inl (record { unsent = unsent; undisputed = undisputed; nothing = nothing c.nothing none; outs = λ x out. c.outs x (back x out) })
    state quiet e (inr o) either =
        inr (record { by = o.by; goes = goes o.by o.goes; past = subst (λ (z : Standing). is_past w.now z ≡ true) (sym same) o.past; frozen = frozen; outs = λ x out. o.outs x (back x out) })
    state (disputed s until) e (h, sg, inl u) (inl (x, by, m)) = (
      h,
      sg,
      inr
          (record {
            frozen = frozen;
            reached = inr (
              w.now + (terms_of w).delay,
              sends x by m,
              answer_in_time w.now w.due until (terms_of w).look (terms_of w).delay (terms_of w).window soon u.since holds.window_enough,
            );
            outs = λ y out. open_until w.due until y.end (terms_of w).look (terms_of w).delay (terms_of w).window u.up_to (u.outs y (back y out));
          }),
    )
    state (disputed s until) e (h, sg, inl u) (inr none) =
        (h, sg, inl (record { unsent = unsent; undisputed = undisputed; nothing = nothing u.nothing none; since = u.since; up_to = u.up_to; outs = λ x out. u.outs x (back x out) }))
    state (disputed s until) e (h, sg, inr v) either = (h, sg, inr (record { frozen = frozen; reached = reach s until v.reached; outs = λ x out. v.outs x (back x out) }))
    state (ended s until) e (sg, d) either = (sg, record { frozen = frozen; reached = numbers s.number d.reached; outs = λ x out. d.outs x (back x out) })

-- what a look sends off, taken or refused
acts_sheet : (by : ℕ) (n : NodeState) (tick : ℕ) (told : List Shown) (x : Coming) → OnWay x (sent_off by (look_of n tick told).acts) → OnWay x (sent_off by (look_taken n tick told))
acts_sheet by n tick told x =
    cond_both (is_earlier tick n.accounts) (refused Unreadable) (cond (ltb most tick) (refused TooLarge) (done (look_taken n tick told)))
    (λ (o : Outcome). OnWay x (sent_off by o.acts) → OnWay x (sent_off by (look_taken n tick told))) (λ _ m. absurd m)
    (λ _. cond_both (ltb most tick) (refused TooLarge) (done (look_taken n tick told)) (λ (o : Outcome). OnWay x (sent_off by o.acts) → OnWay x (sent_off by (look_taken n tick told))) (λ _ m. absurd m) (λ _ m. m))

-- the acts are any that send off no sheets but a look's, each to be there within the delay; the next look stays due
stopped_timely : (ds : List Deposit) (w : World) → Holds (terms_of w) → length (node_of w).accounts ≡ length ds → Timely ds w → (told : List Shown) → is_true w told ≡ true → (known : List ℕ → Option (List ℕ)) (more : List Coming) →
    KeysRight known → ((x : Coming) → OnWay x more → due_of x ≡ w.now + (terms_of w).delay) → ((i : ℕ) → OnlyShown w told i more) → Timely ds (stopped w known more)
stopped_timely ds w holds many t told honest known more right soon shown =
    record {
      not_late = t.not_late;
      recent = t.recent;
      coming = λ x m. coming x (on_cases x w.coming more m);
      sent_since = λ x m. since x (on_cases x w.coming more m);
      keys = right;
      through = λ i c l inn from b. forth i c (t.through i c l (back i c l inn) from b);
      key_ticks = t.key_ticks;
      safe = λ i l. cut_safe w holds told honest known more i (shown i) (there i l) t.not_late (t.safe i l);
    }
  where
    there : (i : ℕ) → i < length ds → i < length (node_of w).accounts
    there i l = omega (arith, many)

    later : (a b c : ℕ) → a ≡ b + c → (b ≤ a) × (a ≤ b + c)
    later a b c e = (omega arith, omega arith)

    coming : (x : Coming) → OnWay x w.coming ⊎ OnWay x more → w.now ≤ due_of x
    coming x (inl m) = t.coming x m
    coming x (inr m) = (later (due_of x) w.now (terms_of w).delay (soon x m)).0

    since : (x : Coming) → OnWay x w.coming ⊎ OnWay x more → due_of x ≤ w.now + (terms_of w).delay
    since x (inl m) = t.sent_since x m
    since x (inr m) = (later (due_of x) w.now (terms_of w).delay (soon x m)).1

    back : (i : ℕ) (c : Payment) → i < length ds → In (node_of (stopped w known more)) i c → In (node_of w) i c
    back i c l (s, h, m) = (s, subst (λ (z : Standing). Counts z s) (restarted_at (node_of w).accounts 0 i (opened_of (first_of 0 0 0)) (there i l)) h, m)

    forth : (i : ℕ) (c : Payment) → Through w i c → Through (stopped w known more) i c
    forth i c (inl h) = inl h
    forth i c (inr (inl (key, by, e, m, h))) = inr (inl (key, by, e, on_left (key_for i key by) w.coming more m, h))
    forth i c (inr (inr h)) = inr (inr h)

stopped_is : (w : World) (acts : List Act) → Learns (node_of w) acts →
    with_all w (started_again (acted_all acts (node_of w))) (w.coming ++ sent_off (w.now + (terms_of w).delay) acts) (w.signed ++ signed_by acts) w.due ≡
    stopped w (acted_all acts (node_of w)).key_of (sent_off (w.now + (terms_of w).delay) acts)
stopped_is w acts learns =
    ap (λ (x : NodeState). with_all w x coming (w.signed ++ signed_by acts) w.due) node ∙ ap (λ (l : List Signed). with_all w (node_with n.terms list m.key_of n.route_of) coming l w.due) signed
  where
    n : NodeState
    n = node_of w

    m : NodeState
    m = acted_all acts n

    coming : List Coming
    coming = w.coming ++ sent_off (w.now + (terms_of w).delay) acts

    list : List Standing
    list = each_of restarted_of 0 n.accounts

    node : started_again m ≡ node_with n.terms list m.key_of n.route_of
    node =
        ap (λ (xs : List Standing). node_with m.terms (each_of restarted_of 0 xs) m.key_of m.route_of) (learns_accounts n acts learns) ∙
        learned_node n m list (learns_terms n acts learns) (learns_routes n acts learns)

    signed : w.signed ++ signed_by acts ≡ w.signed
    signed = ap (λ (l : List Signed). w.signed ++ l) (learns_signed n acts learns) ∙ append-nil w.signed

pub cut_timely : (ds : List Deposit) (w : World) → Holds (terms_of w) → length (node_of w).accounts ≡ length ds → AllShown w.history.paid (has_key (node_of w)) → Timely ds w → (told : List Shown) → is_true w told ≡ true → (k : ℕ) →
    Timely ds (looked_in_part w told k)
cut_timely ds w holds many _ t told honest k =
    subst (λ (x : World). Timely ds x) (sym (stopped_is w acts learns))
    (stopped_timely ds w holds many t told honest (acted_all acts (node_of w)).key_of (sent_off by acts) (learns_right (node_of w) acts learns t.keys) (sent_due by acts)
    (λ i s u m. look_sheet by (node_of w) w.now told i s u (acts_sheet by (node_of w) w.now told (sheet_for i s u) (sent_take by k (look_acts w told) (sheet_for i s u) m))))
  where
    by : ℕ
    by = w.now + (terms_of w).delay

    acts : List Act
    acts = take k (look_acts w told)

    learns : Learns (node_of w) acts
    learns = learns_take k (node_of w) (look_acts w told) (look_learns (node_of w) w.now told)

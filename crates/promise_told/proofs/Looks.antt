-- A look keeps the invariant about time.
use Rattle.std.proofs.Common.{◌≡◌, ℕ, zero, suc, ◌+◌, ◌<◌, ◌≤◌, Bool, true, false, cond, not, ◌&&◌, ◌||◌, ltb, ◌⊎◌, List, [], ◌∷◌, ◌++◌, length, get_or, is_some, Some, None, Option, sym, refl, ap, ◌∙◌, subst, inl, inr, append-nil, arith}
use Rattle.std.proofs.lemmas.Bool.{both_ways, cond_both, cond-false, and_parts, and_from, and_right, or_cases, or_parts, or_from, or_left, or_right, not_from_false, ltb-false, lt-ltb}
use Rattle.sheet.specs.declared.types.Payment.{Payment}
use Rattle.sheet.specs.Contents.{Content, first_of}
use Rattle.digest.specs.Sha256.{sha256}
use Rattle.change.specs.Changes.{most}
use Rattle.refusal.specs.declared.Refusal.TheVariants.{Unreadable, TooLarge}
use Rattle.account.specs.declared.types.OnItsWay.{OnItsWay}
use Rattle.account.specs.Accounts.{Standing, is_frozen, opened_of}
use Rattle.schedule.specs.declared.types.Terms.{Terms}
use Rattle.node_state.specs.declared.types.Route.{Route}
use Rattle.node_state.specs.Nodes.{NodeState, account_at, with_accounts}
use Rattle.judgement.specs.Tests.{has_key}
use Rattle.outcome.specs.Acts.{Act}
use Rattle.outcome.specs.Outcomes.{Outcome, refused, done}
use Rattle.looking.specs.declared.types.Shown.{Shown}
use Rattle.looking.specs.Looking.{any_shown, is_shown_for, is_dispute, has_dispute, has_below, still_sent, any_past, past_on, past_on_next, is_past, is_free, opens, answers, shows_held, looked_of, ins_of, near_below, learning, learned, look_taken, is_earlier, is_refused, look_of, looked_node, each_from}
use Rattle.register.specs.Register.{Phase, quiet, disputed, ended, KeyAt}
use Rattle.moments.specs.Runs.{Deposit, with_node}
use Rattle.moments.specs.Moments.{Counts, Stands, In, Out, AllShown}
use Rattle.promise_told.specs.World.{World, Coming, sheet_for, key_for, due_of, Signed, sent_off, signed_by, node_of, terms_of, is_true, look_acts, looked}
use Rattle.promise_told.specs.Main.{Holds, Among, KeyBy, Bound}
use Rattle.promise_told.proofs.Replays.{learning_learns, taken_learns}
use Rattle.promise_told.proofs.Safe.{OnWay, WasSigned, HeldGoes, Calm, Opening, Unseen, SafeIn, Safe, Through, Shows, Timely, answer_in_time, near_or_later}
use Rattle.promise_told.proofs.Pictures.{Passes, told_dispute, dispute_told, told_key, key_told}
use Rattle.promise_told.proofs.LookActs.{learns_terms, learns_routes, learns_signed, learns_known, learns_right, told_learned, on_left, on_right, on_cases, sent_due, look_sheet, sheet_look, key_look}

-- the world with other accounts and keys, with more on its way and with another tick for the next look
abbrev pub after : World → List Standing → (List ℕ → Option (List ℕ)) → List Coming → ℕ → World
after w accounts known more due =
    record {
      history = record { node = record { terms = terms_of w; accounts = accounts; key_of = known; route_of = (node_of w).route_of }; paid = w.history.paid };
      pages = w.pages;
      coming = w.coming ++ more;
      now = w.now;
      due = due;
      signed = w.signed;
    }

-- the world after a look that is taken, with these keys
abbrev taken : World → List Shown → (List ℕ → Option (List ℕ)) → World
taken w told known =
    after w (each_from (looked_of (terms_of w).delay w.now told) 0 (node_of w).accounts) known (sent_off (w.now + (terms_of w).delay) (look_taken (node_of w) w.now told)) (w.now + (terms_of w).look)

each_at : (f : ℕ → Standing → Standing) (xs : List Standing) (j i k : ℕ) (d : Standing) → i < length xs → k ≡ j + i → get_or (each_from f j xs) i d ≡ f k (get_or xs i d)
each_at f [] j i k d l e = absurd (omega arith)
each_at f (a ∷ xs) j zero k d l e =
    let same : j ≡ k = omega arith in
    ap (λ (x : ℕ). f x a) same
each_at f (a ∷ xs) j (suc i) k d l e = each_at f xs (j + 1) i k d (omega arith) (omega arith)

-- no end is past, so none of an out
none_past : (t : ℕ) (ps : List Payment) (x : Payment) → any_past t ps ≡ false → Stands x ps → t ≤ x.end
none_past t [] x e m = absurd m
none_past t (p ∷ ps) x e (inl q) = subst (λ (z : Payment). t ≤ z.end) q (ltb-false p.end t (or_parts (ltb p.end t) (any_past t ps) e).0)
none_past t (p ∷ ps) x e (inr m) = none_past t ps x (or_parts (ltb p.end t) (any_past t ps) e).1 m

none_past_on : (t : ℕ) (s : Content) (x : Payment) → past_on t s ≡ false → Stands x s.outs → t ≤ x.end
none_past_on t s x e m = none_past t s.outs x (or_parts (any_past t s.ins) (any_past t s.outs) e).1 m

not_past : (t : ℕ) (a : Standing) (s : Content) (x : Payment) → is_past t a ≡ false → Counts a s → Stands x s.outs → t ≤ x.end
not_past t a s x e (inl h) m = none_past_on t s x (subst (λ (z : Content). past_on t z ≡ false) h (or_parts (past_on t a.held) (past_on_next t a.next) e).0) m
not_past t a s x e (inr h) m = none_past_on t s x (subst (λ (o : Option Content). past_on_next t o ≡ false) h (or_parts (past_on t a.held) (past_on_next t a.next) e).1) m

-- what was still on its way was on its way
still_was : (delay tick i : ℕ) (told : List Shown) (o : Option OnItsWay) (x : OnItsWay) → still_sent delay tick i told o ≡ Some x → (y : OnItsWay) × (o ≡ Some y)
still_was delay tick i told None x e =
    let z : ◌≡◌ {A = ℕ} 0 1 = ap (λ (o : Option OnItsWay). cond (is_some o) 1 0) e in
    absurd (omega arith)
still_was delay tick i told (Some y) x e = (y, refl)

passes_any : (test : ℕ → ℕ → Bool) (p : Phase) → Passes test p → Passes (λ number until. true) p
passes_any test quiet h = h
passes_any test (disputed s until) h = refl
passes_any test (ended s until) h = refl

pub by_then : (now due end look delay : ℕ) → now ≤ due → due ≤ end + look → now + delay ≤ end + (look + delay)
by_then now due end look delay a b = omega arith

pub open_until : (due until end look delay window : ℕ) → until ≤ due + window → due ≤ end + look → until ≤ end + (look + delay + window)
open_until due until end look delay window a b = omega arith

next_look : (now end look : ℕ) → now ≤ end → now + look ≤ end + look
next_look now end look a = omega arith

look_safe : (w : World) → Holds (terms_of w) → (told : List Shown) → is_true w told ≡ true → (known : List ℕ → Option (List ℕ)) (i : ℕ) → i < length (node_of w).accounts → w.now ≤ w.due → Safe w i → Safe (taken w told known) i
look_safe w holds told honest known i l soon old =
    record {
      state = state (w.pages i).phase refl old.state;
      only_held = only;
      signed = λ s m. subst (λ (z : Standing). (s.number < z.held.number) ⊎ Counts z s) (sym same) (old.signed s m);
      held_signed = subst (λ (h : Content). WasSigned i h w.signed) (sym held) old.held_signed;
      next_signed = λ s e. old.next_signed s (sym (ap (λ (z : Standing). z.next) same) ∙ e);
      sent_seen = λ x e. ap (λ (z : Standing). z.disputed) same ∙ sent_seen x (sym (ap (λ (z : Standing). z.sent) same) ∙ e);
      looked = λ t e. looked t (sym (ap (λ (z : Standing). z.looked) same) ∙ e);
    }
  where
    a : Standing
    a = account_at (node_of w) i

    b : Standing
    b = account_at (node_of (taken w told known)) i

    delay : ℕ
    delay = (terms_of w).delay

    more : List Coming
    more = sent_off (w.now + delay) (look_taken (node_of w) w.now told)

    c : Standing
    c = looked_of delay w.now told i a

    same : b ≡ c
    same = each_at (looked_of delay w.now told) (node_of w).accounts 0 i i (opened_of (first_of 0 0 0)) l (omega arith)

    held : b.held ≡ a.held
    held = ap (λ (z : Standing). z.held) same

    -- in which cases the account is frozen
    frozen_by : c.disputed ≡ true → is_frozen b ≡ true
    frozen_by e = subst (λ (z : Standing). is_frozen z ≡ true) (sym same) (or_left c.disputed (not (is_some c.looked)) e)

    was : a.disputed ≡ true → c.disputed ≡ true
    was e = or_left a.disputed (has_dispute i told || opens delay w.now i told a) e

    seen : has_dispute i told ≡ true → c.disputed ≡ true
    seen e = or_right a.disputed (has_dispute i told || opens delay w.now i told a) (or_left (has_dispute i told) (opens delay w.now i told a) e)

    opened : opens delay w.now i told a ≡ true → c.disputed ≡ true
    opened e = or_right a.disputed (has_dispute i told || opens delay w.now i told a) (or_right (has_dispute i told) (opens delay w.now i told a) e)

    -- disputes that are told
    told_any : (test : ℕ → ℕ → Bool) → any_shown (is_dispute i test) told ≡ true → has_dispute i told ≡ true
    told_any test e = dispute_told w told honest i l (λ number until. true) (passes_any test (w.pages i).phase (told_dispute w told honest i test e))

    none_told : (test : ℕ → ℕ → Bool) → (w.pages i).phase ≡ quiet → any_shown (is_dispute i test) told ≡ false
    none_told test e = go (any_shown (is_dispute i test) told) refl
      where
        go : (x : Bool) → any_shown (is_dispute i test) told ≡ x → any_shown (is_dispute i test) told ≡ false
        go true h = absurd (subst (λ (p : Phase). Passes test p) e (told_dispute w told honest i test h))
        go false h = h

    shows : shows_held delay w.now i told a ≡ true → c.disputed ≡ true
    shows e = go (or_cases (opens delay w.now i told a) (answers delay w.now i told a) e)
      where
        go : (opens delay w.now i told a ≡ true) ⊎ (answers delay w.now i told a ≡ true) → c.disputed ≡ true
        go (inl h) = opened h
        go (inr h) =
            seen (told_any (λ number until. ltb w.now until && ltb number a.held.number)
            (and_parts (is_free delay w.now i told a) (has_below w.now i a.held.number told) h).1)

    free : a.sent ≡ None → is_free delay w.now i told a ≡ true
    free e = ap (λ (o : Option OnItsWay). not (is_some (still_sent delay w.now i told o))) e

    -- what is on its way, and the sheets
    back : (x : Payment) → Out (node_of (taken w told known)) i x → Out (node_of w) i x
    back x (s, q, m) = (s, subst (λ (z : Standing). Counts z s) same q, m)

    goes : (by : ℕ) → HeldGoes w i by → HeldGoes (taken w told known) i by
    goes by m = subst (λ (h : Content). OnWay (sheet_for i h by) (w.coming ++ more)) (sym held) (on_left (sheet_for i a.held by) w.coming more m)

    sends : shows_held delay w.now i told a ≡ true → HeldGoes (taken w told known) i (w.now + delay)
    sends e =
        subst (λ (h : Content). OnWay (sheet_for i h (w.now + delay)) (w.coming ++ more)) (sym held)
        (on_right (sheet_for i a.held (w.now + delay)) w.coming more (sheet_look (w.now + delay) (node_of w) w.now told i l e))

    sent_seen : (x : OnItsWay) → c.sent ≡ Some x → c.disputed ≡ true
    sent_seen x =
        cond_both (shows_held delay w.now i told a) (Some (record { number = a.held.number; at = w.now })) (still_sent delay w.now i told a.sent) (λ (o : Option OnItsWay). o ≡ Some x → c.disputed ≡ true)
        (λ e _. shows e) (λ _ q. before (still_was delay w.now i told a.sent x q))
      where
        before : (y : OnItsWay) × (a.sent ≡ Some y) → c.disputed ≡ true
        before (y, q) = was (old.sent_seen y q)

    looked : (t : ℕ) → ◌≡◌ {A = Option ℕ} (Some w.now) (Some t) → w.now + (terms_of w).look ≡ t + (terms_of w).look
    looked t e =
        let z : w.now ≡ t = cc in
        omega arith

    opens_quiet : a.sent ≡ None → (w.pages i).phase ≡ quiet → is_past w.now a ≡ true → opens delay w.now i told a ≡ true
    opens_quiet unsent e past =
        and_from (is_free delay w.now i told a) (not (has_dispute i told) && is_past w.now a) (free unsent)
        (and_from (not (has_dispute i told)) (is_past w.now a) (not_from_false (has_dispute i told) (none_told (λ number until. true) e)) past)

    -- where held was on its way already, the account was disputed, or held goes off once more
    again : Opening w i → (w.pages i).phase ≡ quiet → c.disputed ≡ true
    again o e = go a.sent refl
      where
        go : (x : Option OnItsWay) → a.sent ≡ x → c.disputed ≡ true
        go None h = opened (opens_quiet h e o.past)
        go (Some x) h = was (old.sent_seen x h)

    on_page_lem : (p : Phase) → (w.pages i).phase ≡ p → Passes (λ number until. true) p → c.disputed ≡ true
    on_page_lem p e h = seen (dispute_told w told honest i l (λ number until. true) (subst (λ (q : Phase). Passes (λ number until. true) q) (sym e) h))

    frozen : (p : Phase) → (w.pages i).phase ≡ p → SafeIn w i p → (s : Content) (by : ℕ) → OnWay (sheet_for i s by) w.coming → c.disputed ≡ true
    frozen quiet e (inl q) s by m = absurd (q.nothing s by m)
    frozen quiet e (inr o) s by m = again o e
    frozen (disputed x until) e q s by m = on_page_lem (disputed x until) e refl
    frozen (ended x until) e q s by m = on_page_lem (ended x until) e refl

    only : (s : Content) (by : ℕ) → OnWay (sheet_for i s by) (w.coming ++ more) → (s ≡ b.held) × (is_frozen b ≡ true)
    only s by m = go (on_cases (sheet_for i s by) w.coming more m)
      where
        go : OnWay (sheet_for i s by) w.coming ⊎ OnWay (sheet_for i s by) more → (s ≡ b.held) × (is_frozen b ≡ true)
        go (inl q) = ((old.only_held s by q).0 ∙ sym held, frozen_by (frozen (w.pages i).phase refl old.state s by q))
        go (inr q) =
            let r = look_sheet (w.now + delay) (node_of w) w.now told i s by q in
            (r.0 ∙ sym held, frozen_by (shows r.2))

    -- nothing is past, so nothing is shown
    shows_none : Calm w i → (w.pages i).phase ≡ quiet → is_past w.now a ≡ false → (opens delay w.now i told a ≡ false) × (shows_held delay w.now i told a ≡ false)
    shows_none q e past = (no_opening, or_from (opens delay w.now i told a) (answers delay w.now i told a) no_opening no_answer)
      where
        no_opening : opens delay w.now i told a ≡ false
        no_opening = and_right (is_free delay w.now i told a) (not (has_dispute i told) && is_past w.now a) (and_right (not (has_dispute i told)) (is_past w.now a) past)

        no_answer : answers delay w.now i told a ≡ false
        no_answer = and_right (is_free delay w.now i told a) (has_below w.now i a.held.number told) (none_told (λ number until. ltb w.now until && ltb number a.held.number) e)

    calm : Calm w i → (w.pages i).phase ≡ quiet → (x : Bool) → is_past w.now a ≡ x → Calm (taken w told known) i ⊎ Opening (taken w told known) i
    calm q e true past =
        let first : opens delay w.now i told a ≡ true = opens_quiet q.unsent e past in
        inr
        (record {
          by = w.now + delay;
          goes = sends (or_left (opens delay w.now i told a) (answers delay w.now i told a) first);
          past = subst (λ (z : Standing). is_past w.now z ≡ true) (sym same) past;
          frozen = frozen_by (opened first);
          outs = λ x out. by_then w.now w.due x.end (terms_of w).look delay soon (q.outs x (back x out));
        })
    calm q e false past =
        let none = shows_none q e past in
        inl
        (record {
          unsent = ap (λ (z : Standing). z.sent) same ∙
              (cond-false (shows_held delay w.now i told a) (Some (record { number = a.held.number; at = w.now })) (still_sent delay w.now i told a.sent) none.1 ∙
              ap (still_sent delay w.now i told) q.unsent);
          undisputed = ap (λ (z : Standing). z.disputed) same ∙
              or_from a.disputed (has_dispute i told || opens delay w.now i told a) q.undisputed
              (or_from (has_dispute i told) (opens delay w.now i told a) (none_told (λ number until. true) e) none.0);
          nothing = λ s by m. nothing s by none.1 (on_cases (sheet_for i s by) w.coming more m);
          outs = λ x out. next_look w.now x.end (terms_of w).look (unpast x (back x out));
        })
      where
        nothing : (s : Content) (by : ℕ) → shows_held delay w.now i told a ≡ false → OnWay (sheet_for i s by) w.coming ⊎ OnWay (sheet_for i s by) more → ⊥
        nothing s by f (inl m) = q.nothing s by m
        nothing s by f (inr m) = both_ways (shows_held delay w.now i told a) f (look_sheet (w.now + delay) (node_of w) w.now told i s by m).2

        unpast : (x : Payment) → Out (node_of w) i x → w.now ≤ x.end
        unpast x (s, h, m) = not_past w.now a s x past h m

    numbers : (k : ℕ) → a.held.number ≤ k → b.held.number ≤ k
    numbers k h = subst (λ (x : Content). x.number ≤ k) (sym held) h

    reach : (s : Content) (until : ℕ) → (a.held.number ≤ s.number) ⊎ ((by : ℕ) × HeldGoes w i by × (by < until)) → (b.held.number ≤ s.number) ⊎ ((by : ℕ) × HeldGoes (taken w told known) i by × (by < until))
    reach s until (inl h) = inl (numbers s.number h)
    reach s until (inr (by, m, h)) = inr (by, goes by m, h)

    -- a dispute that is new: held is shown if the number is lower
    answer : (s : Content) (until : ℕ) → Unseen w i until → w.now < until → (w.pages i).phase ≡ disputed s until → (x : Bool) → ltb s.number a.held.number ≡ x →
        (b.held.number ≤ s.number) ⊎ ((by : ℕ) × HeldGoes (taken w told known) i by × (by < until))
    answer s until u h e true q =
        let below : has_below w.now i a.held.number told ≡ true =
        dispute_told w told honest i l (λ number t. ltb w.now t && ltb number a.held.number)
        (subst (λ (p : Phase). Passes (λ number t. ltb w.now t && ltb number a.held.number) p) (sym e) (and_from (ltb w.now until) (ltb s.number a.held.number) (lt-ltb w.now until h) q)) in
        inr (
          w.now + delay,
          sends (or_right (opens delay w.now i told a) (answers delay w.now i told a) (and_from (is_free delay w.now i told a) (has_below w.now i a.held.number told) (free u.unsent) below)),
          answer_in_time w.now w.due until (terms_of w).look delay (terms_of w).window soon u.since holds.window_enough,
        )
    answer s until u h e false q = inl (numbers s.number (ltb-false s.number a.held.number q))

    state : (p : Phase) → (w.pages i).phase ≡ p → SafeIn w i p → SafeIn (taken w told known) i p
    state quiet e (inl q) = calm q e (is_past w.now a) refl
    state quiet e (inr o) =
        inr (record { by = o.by; goes = goes o.by o.goes; past = subst (λ (z : Standing). is_past w.now z ≡ true) (sym same) o.past; frozen = frozen_by (again o e); outs = λ x out. o.outs x (back x out) })
    state (disputed s until) e (h, sg, inl u) = (
      h,
      sg,
      inr
          (record {
            frozen = frozen_by (on_page_lem (disputed s until) e refl);
            reached = answer s until u h e (ltb s.number a.held.number) refl;
            outs = λ x out. open_until w.due until x.end (terms_of w).look delay (terms_of w).window u.up_to (u.outs x (back x out));
          }),
    )
    state (disputed s until) e (h, sg, inr v) =
        (h, sg, inr (record { frozen = frozen_by (on_page_lem (disputed s until) e refl); reached = reach s until v.reached; outs = λ x out. v.outs x (back x out) }))
    state (ended s until) e (sg, d) =
        (sg, record { frozen = frozen_by (on_page_lem (ended s until) e refl); reached = numbers s.number d.reached; outs = λ x out. d.outs x (back x out) })

-- the keys of ins
shows_by : (by : ℕ) (lock : List ℕ) (ks : List KeyAt) (k : KeyAt) → Shows k ks → sha256 k.key ≡ lock → k.tick ≤ by → KeyBy by lock ks
shows_by by lock [] k m e h = absurd m
shows_by by lock (x ∷ ks) k (inl q) e h = inl (subst (λ (z : KeyAt). (sha256 z.key ≡ lock) × (z.tick ≤ by)) (sym q) (e, h))
shows_by by lock (x ∷ ks) k (inr m) e h = inr (shows_by by lock ks k m e h)

all_at : (f : List ℕ → Bool) (l : List (List ℕ)) (lock : List ℕ) → AllShown l f → Among lock l → f lock ≡ true
all_at f [] lock h m = absurd m
all_at f (k ∷ l) lock h (inl e) = subst (λ (x : List ℕ). f x ≡ true) e h.0
all_at f (k ∷ l) lock h (inr m) = all_at f l lock h.1 m

stands_left : (c : Payment) (l m : List Payment) → Stands c l → Stands c (l ++ m)
stands_left c [] m h = absurd h
stands_left c (p ∷ l) m (inl h) = inl h
stands_left c (p ∷ l) m (inr h) = inr (stands_left c l m h)

stands_right : (c : Payment) (l m : List Payment) → Stands c m → Stands c (l ++ m)
stands_right c [] m h = h
stands_right c (p ∷ l) m h = inr (stands_right c l m h)

in_stands : (a : Standing) (s : Content) (c : Payment) → Counts a s → Stands c s.ins → Stands c (a.held.ins ++ ins_of a.next)
in_stands a s c (inl e) m = stands_left c a.held.ins (ins_of a.next) (subst (λ (z : Content). Stands c z.ins) (sym e) m)
in_stands a s c (inr e) m = stands_right c a.held.ins (ins_of a.next) (subst (λ (o : Option Content). Stands c (ins_of o)) (sym e) m)

soon_enough : (now due end delay : ℕ) → now ≤ due → due + delay ≤ end → now + delay ≤ end
soon_enough now due end delay a b = omega arith

tick_in_time : (tick now due end delay : ℕ) → tick ≤ now → now ≤ due → due + delay ≤ end → tick ≤ end
tick_in_time tick now due end delay a b c = omega arith

-- an in's key comes through: what the node is bound to get at its end, the look shows where no other look comes in time
look_through : (ds : List Deposit) (w : World) → length (node_of w).accounts ≡ length ds → AllShown w.history.paid (has_key (node_of w)) → Timely ds w → (told : List Shown) → is_true w told ≡ true →
    (i : ℕ) (c : Payment) → i < length ds → In (node_of w) i c → Bound w (length ds) c → Through w i c → Through (taken w told (learned (node_of w) told).key_of) i c
look_through ds w many paid t told honest i c l inn bound through = go through
  where
    n : NodeState
    n = node_of w

    by : ℕ
    by = w.now + (terms_of w).delay

    there : (j : ℕ) → j < length ds → j < length n.accounts
    there j h = omega (arith, many)

    new : List Coming
    new = sent_off by (look_taken n w.now told)

    knows : Bound w (length ds) c → has_key (learned n told) c.lock ≡ true
    knows (inl m) = learns_known n (learning n told) (learning_learns n told) c.lock (all_at (has_key n) w.history.paid c.lock paid m)
    knows (inr (j, u, h, m, e)) = told_learned n told c.lock (key_told w told honest j u c.lock (there j h) m)

    stands : In n i c → Stands c ((account_at n i).held.ins ++ ins_of (account_at n i).next)
    stands (s, h, m) = in_stands (account_at n i) s c h m

    shown : (key : List ℕ) → (learned n told).key_of c.lock ≡ Some key → ltb c.end (near_below (terms_of w) w.now) ≡ true → w.due + (terms_of w).delay ≤ c.end → (x : Bool) → any_shown (is_shown_for i key) told ≡ x →
        Through (taken w told (learned n told).key_of) i c
    shown key e near h true q =
        let r = told_key w told honest i key q in
        let right : sha256 key ≡ c.lock = learns_right n (learning n told) (learning_learns n told) t.keys c.lock key e in
        inl (shows_by c.end c.lock (w.pages i).keys r.0 r.1 (ap sha256 r.2 ∙ right)
        (tick_in_time r.0.tick w.now w.due c.end (terms_of w).delay (t.key_ticks i r.0 r.1) t.not_late h))
    shown key e near h false q =
        inr (inl (
          key,
          by,
          learns_right n (learning n told) (learning_learns n told) t.keys c.lock key e,
          on_right (key_for i key by) w.coming new (key_look by n w.now told i c key (there i l) (stands inn) near e q),
          soon_enough w.now w.due c.end (terms_of w).delay t.not_late h,
        ))

    known : (o : Option (List ℕ)) → (learned n told).key_of c.lock ≡ o → ltb c.end (near_below (terms_of w) w.now) ≡ true → w.due + (terms_of w).delay ≤ c.end → Through (taken w told (learned n told).key_of) i c
    known None e near h = absurd (both_ways (has_key (learned n told) c.lock) (ap (λ (o : Option (List ℕ)). is_some o) e) (knows bound))
    known (Some key) e near h = shown key e near h (any_shown (is_shown_for i key) told) refl

    near : (x : Bool) → ltb c.end (near_below (terms_of w) w.now) ≡ x → w.due + (terms_of w).delay ≤ c.end → Through (taken w told (learned n told).key_of) i c
    near true e h = known ((learned n told).key_of c.lock) refl e h
    near false e h =
        inr (inr ((near_or_later w.now w.due c.end (terms_of w).look (terms_of w).delay t.not_late h).0 (ltb-false c.end (near_below (terms_of w) w.now) e)))

    go : Through w i c → Through (taken w told (learned n told).key_of) i c
    go (inl h) = inl h
    go (inr (inl (key, u, e, m, h))) = inr (inl (key, u, e, on_left (key_for i key u) w.coming new m, h))
    go (inr (inr h)) = near (ltb c.end (near_below (terms_of w) w.now)) refl h

taken_timely : (ds : List Deposit) (w : World) → Holds (terms_of w) → length (node_of w).accounts ≡ length ds → AllShown w.history.paid (has_key (node_of w)) → Timely ds w → (told : List Shown) → is_true w told ≡ true →
    Timely ds (taken w told (learned (node_of w) told).key_of)
taken_timely ds w holds many paid t told honest =
    record {
      not_late = omega arith;
      recent = omega arith;
      coming = λ x m. coming x (on_cases x w.coming new m);
      sent_since = λ x m. since x (on_cases x w.coming new m);
      keys = learns_right n (learning n told) (learning_learns n told) t.keys;
      through = λ i c l inn from b. look_through ds w many paid t told honest i c l (back i c l inn) b (t.through i c l (back i c l inn) from b);
      key_ticks = t.key_ticks;
      safe = λ i l. look_safe w holds told honest (learned n told).key_of i (there i l) t.not_late (t.safe i l);
    }
  where
    n : NodeState
    n = node_of w

    by : ℕ
    by = w.now + (terms_of w).delay

    there : (j : ℕ) → j < length ds → j < length n.accounts
    there j h = omega (arith, many)

    new : List Coming
    new = sent_off by (look_taken n w.now told)

    later : (a b c : ℕ) → a ≡ b + c → (b ≤ a) × (a ≤ b + c)
    later a b c e = (omega arith, omega arith)

    coming : (x : Coming) → OnWay x w.coming ⊎ OnWay x new → w.now ≤ due_of x
    coming x (inl m) = t.coming x m
    coming x (inr m) = (later (due_of x) w.now (terms_of w).delay (sent_due by (look_taken n w.now told) x m)).0

    since : (x : Coming) → OnWay x w.coming ⊎ OnWay x new → due_of x ≤ w.now + (terms_of w).delay
    since x (inl m) = t.sent_since x m
    since x (inr m) = (later (due_of x) w.now (terms_of w).delay (sent_due by (look_taken n w.now told) x m)).1

    back : (i : ℕ) (c : Payment) → i < length ds → In (node_of (taken w told (learned n told).key_of)) i c → In n i c
    back i c l (s, h, m) =
        (s, subst (λ (z : Standing). Counts z s) (each_at (looked_of (terms_of w).delay w.now told) n.accounts 0 i i (opened_of (first_of 0 0 0)) (there i l) (omega arith)) h, m)

-- the world with another node, other things on their way, other sheets signed and another tick for the next look
abbrev pub with_all : World → NodeState → List Coming → List Signed → ℕ → World
with_all w node coming signed due = record { history = with_node w.history node; pages = w.pages; coming = coming; now = w.now; due = due; signed = signed }

-- a node with other accounts that has learned keys
abbrev pub node_with : Terms → List Standing → (List ℕ → Option (List ℕ)) → (List ℕ → Option Route) → NodeState
node_with terms list known routes = record { terms = terms; accounts = list; key_of = known; route_of = routes }

pub learned_node : (n m : NodeState) (list : List Standing) → m.terms ≡ n.terms → m.route_of ≡ n.route_of → with_accounts m list ≡ node_with n.terms list m.key_of n.route_of
learned_node n m list e f =
    ap (λ (x : Terms). node_with x list m.key_of m.route_of) e ∙ ap (λ (x : List ℕ → Option Route). node_with n.terms list m.key_of x) f

taken_acts : (n : NodeState) (t : ℕ) (told : List Shown) → is_refused n t ≡ false → (look_of n t told).acts ≡ look_taken n t told
taken_acts n t told e =
    let parts = or_parts (is_earlier t n.accounts) (ltb most t) e in
    ap (λ (o : Outcome). o.acts)
    (cond-false (is_earlier t n.accounts) (refused Unreadable) (cond (ltb most t) (refused TooLarge) (done (look_taken n t told))) parts.0 ∙
    cond-false (ltb most t) (refused TooLarge) (done (look_taken n t told)) parts.1)

taken_is : (w : World) (told : List Shown) → is_refused (node_of w) w.now ≡ false →
    with_all w (looked_node (node_of w) w.now told) (w.coming ++ sent_off (w.now + (terms_of w).delay) (look_acts w told)) (w.signed ++ signed_by (look_acts w told)) (w.now + (terms_of w).look) ≡
    taken w told (learned (node_of w) told).key_of
taken_is w told e =
    ap (λ (l : List Act). with_all w (looked_node n w.now told) (w.coming ++ sent_off by l) (w.signed ++ signed_by l) due) (taken_acts n w.now told e) ∙
    (ap (λ (x : NodeState). with_all w x coming (w.signed ++ signed_by acts) due) node ∙ ap (λ (l : List Signed). with_all w there coming l due) signed)
  where
    n : NodeState
    n = node_of w

    by : ℕ
    by = w.now + (terms_of w).delay

    due : ℕ
    due = w.now + (terms_of w).look

    acts : List Act
    acts = look_taken n w.now told

    coming : List Coming
    coming = w.coming ++ sent_off by acts

    list : List Standing
    list = each_from (looked_of n.terms.delay w.now told) 0 n.accounts

    there : NodeState
    there = node_with n.terms list (learned n told).key_of n.route_of

    node : looked_node n w.now told ≡ there
    node =
        cond-false (is_refused n w.now) n (with_accounts (learned n told) list) e ∙
        learned_node n (learned n told) list (learns_terms n (learning n told) (learning_learns n told)) (learns_routes n (learning n told) (learning_learns n told))

    signed : w.signed ++ signed_by acts ≡ w.signed
    signed = ap (λ (l : List Signed). w.signed ++ l) (learns_signed n acts (taken_learns n w.now told)) ∙ append-nil w.signed

-- a look that is refused changes nothing
pub looks_timely : (ds : List Deposit) (w : World) → Holds (terms_of w) → length (node_of w).accounts ≡ length ds → AllShown w.history.paid (has_key (node_of w)) → Timely ds w → (told : List Shown) → is_true w told ≡ true →
    Timely ds (looked w told)
looks_timely ds w holds many paid t told honest =
    cond_both (is_refused (node_of w) w.now) w
    (with_all w (looked_node (node_of w) w.now told) (w.coming ++ sent_off (w.now + (terms_of w).delay) (look_acts w told)) (w.signed ++ signed_by (look_acts w told)) (w.now + (terms_of w).look))
    (λ (x : World). Timely ds x) (λ _. t) (λ e. subst (λ (x : World). Timely ds x) (sym (taken_is w told e)) (taken_timely ds w holds many paid t told honest))

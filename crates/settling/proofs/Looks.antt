-- A look at what the register shows, and the arrival of all that is on its way.
use Rattle.std.proofs.Common.{◌≡◌, ℕ, zero, suc, ◌+◌, ◌<◌, ◌≤◌, Bool, true, false, not, ◌&&◌, ◌||◌, eqb, ltb, List, [], ◌∷◌, length, get_or, is_some, Some, None, Option, sym, refl, ap, ◌∙◌, inl, inr, arith}
use Rattle.std.proofs.lemmas.Bool.{cond_both, cond-true, cond-false, eqb-true, eq-eqb, and_from, or_from, or_left, or_right, le-ltb}
use Rattle.std.proofs.lemmas.Slice.Eq.{bytes_eq-Decides}
use Rattle.std.specs.Str.{bytes_eq}
use Rattle.sheet.specs.Contents.{Content, first_of}
use Rattle.change.specs.Changes.{most}
use Rattle.account.specs.declared.types.OnItsWay.{OnItsWay}
use Rattle.account.specs.Accounts.{Standing, opened_of}
use Rattle.node_state.specs.Nodes.{NodeState, account_at, with_accounts}
use Rattle.looking.specs.declared.types.Shown.{Shown}
use Rattle.looking.specs.declared.types.Shown.TheVariants.{Dispute, Key}
use Rattle.looking.specs.Looking.{any_shown, has_dispute, is_past, is_free, opens, still_sent, looked_of, is_before, is_earlier, learned, is_refused, each_from, looked_node}
use Rattle.register.specs.Register.{Page, sheet_shown, key_shown}
use Rattle.moments.specs.Runs.{Deposit, with_node}
use Rattle.promise_told.specs.World.{World, node_of, terms_of, Coming, sheet_for, key_for, Event, looks, arrives, picture_of, same_shown, all_among, is_true, with_coming, sheet_in, key_in, acted, with_due, look_acts, looked, happens, run}
use Rattle.promise_told.proofs.Safe.{OnWay, Timely}

-- what the register shows is among what it shows
same_self : (x : Shown) → same_shown x x ≡ true
same_self (Dispute i number until) =
    and_from (eqb i i) (eqb number number && eqb until until) (eq-eqb i i refl) (and_from (eqb number number) (eqb until until) (eq-eqb number number refl) (eq-eqb until until refl))
same_self (Key i key t) =
    and_from (eqb i i) (bytes_eq key key && eqb t t) (eq-eqb i i refl) (and_from (bytes_eq key key) (eqb t t) ((bytes_eq-Decides key key).1 refl) (eq-eqb t t refl))

all_more : (xs : List Shown) (y : Shown) (l : List Shown) → all_among xs l ≡ true → all_among xs (y ∷ l) ≡ true
all_more [] y l e = refl
all_more (x ∷ xs) y l e =
    and_from (any_shown (same_shown x) (y ∷ l)) (all_among xs (y ∷ l)) (or_right (same_shown x y) (any_shown (same_shown x) l) (first (any_shown (same_shown x) l) (all_among xs l) e))
    (all_more xs y l (second (any_shown (same_shown x) l) (all_among xs l) e))
  where
    first : (a b : Bool) → (a && b) ≡ true → a ≡ true
    first true b e = refl
    first false b e = e

    second : (a b : Bool) → (a && b) ≡ true → b ≡ true
    second true b e = e
    second false true e = refl
    second false false e = e

all_self : (xs : List Shown) → all_among xs xs ≡ true
all_self [] = refl
all_self (x ∷ xs) =
    and_from (any_shown (same_shown x) (x ∷ xs)) (all_among xs (x ∷ xs)) (or_left (same_shown x x) (any_shown (same_shown x) xs) (same_self x)) (all_more xs x xs (all_self xs))

pub picture_true : (w : World) → is_true w (picture_of w) ≡ true
picture_true w = and_from (all_among (picture_of w) (picture_of w)) (all_among (picture_of w) (picture_of w)) (all_self (picture_of w)) (all_self (picture_of w))

-- a look now isn't refused
before_none : (now : ℕ) (o : Option ℕ) → ((t : ℕ) → o ≡ Some t → t ≤ now) → is_before now o ≡ false
before_none now None h = refl
before_none now (Some t) h = le-ltb now t (h t refl)

not_earlier : (now : ℕ) (l : List Standing) (d : Standing) → ((i t : ℕ) → i < length l → (get_or l i d).looked ≡ Some t → t ≤ now) → is_earlier now l ≡ false
not_earlier now [] d h = refl
not_earlier now (a ∷ l) d h =
    or_from (is_before now a.looked) (is_earlier now l) (before_none now a.looked (λ t e. h 0 t (omega arith) e)) (not_earlier now l d (λ i t q e. h (suc i) t (omega arith) e))

pub not_refused : (ds : List Deposit) (w : World) → Timely ds w → length (node_of w).accounts ≡ length ds → w.now ≤ most → is_refused (node_of w) w.now ≡ false
not_refused ds w t many fits =
    or_from (is_earlier w.now (node_of w).accounts) (ltb most w.now) (not_earlier w.now (node_of w).accounts (opened_of (first_of 0 0 0)) since) (le-ltb most w.now fits)
  where
    earlier : (a look now due : ℕ) → due ≡ a + look → due ≤ now + look → a ≤ now
    earlier a look now due e l = omega arith

    since : (i a : ℕ) → i < length (node_of w).accounts → (account_at (node_of w) i).looked ≡ Some a → a ≤ w.now
    since i a l e = earlier a (terms_of w).look w.now w.due ((t.safe i (omega (arith, many))).looked a e) t.recent

-- the world after it
abbrev pub seen : World → World
seen w = with_due (acted w (look_acts w (picture_of w)) (with_node w.history (looked_node (node_of w) w.now (picture_of w)))) (w.now + (terms_of w).look)

pub look_is : (w : World) → is_refused (node_of w) w.now ≡ false → happens (looks (picture_of w)) w ≡ seen w
look_is w r = cond-true (is_true w (picture_of w)) (looked w (picture_of w)) w (picture_true w) ∙ cond-false (is_refused (node_of w) w.now) w (seen w) r

each_at : (f : ℕ → Standing → Standing) (l : List Standing) (j i k : ℕ) (d : Standing) → k ≡ j + i → i < length l → get_or (each_from f j l) i d ≡ f k (get_or l i d)
each_at f [] j i k d e h = absurd (omega arith)
each_at f (a ∷ l) j zero k d e h = ap (λ (x : ℕ). f x a) (omega arith)
each_at f (a ∷ l) j (suc i) k d e h = each_at f l (j + 1) i k d (omega arith) (omega arith)

pub seen_account : (w : World) → is_refused (node_of w) w.now ≡ false → (k : ℕ) → k < length (node_of w).accounts → account_at (node_of (seen w)) k ≡ looked_of (terms_of w).delay w.now (picture_of w) k (account_at (node_of w) k)
seen_account w r k l =
    ap (λ (n : NodeState). account_at n k) (cond-false (is_refused (node_of w) w.now) (node_of w) (with_accounts (learned (node_of w) (picture_of w)) (each_from (looked_of (terms_of w).delay w.now (picture_of w)) 0 (node_of w).accounts)) r)
    ∙ each_at (looked_of (terms_of w).delay w.now (picture_of w)) (node_of w).accounts 0 k k (opened_of (first_of 0 0 0)) (omega arith) l

-- where an end is past, a look leaves the account disputed: it sees a dispute, or opens one, or has sent one off
opened_now : (free has past : Bool) → free ≡ true → past ≡ true → (has || (free && (not has && past))) ≡ true
opened_now free true past f p = refl
opened_now free false past f p = and_from free past f p

pub look_disputes : (delay t i : ℕ) (shown : List Shown) (a : Standing) → is_past t a ≡ true → ((x : OnItsWay) → a.sent ≡ Some x → a.disputed ≡ true) → (looked_of delay t shown i a).disputed ≡ true
look_disputes delay t i shown a past seen = by a.sent refl
  where
    by : (o : Option OnItsWay) → a.sent ≡ o → (a.disputed || (has_dispute i shown || opens delay t i shown a)) ≡ true
    by None e =
        let free : is_free delay t i shown a ≡ true = ap (λ (o : Option OnItsWay). not (is_some (still_sent delay t i shown o))) e in
        or_right a.disputed (has_dispute i shown || opens delay t i shown a) (opened_now (is_free delay t i shown a) (has_dispute i shown) (is_past t a) free past)
    by (Some x) e = or_left a.disputed (has_dispute i shown || opens delay t i shown a) (seen x e)

-- all that is on its way comes in, one after the other
abbrev pub arrivals : List Coming → List Event
arrivals [] = []
arrivals (x ∷ l) = arrives 0 ∷ arrivals l

pub record Arrived (w v : World) : Type 0 where
  pub history : v.history ≡ w.history
  pub now : v.now ≡ w.now
  pub due : v.due ≡ w.due
  pub coming : v.coming ≡ []
  pub apart : (k : ℕ) → ((s : Content) (by : ℕ) → OnWay (sheet_for k s by) w.coming → ⊥) → (v.pages k).phase ≡ (w.pages k).phase

pub all_arrive : (l : List Coming) (w : World) → Arrived (with_coming w l) (run (arrivals l) (with_coming w l))
all_arrive [] w = record { history = refl; now = refl; due = refl; coming = refl; apart = λ k h. refl }
all_arrive (sheet_for i s by ∷ l) w =
    let rest : Arrived (with_coming (sheet_in i s w) l) (run (arrivals l) (with_coming (sheet_in i s w) l)) = all_arrive l (sheet_in i s w) in
    record { history = rest.history; now = rest.now; due = rest.due; coming = rest.coming; apart = λ k h. rest.apart k (λ t b m. h t b (inr m)) ∙ same k (h s by) }
  where
    same : (k : ℕ) → (OnWay (sheet_for k s by) (sheet_for i s by ∷ l) → ⊥) → ((sheet_in i s w).pages k).phase ≡ (w.pages k).phase
    same k h =
        cond_both (eqb k i) (sheet_shown (terms_of w).window w.now s (w.pages k)) (w.pages k) (λ (q : Page). q.phase ≡ (w.pages k).phase)
        (λ e. absurd (h (inl (ap (λ (x : ℕ). sheet_for x s by) (sym (eqb-true k i e)))))) (λ _. refl)
all_arrive (key_for i key by ∷ l) w =
    let rest : Arrived (with_coming (key_in i key w) l) (run (arrivals l) (with_coming (key_in i key w) l)) = all_arrive l (key_in i key w) in
    record { history = rest.history; now = rest.now; due = rest.due; coming = rest.coming; apart = λ k h. rest.apart k (λ t b m. h t b (inr m)) ∙ same k }
  where
    same : (k : ℕ) → ((key_in i key w).pages k).phase ≡ (w.pages k).phase
    same k = cond_both (eqb k i) (key_shown w.now key (w.pages k)) (w.pages k) (λ (q : Page). q.phase ≡ (w.pages k).phase) (λ _. refl) (λ _. refl)

-- Main, from: no older sheet counts, outs are decided early, keys come through.
use Rattle.std.proofs.Common.{◌≡◌, ℕ, zero, suc, ◌+◌, ◌*◌, ◌<◌, ◌≤◌, Bool, true, false, cond, not, ◌&&◌, ◌||◌, eqb, ltb, leb, ◌⊎◌, List, [], ◌∷◌, length, take, is_some, sym, refl, ap, ◌∙◌, subst, inl, inr, arith}
use Rattle.std.specs.Str.{bytes_eq}
use Rattle.std.proofs.lemmas.Slice.Eq.{bytes_eq-Decides}
use Rattle.std.proofs.lemmas.List.Sums.{sum_by-cons}
use Rattle.std.proofs.lemmas.Bool.{cond-true, cond-false, and_parts, and_from, or_cases, or_left, or_right, leb-true, le-leb, ltb-true, eqb-true, eqb-false}
use Rattle.sheet.specs.declared.types.Payment.{Payment}
use Rattle.sheet.specs.Contents.{Content}
use Rattle.digest.specs.Sha256.{sha256}
use Rattle.account.specs.Accounts.{Standing}
use Rattle.schedule.specs.declared.types.Terms.{Terms}
use Rattle.node_state.specs.Nodes.{NodeState, account_at}
use Rattle.outcome.specs.Acts.{signed_in, both_in, passed_on, key_is, Act, recorded, synced, sent_sheet, sent_signature, shown_sheet, shown_key}
use Rattle.outcome.specs.Records.{acted_all, written}
use Rattle.looking.specs.Looking.{is_among}
use Rattle.register.specs.Register.{Phase, quiet, disputed, ended, KeyAt, Page, shown_in_time, amounts_of, all_over}
use Rattle.moments.specs.Runs as alone
use Rattle.moments.specs.Runs.{Deposit, History, start_of, outcome_of}
use Rattle.moments.specs.Moments.{Counts, Stands, In, Out, Payments, NoLockTwice, Choice, is_from, AllShown, sum_to, those, worth_by, put_in, PassedOnPays}
use Rattle.promise_told.specs.World.{World, node_of, terms_of, Event, world_after}
use Rattle.promise_told.specs.Main.{none_of, settled_by, payout_by, payout, Main, NoOlder, DecidedEarly, Among, KeyBy, Bound, InTime}
use Rattle.promise_told.proofs.Replays.{node_alone}

-- the terms stay
acted_terms : (l : List Act) (n : NodeState) → (acted_all l n).terms ≡ n.terms
acted_terms [] n = refl
acted_terms (recorded (signed_in i s) ∷ l) n = acted_terms l (written (signed_in i s) n)
acted_terms (recorded (both_in i s) ∷ l) n = acted_terms l (written (both_in i s) n)
acted_terms (recorded (passed_on lock i j) ∷ l) n = acted_terms l (written (passed_on lock i j) n)
acted_terms (recorded (key_is key) ∷ l) n = acted_terms l (written (key_is key) n)
acted_terms (synced ∷ l) n = acted_terms l n
acted_terms (sent_sheet i s ∷ l) n = acted_terms l n
acted_terms (sent_signature i k ∷ l) n = acted_terms l n
acted_terms (shown_sheet i s ∷ l) n = acted_terms l n
acted_terms (shown_key i k ∷ l) n = acted_terms l n

pub after_terms : (l : List alone.Event) (h : History) → (alone.after l h).node.terms ≡ h.node.terms
after_terms [] h = refl
after_terms (alone.taken e ∷ l) h = after_terms l (alone.happened (alone.taken e) h) ∙ acted_terms (outcome_of h.node e).acts h.node
after_terms (alone.cut_off e k ∷ l) h = after_terms l (alone.happened (alone.cut_off e k) h) ∙ acted_terms (take k (outcome_of h.node e).acts) h.node
after_terms (alone.looked t seen sent ∷ l) h = after_terms l (alone.happened (alone.looked t seen sent) h)
after_terms (alone.restarted ∷ l) h = after_terms l (alone.happened alone.restarted h)

pub world_terms : (terms : Terms) (ds : List Deposit) (events : List Event) → terms_of (world_after terms ds events) ≡ terms
world_terms terms ds events =
    ap (λ (h : History). h.node.terms) (node_alone terms ds events).1 ∙ after_terms (node_alone terms ds events).0 (start_of terms ds)

-- Booleans
never : {A : Type 0} → false ≡ true → A
never e =
    let z : ◌≡◌ {A = ℕ} 1 0 = ap (λ (b : Bool). cond b 0 1) e in
    absurd (omega arith)

not_by : (x y : Bool) → (x ≡ true → y ≡ true) → not y ≡ true → not x ≡ true
not_by false y h e = refl
not_by true true h e = e
not_by true false h e = never (h refl)

-- sums
sum_mono : (n : ℕ) (f g : ℕ → ℕ) → ((k : ℕ) → k < n → f k ≤ g k) → sum_to n f ≤ sum_to n g
sum_mono zero f g h = omega arith
sum_mono (suc n) f g h =
    let one : f n ≤ g n = h n (omega arith) in
    let rest : sum_to n f ≤ sum_to n g = sum_mono n f g (λ k l. h k (omega arith)) in
    omega arith

amounts_mono : (f : List ℕ → Bool) (g : Payment → Bool) (ps : List Payment) → ((p : Payment) → Stands p ps → f p.lock ≡ true → g p ≡ true) → those f ps ≤ amounts_of g ps
amounts_mono f g [] h = omega arith
amounts_mono f g (p ∷ ps) h = by (f p.lock) refl (amounts_mono f g ps (λ q m. h q (inr m)))
  where
    fs : those f (p ∷ ps) ≡ cond (f p.lock) p.amount 0 + those f ps
    fs = sum_by-cons (λ (q : Payment). cond (f q.lock) q.amount 0) p ps

    gs : amounts_of g (p ∷ ps) ≡ cond (g p) p.amount 0 + amounts_of g ps
    gs = sum_by-cons (λ (q : Payment). cond (g q) q.amount 0) p ps

    by : (b : Bool) → f p.lock ≡ b → those f ps ≤ amounts_of g ps → those f (p ∷ ps) ≤ amounts_of g (p ∷ ps)
    by true e rest =
        let old : cond (f p.lock) p.amount 0 ≡ p.amount = cond-true (f p.lock) p.amount 0 e in
        let new : cond (g p) p.amount 0 ≡ p.amount = cond-true (g p) p.amount 0 (h p (inl refl) e) in
        omega (arith, fs, gs)
    by false e rest =
        let old : cond (f p.lock) p.amount 0 ≡ 0 = cond-false (f p.lock) p.amount 0 e in
        omega (arith, fs, gs)

none_those : (f : List ℕ → Bool) (ps : List Payment) → none_of ps ≡ true → those f ps ≡ 0
none_those f [] e = refl
none_those f (p ∷ ps) e = never e

-- keys in the register
key_by : (last by : ℕ) (x : Payment) (keys : List KeyAt) → x.end ≤ by → last ≤ by → shown_in_time last x keys ≡ true → KeyBy by x.lock keys
key_by last by x [] a b e = never e
key_by last by x (k ∷ keys) a b e = go (or_cases (bytes_eq (sha256 k.key) x.lock && (leb k.tick x.end || leb k.tick last)) (shown_in_time last x keys) e) (λ h. key_by last by x keys a b h)
  where
    low : (leb k.tick x.end ≡ true) ⊎ (leb k.tick last ≡ true) → k.tick ≤ by
    low (inl h) =
        let l : k.tick ≤ x.end = leb-true k.tick x.end h in
        omega arith
    low (inr h) =
        let l : k.tick ≤ last = leb-true k.tick last h in
        omega arith

    go : ((bytes_eq (sha256 k.key) x.lock && (leb k.tick x.end || leb k.tick last)) ≡ true) ⊎ (shown_in_time last x keys ≡ true) → (shown_in_time last x keys ≡ true → KeyBy by x.lock keys) → KeyBy by x.lock (k ∷ keys)
    go (inl h) rest =
        let parts = and_parts (bytes_eq (sha256 k.key) x.lock) (leb k.tick x.end || leb k.tick last) h in
        inl ((bytes_eq-Decides (sha256 k.key) x.lock).0 parts.0, low (or_cases (leb k.tick x.end) (leb k.tick last) parts.1))
    go (inr h) rest = inr (rest h)

by_shown : (last : ℕ) (x : Payment) (keys : List KeyAt) → KeyBy x.end x.lock keys → shown_in_time last x keys ≡ true
by_shown last x [] m = absurd m
by_shown last x (k ∷ keys) (inl h) =
    or_left (bytes_eq (sha256 k.key) x.lock && (leb k.tick x.end || leb k.tick last)) (shown_in_time last x keys)
    (and_from (bytes_eq (sha256 k.key) x.lock) (leb k.tick x.end || leb k.tick last) ((bytes_eq-Decides (sha256 k.key) x.lock).1 h.0)
    (or_left (leb k.tick x.end) (leb k.tick last) (le-leb k.tick x.end h.1)))
by_shown last x (k ∷ keys) (inr m) =
    or_right (bytes_eq (sha256 k.key) x.lock && (leb k.tick x.end || leb k.tick last)) (shown_in_time last x keys) (by_shown last x keys m)

over_at : (last now : ℕ) (ps : List Payment) (p : Payment) → all_over last now ps ≡ true → Stands p ps → p.end < now
over_at last now [] p e m = absurd m
over_at last now (q ∷ ps) p e (inl h) =
    let parts = and_parts (ltb q.end now && ltb last now) (all_over last now ps) e in
    let l : q.end < now = ltb-true q.end now (and_parts (ltb q.end now) (ltb last now) parts.0).0 in
    subst (λ (z : Payment). z.end < now) h l
over_at last now (q ∷ ps) p e (inr m) = over_at last now ps p (and_parts (ltb q.end now && ltb last now) (all_over last now ps) e).1 m

-- the locks of the outs that were taken in the register
abbrev any_taken : ℕ → List KeyAt → List ℕ → List Payment → Bool
any_taken last keys lock [] = false
any_taken last keys lock (p ∷ ps) = (bytes_eq p.lock lock && shown_in_time last p keys) || any_taken last keys lock ps

abbrev taken_at : ℕ → List KeyAt → List ℕ → Phase → Bool
taken_at delay keys lock quiet = false
taken_at delay keys lock (disputed s until) = false
taken_at delay keys lock (ended s until) = any_taken (until + delay) keys lock s.outs

abbrev taken_to : ℕ → (ℕ → Page) → ℕ → List ℕ → Bool
taken_to delay pages zero lock = false
taken_to delay pages (suc k) lock = taken_at delay (pages k).keys lock (pages k).phase || taken_to delay pages k lock

any_taken_lem : (last : ℕ) (keys : List KeyAt) (lock : List ℕ) (ps : List Payment) → any_taken last keys lock ps ≡ true → (x : Payment) × Stands x ps × (x.lock ≡ lock) × (shown_in_time last x keys ≡ true)
any_taken_lem last keys lock [] e = never e
any_taken_lem last keys lock (p ∷ ps) e = go (or_cases (bytes_eq p.lock lock && shown_in_time last p keys) (any_taken last keys lock ps) e) (λ h. any_taken_lem last keys lock ps h)
  where
    go : ((bytes_eq p.lock lock && shown_in_time last p keys) ≡ true) ⊎ (any_taken last keys lock ps ≡ true) → (any_taken last keys lock ps ≡ true → (x : Payment) × Stands x ps × (x.lock ≡ lock) × (shown_in_time last x keys ≡ true)) → (x : Payment) × Stands x (p ∷ ps) × (x.lock ≡ lock) × (shown_in_time last x keys ≡ true)
    go (inl h) rest =
        let parts = and_parts (bytes_eq p.lock lock) (shown_in_time last p keys) h in
        (p, inl refl, (bytes_eq-Decides p.lock lock).0 parts.0, parts.1)
    go (inr h) rest =
        let r = rest h in
        (r.0, inr r.1, r.2, r.3)

taken_any : (last : ℕ) (keys : List KeyAt) (x : Payment) (ps : List Payment) → Stands x ps → shown_in_time last x keys ≡ true → any_taken last keys x.lock ps ≡ true
taken_any last keys x [] m e = absurd m
taken_any last keys x (p ∷ ps) (inl h) e =
    or_left (bytes_eq p.lock x.lock && shown_in_time last p keys) (any_taken last keys x.lock ps)
    (and_from (bytes_eq p.lock x.lock) (shown_in_time last p keys) ((bytes_eq-Decides p.lock x.lock).1 (ap (λ (z : Payment). z.lock) h))
    (subst (λ (z : Payment). shown_in_time last z keys ≡ true) (sym h) e))
taken_any last keys x (p ∷ ps) (inr m) e = or_right (bytes_eq p.lock x.lock && shown_in_time last p keys) (any_taken last keys x.lock ps) (taken_any last keys x ps m e)

taken_from : (delay : ℕ) (pages : ℕ → Page) (m : ℕ) (lock : List ℕ) → taken_to delay pages m lock ≡ true → (j : ℕ) × (j < m) × (taken_at delay (pages j).keys lock (pages j).phase ≡ true)
taken_from delay pages zero lock e = never e
taken_from delay pages (suc m) lock e = go (or_cases (taken_at delay (pages m).keys lock (pages m).phase) (taken_to delay pages m lock) e) (λ h. taken_from delay pages m lock h)
  where
    go : (taken_at delay (pages m).keys lock (pages m).phase ≡ true) ⊎ (taken_to delay pages m lock ≡ true) → (taken_to delay pages m lock ≡ true → (j : ℕ) × (j < m) × (taken_at delay (pages j).keys lock (pages j).phase ≡ true)) → (j : ℕ) × (j < suc m) × (taken_at delay (pages j).keys lock (pages j).phase ≡ true)
    go (inl h) rest = (m, omega arith, h)
    go (inr h) rest =
        let r = rest h in
        let l : r.0 < m = r.1 in
        (r.0, omega arith, r.2)

to_taken : (delay : ℕ) (pages : ℕ → Page) (m j : ℕ) (lock : List ℕ) → j < m → taken_at delay (pages j).keys lock (pages j).phase ≡ true → taken_to delay pages m lock ≡ true
to_taken delay pages zero j lock l e = absurd (omega arith)
to_taken delay pages (suc m) j lock l e = go (eqb j m) refl (λ q. to_taken delay pages m j lock q e)
  where
    go : (b : Bool) → eqb j m ≡ b → (j < m → taken_to delay pages m lock ≡ true) → taken_to delay pages (suc m) lock ≡ true
    go true q rest =
        or_left (taken_at delay (pages m).keys lock (pages m).phase) (taken_to delay pages m lock)
        (subst (λ (k : ℕ). taken_at delay (pages k).keys lock (pages k).phase ≡ true) (eqb-true j m q) e)
    go false q rest =
        let ne : j ≡ m → ⊥ = eqb-false j m q in
        or_right (taken_at delay (pages m).keys lock (pages m).phase) (taken_to delay pages m lock) (rest (omega arith))

-- the locks that were paid
pub among_from : (lock : List ℕ) (l : List (List ℕ)) → is_among lock l ≡ true → Among lock l
among_from lock [] e = never e
among_from lock (k ∷ l) e = go (or_cases (bytes_eq k lock) (is_among lock l) e) (λ h. among_from lock l h)
  where
    go : (bytes_eq k lock ≡ true) ⊎ (is_among lock l ≡ true) → (is_among lock l ≡ true → Among lock l) → Among lock (k ∷ l)
    go (inl h) rest = inl ((bytes_eq-Decides k lock).0 h)
    go (inr h) rest = inr (rest h)

among_is : (lock : List ℕ) (l : List (List ℕ)) → Among lock l → is_among lock l ≡ true
among_is lock [] m = absurd m
among_is lock (k ∷ l) (inl h) = or_left (bytes_eq k lock) (is_among lock l) ((bytes_eq-Decides k lock).1 h)
among_is lock (k ∷ l) (inr m) = or_right (bytes_eq k lock) (is_among lock l) (among_is lock l m)

all_of : (f : List ℕ → Bool) (l : List (List ℕ)) → ((lock : List ℕ) → Among lock l → f lock ≡ true) → AllShown l f
all_of f [] h = tt
all_of f (k ∷ l) h = (h k (inl refl), all_of f l (λ lock m. h lock (inr m)))

-- the sheet that counts
abbrev counted_by : Standing → Phase → Content
counted_by a quiet = a.held
counted_by a (disputed s until) = a.held
counted_by a (ended s until) = s

pub main_from : PassedOnPays → NoLockTwice → NoOlder → DecidedEarly → InTime → Main
main_from pays twice older early intime terms holds ds events settled =
    omega (arith, floor, sum_mono (length ds) (λ k. worth_by (comes k) shown (choice k)) (payout w) (λ k l. each k l (w.pages k).phase refl (settled k l)))
  where
    w : World
    w = world_after terms ds events

    n : NodeState
    n = node_of w

    delay : ℕ
    delay = (terms_of w).delay

    list : List alone.Event
    list = (node_alone terms ds events).0

    same : w.history ≡ alone.after list (start_of terms ds)
    same = (node_alone terms ds events).1

    tied : terms_of w ≡ terms
    tied = world_terms terms ds events

    payments : Payments n
    payments = subst (λ (h : History). Payments h.node) (sym same) (twice terms ds list)

    choice : ℕ → Content
    choice k = counted_by (account_at n k) (w.pages k).phase

    shown : List ℕ → Bool
    shown lock = is_among lock w.history.paid || taken_to delay w.pages (length ds) lock

    comes : ℕ → List ℕ → Bool
    comes k lock = is_from k (n.route_of lock) && shown lock

    counts_by : (k : ℕ) → k < length ds → (p : Phase) → (w.pages k).phase ≡ p → Counts (account_at n k) (counted_by (account_at n k) p)
    counts_by k l quiet e = inl refl
    counts_by k l (disputed s until) e = inl refl
    counts_by k l (ended s until) e = older terms holds ds events k s until l e

    floor : put_in ds ≤ sum_to (length ds) (λ k. worth_by (comes k) shown (choice k))
    floor =
        subst (λ (h : History). Choice h.node (length ds) choice → AllShown h.paid shown → put_in ds ≤ sum_to (length ds) (λ k. worth_by (λ lock. is_from k (h.node.route_of lock) && shown lock) shown (choice k)))
        (sym same) (λ c all. pays terms ds list choice c shown all) (λ k l. counts_by k l (w.pages k).phase refl)
        (all_of shown w.history.paid (λ lock m. or_left (is_among lock w.history.paid) (taken_to delay w.pages (length ds) lock) (among_is lock w.history.paid m)))

    by_phase : (k : ℕ) (c : Payment) → In n k c → (j : ℕ) → j < length ds → (p : Phase) → (w.pages j).phase ≡ p → taken_at delay (w.pages j).keys c.lock p ≡ true → Bound w (length ds) c
    by_phase k c inn j l quiet e t = never t
    by_phase k c inn j l (disputed s until) e t = never t
    by_phase k c inn j l (ended s until) e t =
        let r = any_taken_lem (until + delay) (w.pages j).keys c.lock s.outs t in
        let x : Payment = r.0 in
        let out : Out n j x = (s, older terms holds ds events j s until l e, r.1) in
        let soon : until ≤ x.end + terms.look + terms.delay + terms.window = early terms holds ds events j x until l out (s, inr e) in
        let apart : x.end + n.terms.gap ≤ c.end = payments.ends j k x c out inn r.2 in
        let gaps : n.terms.gap ≡ terms.gap = ap (λ (t : Terms). t.gap) tied in
        let delays : delay ≡ terms.delay = ap (λ (t : Terms). t.delay) tied in
        let looks : (terms_of w).look ≡ terms.look = ap (λ (t : Terms). t.look) tied in
        let enough : terms.window + 3 * terms.delay + 3 * terms.look ≤ terms.gap = holds.gap_enough in
        let by : ℕ = x.end + terms.look + 2 * terms.delay + terms.window in
        inr (j, by, l, subst (λ (lock : List ℕ). KeyBy by lock (w.pages j).keys) r.2 (key_by (until + delay) by x (w.pages j).keys (omega arith) (omega arith) r.3), omega arith)

    bound : (k : ℕ) (c : Payment) → In n k c → (is_among c.lock w.history.paid ≡ true) ⊎ (taken_to delay w.pages (length ds) c.lock ≡ true) → Bound w (length ds) c
    bound k c inn (inl h) = inl (among_from c.lock w.history.paid h)
    bound k c inn (inr h) =
        let r = taken_from delay w.pages (length ds) c.lock h in
        by_phase k c inn r.0 r.1 (w.pages r.0).phase refl r.2

    each : (k : ℕ) → k < length ds → (p : Phase) → (w.pages k).phase ≡ p → settled_by delay w.now (account_at n k) p ≡ true →
        worth_by (comes k) shown (counted_by (account_at n k) p) ≤ payout_by delay (account_at n k) (w.pages k).keys p
    each k l quiet e s =
        let a : Standing = account_at n k in
        let parts = and_parts (none_of a.held.ins) (none_of a.held.outs && not (is_some a.next)) s in
        let ins : those (comes k) a.held.ins ≡ 0 = none_those (comes k) a.held.ins parts.0 in
        let outs : those (λ lock. not (shown lock)) a.held.outs ≡ 0 = none_those (λ lock. not (shown lock)) a.held.outs (and_parts (none_of a.held.outs) (not (is_some a.next)) parts.1).0 in
        omega arith
    each k l (disputed x until) e s = never s
    each k l (ended x until) e s =
        let keys : List KeyAt = (w.pages k).keys in
        let over = and_parts (leb until w.now) (all_over (until + delay) w.now x.ins && all_over (until + delay) w.now x.outs) s in
        let over-ins = (and_parts (all_over (until + delay) w.now x.ins) (all_over (until + delay) w.now x.outs) over.1).0 in
        let ins : those (comes k) x.ins ≤ amounts_of (λ p. shown_in_time (until + delay) p keys) x.ins =
        amounts_mono (comes k) (λ p. shown_in_time (until + delay) p keys) x.ins (λ c m h. in_paid k l x until e c m over-ins h) in
        let outs : those (λ lock. not (shown lock)) x.outs ≤ amounts_of (λ p. not (shown_in_time (until + delay) p keys)) x.outs =
        amounts_mono (λ lock. not (shown lock)) (λ p. not (shown_in_time (until + delay) p keys)) x.outs
        (λ c m h. not_by (shown_in_time (until + delay) c keys) (shown c.lock) (λ g. out_shown k l x until e c m g) h) in
        omega arith
      where
        in_paid : (k : ℕ) → k < length ds → (x : Content) (until : ℕ) → (w.pages k).phase ≡ ended x until → (c : Payment) → Stands c x.ins → all_over (until + delay) w.now x.ins ≡ true →
            comes k c.lock ≡ true → shown_in_time (until + delay) c (w.pages k).keys ≡ true
        in_paid k l x until e c m over h =
            let parts = and_parts (is_from k (n.route_of c.lock)) (shown c.lock) h in
            let inn : In n k c = (x, older terms holds ds events k x until l e, m) in
            by_shown (until + delay) c (w.pages k).keys
            (intime terms holds ds events k c l inn parts.0
            (bound k c inn (or_cases (is_among c.lock w.history.paid) (taken_to delay w.pages (length ds) c.lock) parts.1))
            (over_at (until + delay) w.now x.ins c over m))

        out_shown : (k : ℕ) → k < length ds → (x : Content) (until : ℕ) → (w.pages k).phase ≡ ended x until → (c : Payment) → Stands c x.outs →
            shown_in_time (until + delay) c (w.pages k).keys ≡ true → shown c.lock ≡ true
        out_shown k l x until e c m g =
            or_right (is_among c.lock w.history.paid) (taken_to delay w.pages (length ds) c.lock)
            (to_taken delay w.pages (length ds) k c.lock l
            (subst (λ (p : Phase). taken_at delay (w.pages k).keys c.lock p ≡ true) (sym e) (taken_any (until + delay) (w.pages k).keys c x.outs m g)))

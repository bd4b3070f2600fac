-- What the acts of a look record and what they send to the register.
use Rattle.std.proofs.Common.{◌≡◌, ℕ, zero, suc, ◌+◌, ◌<◌, true, false, cond, ltb, ◌⊎◌, List, [], ◌∷◌, ◌++◌, map, length, get_or, take, is_some, Some, None, Option, sym, refl, ap, ◌∙◌, subst, inl, inr, append-nil, arith}
use Rattle.std.proofs.lemmas.Slice.Eq.{bytes_eq-Decides}
use Rattle.std.proofs.lemmas.Bool.{cond_both, cond-true, cond-false, or_cases}
use Rattle.std.specs.Str.{bytes_eq}
use Rattle.sheet.specs.declared.types.Payment.{Payment}
use Rattle.sheet.specs.Contents.{Content, first_of}
use Rattle.digest.specs.Sha256.{sha256}
use Rattle.lockmap.specs.Maps.{with_at}
use Rattle.account.specs.Accounts.{Standing, opened_of}
use Rattle.schedule.specs.declared.types.Terms.{Terms}
use Rattle.node_state.specs.Nodes.{NodeState, account_at, with_key}
use Rattle.judgement.specs.Tests.{has_key}
use Rattle.outcome.specs.Acts.{signed_in, both_in, passed_on, key_is, Act, recorded, synced, sent_sheet, sent_signature, shown_sheet, shown_key}
use Rattle.outcome.specs.Records.{acted_on, acted_all}
use Rattle.looking.specs.declared.types.Shown.{Shown}
use Rattle.looking.specs.declared.types.Shown.TheVariants.{Dispute, Key}
use Rattle.looking.specs.Looking.{any_shown, is_shown_for, new_keys, then_synced, learning, learned, shows_held, unshown, before, wanted, is_among, once, near_below, keys_to_show, showing, showing_all, look_taken, ins_of}
use Rattle.moments.specs.Moments.{Stands}
use Rattle.promise_told.specs.World.{Coming, sheet_for, key_for, due_of, sent_off, signed_by}
use Rattle.promise_told.specs.Main.{Among}
use Rattle.promise_told.proofs.Replays.{Learns, new_learns, learning_learns}
use Rattle.promise_told.proofs.Follows.{among_from}
use Rattle.promise_told.proofs.Safe.{OnWay}
use Rattle.promise_told.proofs.Pictures.{never, is_key_of}

-- where nothing but new keys is recorded, all else of the node stays
pub learns_terms : (n : NodeState) (l : List Act) → Learns n l → (acted_all l n).terms ≡ n.terms
learns_terms n [] e = refl
learns_terms n (recorded (key_is key) ∷ l) e = learns_terms (with_key n (sha256 key) key) l e.1
learns_terms n (recorded (signed_in i s) ∷ l) e = absurd e
learns_terms n (recorded (both_in i s) ∷ l) e = absurd e
learns_terms n (recorded (passed_on lock i j) ∷ l) e = absurd e
learns_terms n (synced ∷ l) e = learns_terms n l e
learns_terms n (sent_sheet i s ∷ l) e = learns_terms n l e
learns_terms n (sent_signature i k ∷ l) e = learns_terms n l e
learns_terms n (shown_sheet i s ∷ l) e = learns_terms n l e
learns_terms n (shown_key i k ∷ l) e = learns_terms n l e

pub learns_routes : (n : NodeState) (l : List Act) → Learns n l → (acted_all l n).route_of ≡ n.route_of
learns_routes n [] e = refl
learns_routes n (recorded (key_is key) ∷ l) e = learns_routes (with_key n (sha256 key) key) l e.1
learns_routes n (recorded (signed_in i s) ∷ l) e = absurd e
learns_routes n (recorded (both_in i s) ∷ l) e = absurd e
learns_routes n (recorded (passed_on lock i j) ∷ l) e = absurd e
learns_routes n (synced ∷ l) e = learns_routes n l e
learns_routes n (sent_sheet i s ∷ l) e = learns_routes n l e
learns_routes n (sent_signature i k ∷ l) e = learns_routes n l e
learns_routes n (shown_sheet i s ∷ l) e = learns_routes n l e
learns_routes n (shown_key i k ∷ l) e = learns_routes n l e

pub learns_signed : (n : NodeState) (l : List Act) → Learns n l → signed_by l ≡ []
learns_signed n [] e = refl
learns_signed n (recorded (key_is key) ∷ l) e = learns_signed (with_key n (sha256 key) key) l e.1
learns_signed n (recorded (signed_in i s) ∷ l) e = absurd e
learns_signed n (recorded (both_in i s) ∷ l) e = absurd e
learns_signed n (recorded (passed_on lock i j) ∷ l) e = absurd e
learns_signed n (synced ∷ l) e = learns_signed n l e
learns_signed n (sent_sheet i s ∷ l) e = learns_signed n l e
learns_signed n (sent_signature i k ∷ l) e = learns_signed n l e
learns_signed n (shown_sheet i s ∷ l) e = learns_signed n l e
learns_signed n (shown_key i k ∷ l) e = learns_signed n l e

-- keys stay, and each stands under its own digest
known_more : (known : List ℕ → Option (List ℕ)) (lock key l : List ℕ) → is_some (known l) ≡ true → is_some (with_at known lock key l) ≡ true
known_more known lock key l e = cond_both (bytes_eq l lock) (Some key) (known l) (λ (o : Option (List ℕ)). is_some o ≡ true) (λ _. refl) (λ _. e)

pub learns_known : (n : NodeState) (l : List Act) → Learns n l → (lock : List ℕ) → has_key n lock ≡ true → has_key (acted_all l n) lock ≡ true
learns_known n [] e lock h = h
learns_known n (recorded (key_is key) ∷ l) e lock h = learns_known (with_key n (sha256 key) key) l e.1 lock (known_more n.key_of (sha256 key) key lock h)
learns_known n (recorded (signed_in i s) ∷ l) e lock h = absurd e
learns_known n (recorded (both_in i s) ∷ l) e lock h = absurd e
learns_known n (recorded (passed_on k i j) ∷ l) e lock h = absurd e
learns_known n (synced ∷ l) e lock h = learns_known n l e lock h
learns_known n (sent_sheet i s ∷ l) e lock h = learns_known n l e lock h
learns_known n (sent_signature i k ∷ l) e lock h = learns_known n l e lock h
learns_known n (shown_sheet i s ∷ l) e lock h = learns_known n l e lock h
learns_known n (shown_key i k ∷ l) e lock h = learns_known n l e lock h

abbrev pub KeysRight : (List ℕ → Option (List ℕ)) → Type 0
KeysRight known = (lock key : List ℕ) → known lock ≡ Some key → sha256 key ≡ lock

right_more : (known : List ℕ → Option (List ℕ)) (new : List ℕ) → KeysRight known → KeysRight (with_at known (sha256 new) new)
right_more known new h lock key =
    cond_both (bytes_eq lock (sha256 new)) (Some new) (known lock) (λ (o : Option (List ℕ)). o ≡ Some key → sha256 key ≡ lock)
    (λ e q. here e q) (λ _ q. h lock key q)
  where
    here : bytes_eq lock (sha256 new) ≡ true → Some new ≡ Some key → sha256 key ≡ lock
    here e q =
        let a : lock ≡ sha256 new = (bytes_eq-Decides lock (sha256 new)).0 e in
        let b : new ≡ key = cc in
        cc

pub learns_right : (n : NodeState) (l : List Act) → Learns n l → KeysRight n.key_of → KeysRight (acted_all l n).key_of
learns_right n [] e h = h
learns_right n (recorded (key_is key) ∷ l) e h = learns_right (with_key n (sha256 key) key) l e.1 (right_more n.key_of key h)
learns_right n (recorded (signed_in i s) ∷ l) e h = absurd e
learns_right n (recorded (both_in i s) ∷ l) e h = absurd e
learns_right n (recorded (passed_on k i j) ∷ l) e h = absurd e
learns_right n (synced ∷ l) e h = learns_right n l e h
learns_right n (sent_sheet i s ∷ l) e h = learns_right n l e h
learns_right n (sent_signature i k ∷ l) e h = learns_right n l e h
learns_right n (shown_sheet i s ∷ l) e h = learns_right n l e h
learns_right n (shown_key i k ∷ l) e h = learns_right n l e h

-- what is told is learned
told_new : (n : NodeState) (told : List Shown) (lock : List ℕ) → any_shown (is_key_of lock) told ≡ true → has_key (acted_all (new_keys n told) n) lock ≡ true
told_new n [] lock e = never e
told_new n (Dispute account number until ∷ told) lock e = told_new n told lock e
told_new n (Key account key t ∷ told) lock e =
    cond_both (has_key n (sha256 key)) (new_keys n told) (recorded (key_is key) ∷ new_keys more told) (λ (l : List Act). has_key (acted_all l n) lock ≡ true)
    (λ h. old h (or_cases (bytes_eq (sha256 key) lock) (any_shown (is_key_of lock) told) e) (λ q. told_new n told lock q))
    (λ _. new (or_cases (bytes_eq (sha256 key) lock) (any_shown (is_key_of lock) told) e) (λ q. told_new more told lock q))
  where
    more : NodeState
    more = with_key n (sha256 key) key

    old : has_key n (sha256 key) ≡ true → (bytes_eq (sha256 key) lock ≡ true) ⊎ (any_shown (is_key_of lock) told ≡ true) → (any_shown (is_key_of lock) told ≡ true → has_key (acted_all (new_keys n told) n) lock ≡ true) →
        has_key (acted_all (new_keys n told) n) lock ≡ true
    old h (inl q) rest = learns_known n (new_keys n told) (new_learns n told) lock (subst (λ (k : List ℕ). has_key n k ≡ true) ((bytes_eq-Decides (sha256 key) lock).0 q) h)
    old h (inr q) rest = rest q

    new : (bytes_eq (sha256 key) lock ≡ true) ⊎ (any_shown (is_key_of lock) told ≡ true) → (any_shown (is_key_of lock) told ≡ true → has_key (acted_all (new_keys more told) more) lock ≡ true) →
        has_key (acted_all (new_keys more told) more) lock ≡ true
    new (inl q) rest =
        let a : sha256 key ≡ lock = (bytes_eq-Decides (sha256 key) lock).0 q in
        learns_known more (new_keys more told) (new_learns more told) lock
        (ap (λ (o : Option (List ℕ)). is_some o) (cond-true (bytes_eq lock (sha256 key)) (Some key) (n.key_of lock) ((bytes_eq-Decides lock (sha256 key)).1 (sym a))))
    new (inr q) rest = rest q

pub acted_append : (l m : List Act) (n : NodeState) → acted_all (l ++ m) n ≡ acted_all m (acted_all l n)
acted_append [] m n = refl
acted_append (a ∷ l) m n = acted_append l m (acted_on a n)

acted_synced : (l : List Act) (n : NodeState) → acted_all (then_synced l) n ≡ acted_all l n
acted_synced [] n = refl
acted_synced (a ∷ l) n = acted_append (a ∷ l) (synced ∷ []) n

pub told_learned : (n : NodeState) (told : List Shown) (lock : List ℕ) → any_shown (is_key_of lock) told ≡ true → has_key (learned n told) lock ≡ true
told_learned n told lock e = subst (λ (m : NodeState). has_key m lock ≡ true) (sym (acted_synced (new_keys n told) n)) (told_new n told lock e)

-- what is on its way, in two lists in a row
pub on_left : (x : Coming) (l m : List Coming) → OnWay x l → OnWay x (l ++ m)
on_left x [] m h = absurd h
on_left x (y ∷ l) m (inl h) = inl h
on_left x (y ∷ l) m (inr h) = inr (on_left x l m h)

pub on_right : (x : Coming) (l m : List Coming) → OnWay x m → OnWay x (l ++ m)
on_right x [] m h = h
on_right x (y ∷ l) m h = inr (on_right x l m h)

pub on_cases : (x : Coming) (l m : List Coming) → OnWay x (l ++ m) → OnWay x l ⊎ OnWay x m
on_cases x [] m h = inr h
on_cases x (y ∷ l) m (inl h) = inl (inl h)
on_cases x (y ∷ l) m (inr h) = lift (on_cases x l m h)
  where
    lift : OnWay x l ⊎ OnWay x m → OnWay x (y ∷ l) ⊎ OnWay x m
    lift (inl q) = inl (inr q)
    lift (inr q) = inr q

-- all that acts send is to be there by one tick
pub sent_due : (by : ℕ) (l : List Act) (x : Coming) → OnWay x (sent_off by l) → due_of x ≡ by
sent_due by [] x h = absurd h
sent_due by (shown_sheet i s ∷ l) x (inl h) = sym (ap due_of h)
sent_due by (shown_sheet i s ∷ l) x (inr h) = sent_due by l x h
sent_due by (shown_key i k ∷ l) x (inl h) = sym (ap due_of h)
sent_due by (shown_key i k ∷ l) x (inr h) = sent_due by l x h
sent_due by (recorded r ∷ l) x h = sent_due by l x h
sent_due by (synced ∷ l) x h = sent_due by l x h
sent_due by (sent_sheet i s ∷ l) x h = sent_due by l x h
sent_due by (sent_signature i k ∷ l) x h = sent_due by l x h

pub sent_take : (by k : ℕ) (l : List Act) (x : Coming) → OnWay x (sent_off by (take k l)) → OnWay x (sent_off by l)
sent_take by zero l x h = absurd h
sent_take by (suc k) [] x h = h
sent_take by (suc k) (shown_sheet i s ∷ l) x (inl h) = inl h
sent_take by (suc k) (shown_sheet i s ∷ l) x (inr h) = inr (sent_take by k l x h)
sent_take by (suc k) (shown_key i m ∷ l) x (inl h) = inl h
sent_take by (suc k) (shown_key i m ∷ l) x (inr h) = inr (sent_take by k l x h)
sent_take by (suc k) (recorded r ∷ l) x h = sent_take by k l x h
sent_take by (suc k) (synced ∷ l) x h = sent_take by k l x h
sent_take by (suc k) (sent_sheet i s ∷ l) x h = sent_take by k l x h
sent_take by (suc k) (sent_signature i m ∷ l) x h = sent_take by k l x h

sent_append : (by : ℕ) (l m : List Act) → sent_off by (l ++ m) ≡ sent_off by l ++ sent_off by m
sent_append by [] m = refl
sent_append by (shown_sheet i s ∷ l) m = ap (λ (t : List Coming). sheet_for i s by ∷ t) (sent_append by l m)
sent_append by (shown_key i k ∷ l) m = ap (λ (t : List Coming). key_for i k by ∷ t) (sent_append by l m)
sent_append by (recorded r ∷ l) m = sent_append by l m
sent_append by (synced ∷ l) m = sent_append by l m
sent_append by (sent_sheet i s ∷ l) m = sent_append by l m
sent_append by (sent_signature i k ∷ l) m = sent_append by l m

new_sends : (by : ℕ) (n : NodeState) (told : List Shown) → sent_off by (new_keys n told) ≡ []
new_sends by n [] = refl
new_sends by n (Dispute account number until ∷ told) = new_sends by n told
new_sends by n (Key account key t ∷ told) =
    cond_both (has_key n (sha256 key)) (new_keys n told) (recorded (key_is key) ∷ new_keys (with_key n (sha256 key) key) told) (λ (l : List Act). sent_off by l ≡ [])
    (λ _. new_sends by n told) (λ _. new_sends by (with_key n (sha256 key) key) told)

synced_sends : (by : ℕ) (l : List Act) → sent_off by (then_synced l) ≡ sent_off by l
synced_sends by [] = refl
synced_sends by (a ∷ l) = sent_append by (a ∷ l) (synced ∷ []) ∙ append-nil (sent_off by (a ∷ l))

-- a look sends what it shows of its accounts
pub taken_sends : (by : ℕ) (n : NodeState) (tick : ℕ) (told : List Shown) → sent_off by (look_taken n tick told) ≡ sent_off by (showing_all (learned n told) tick told 0 n.accounts)
taken_sends by n tick told =
    sent_append by (learning n told) (showing_all (learned n told) tick told 0 n.accounts) ∙
    ap (λ (l : List Coming). l ++ sent_off by (showing_all (learned n told) tick told 0 n.accounts)) (synced_sends by (new_keys n told) ∙ new_sends by n told)

-- the keys that an in wants shown
once_has : (key : List ℕ) (earlier ks : List (List ℕ)) → Among key ks → Among key earlier ⊎ Among key (once earlier ks)
once_has key earlier [] m = absurd m
once_has key earlier (k ∷ ks) m =
    cond_both (is_among k earlier) (once earlier ks) (k ∷ once (k ∷ earlier) ks) (λ (l : List (List ℕ)). Among key earlier ⊎ Among key l)
    (λ e. old e m (λ q. once_has key earlier ks q)) (λ _. new m (λ q. once_has key (k ∷ earlier) ks q))
  where
    old : is_among k earlier ≡ true → Among key (k ∷ ks) → (Among key ks → Among key earlier ⊎ Among key (once earlier ks)) → Among key earlier ⊎ Among key (once earlier ks)
    old e (inl q) rest = inl (subst (λ (x : List ℕ). Among x earlier) q (among_from k earlier e))
    old e (inr q) rest = rest q

    later : Among key (k ∷ earlier) ⊎ Among key (once (k ∷ earlier) ks) → Among key earlier ⊎ Among key (k ∷ once (k ∷ earlier) ks)
    later (inl (inl q)) = inr (inl q)
    later (inl (inr q)) = inl q
    later (inr q) = inr (inr q)

    new : Among key (k ∷ ks) → (Among key ks → Among key (k ∷ earlier) ⊎ Among key (once (k ∷ earlier) ks)) → Among key earlier ⊎ Among key (k ∷ once (k ∷ earlier) ks)
    new (inl q) rest = inr (inl q)
    new (inr q) rest = later (rest q)

before_has : (key : List ℕ) (o : Option (List ℕ)) (ks : List (List ℕ)) → Among key ks → Among key (before o ks)
before_has key None ks m = m
before_has key (Some k) ks m = inr m

before_is : (key : List ℕ) (o : Option (List ℕ)) (ks : List (List ℕ)) → o ≡ Some key → Among key (before o ks)
before_is key o ks e = subst (λ (x : Option (List ℕ)). Among key (before x ks)) (sym e) (inl refl)

wanted_has : (n : NodeState) (below i : ℕ) (told : List Shown) (ps : List Payment) (c : Payment) (key : List ℕ) → Stands c ps → ltb c.end below ≡ true → n.key_of c.lock ≡ Some key →
    any_shown (is_shown_for i key) told ≡ false → Among key (wanted n below i told ps)
wanted_has n below i told [] c key m near e free = absurd m
wanted_has n below i told (p ∷ ps) c key (inl q) near e free =
    subst (λ (x : Payment). Among key (before (cond (ltb x.end below) (unshown i told (n.key_of x.lock)) None) (wanted n below i told ps))) (sym q)
    (before_is key (cond (ltb c.end below) (unshown i told (n.key_of c.lock)) None) (wanted n below i told ps)
    (cond-true (ltb c.end below) (unshown i told (n.key_of c.lock)) None near ∙ (ap (unshown i told) e ∙ cond-false (any_shown (is_shown_for i key) told) None (Some key) free)))
wanted_has n below i told (p ∷ ps) c key (inr m) near e free =
    before_has key (cond (ltb p.end below) (unshown i told (n.key_of p.lock)) None) (wanted n below i told ps) (wanted_has n below i told ps c key m near e free)

keys_sent : (by i : ℕ) (key : List ℕ) (ks : List (List ℕ)) → Among key ks → OnWay (key_for i key by) (sent_off by (map (shown_key i) ks))
keys_sent by i key [] m = absurd m
keys_sent by i key (k ∷ ks) (inl q) = inl (ap (λ (x : List ℕ). key_for i x by) q)
keys_sent by i key (k ∷ ks) (inr m) = inr (keys_sent by i key ks m)

keys_only : (by i : ℕ) (ks : List (List ℕ)) (j : ℕ) (s : Content) (t : ℕ) → OnWay (sheet_for j s t) (sent_off by (map (shown_key i) ks)) → ⊥
keys_only by i [] j s t m = m
keys_only by i (k ∷ ks) j s t (inl e) =
    let z : ◌≡◌ {A = ℕ} 0 1 = cc in
    omega arith
keys_only by i (k ∷ ks) j s t (inr m) = keys_only by i ks j s t m

-- what one account shows
showing_sheet : (by : ℕ) (n : NodeState) (tick : ℕ) (told : List Shown) (i : ℕ) (a : Standing) (j : ℕ) (s : Content) (t : ℕ) → OnWay (sheet_for j s t) (sent_off by (showing n tick told i a)) →
    (j ≡ i) × (s ≡ a.held) × (t ≡ by) × (shows_held n.terms.delay tick i told a ≡ true)
showing_sheet by n tick told i a j s t m =
    go (on_cases (sheet_for j s t) (sent_off by first) (sent_off by rest) (subst (λ (l : List Coming). OnWay (sheet_for j s t) l) (sent_append by first rest) m))
  where
    first : List Act
    first = cond (shows_held n.terms.delay tick i told a) (shown_sheet i a.held ∷ []) []

    rest : List Act
    rest = map (shown_key i) (keys_to_show n tick told i a)

    one : shows_held n.terms.delay tick i told a ≡ true → OnWay (sheet_for j s t) (sheet_for i a.held by ∷ []) → (j ≡ i) × (s ≡ a.held) × (t ≡ by) × (shows_held n.terms.delay tick i told a ≡ true)
    one b (inl e) =
        let x : j ≡ i = cc in
        let y : s ≡ a.held = cc in
        let z : t ≡ by = cc in
        (x, y, z, b)
    one b (inr q) = absurd q

    go : OnWay (sheet_for j s t) (sent_off by first) ⊎ OnWay (sheet_for j s t) (sent_off by rest) → (j ≡ i) × (s ≡ a.held) × (t ≡ by) × (shows_held n.terms.delay tick i told a ≡ true)
    go (inl q) =
        cond_both (shows_held n.terms.delay tick i told a) (shown_sheet i a.held ∷ []) []
        (λ (l : List Act). OnWay (sheet_for j s t) (sent_off by l) → (j ≡ i) × (s ≡ a.held) × (t ≡ by) × (shows_held n.terms.delay tick i told a ≡ true)) one (λ _ r. absurd r) q
    go (inr q) = absurd (keys_only by i (keys_to_show n tick told i a) j s t q)

sheet_showing : (by : ℕ) (n : NodeState) (tick : ℕ) (told : List Shown) (i : ℕ) (a : Standing) → shows_held n.terms.delay tick i told a ≡ true → OnWay (sheet_for i a.held by) (sent_off by (showing n tick told i a))
sheet_showing by n tick told i a e =
    subst (λ (l : List Act). OnWay (sheet_for i a.held by) (sent_off by (l ++ map (shown_key i) (keys_to_show n tick told i a)))) (sym (cond-true (shows_held n.terms.delay tick i told a) (shown_sheet i a.held ∷ []) [] e)) (inl refl)

key_showing : (by : ℕ) (n : NodeState) (tick : ℕ) (told : List Shown) (i : ℕ) (a : Standing) (key : List ℕ) → Among key (keys_to_show n tick told i a) → OnWay (key_for i key by) (sent_off by (showing n tick told i a))
key_showing by n tick told i a key m =
    subst (λ (l : List Coming). OnWay (key_for i key by) l) (sym (sent_append by first (map (shown_key i) (keys_to_show n tick told i a))))
    (on_right (key_for i key by) (sent_off by first) (sent_off by (map (shown_key i) (keys_to_show n tick told i a))) (keys_sent by i key (keys_to_show n tick told i a) m))
  where
    first : List Act
    first = cond (shows_held n.terms.delay tick i told a) (shown_sheet i a.held ∷ []) []

-- what all accounts show
on_all : (by : ℕ) (n : NodeState) (tick : ℕ) (told : List Shown) (d : Standing) (x : Coming) (xs : List Standing) (i j k : ℕ) → k < length xs → j ≡ i + k → OnWay x (sent_off by (showing n tick told j (get_or xs k d))) →
    OnWay x (sent_off by (showing_all n tick told i xs))
on_all by n tick told d x [] i j k l e m = absurd (omega arith)
on_all by n tick told d x (a ∷ xs) i j zero l e m =
    let same : j ≡ i = omega arith in
    subst (λ (z : List Coming). OnWay x z) (sym (sent_append by (showing n tick told i a) (showing_all n tick told (i + 1) xs)))
    (on_left x (sent_off by (showing n tick told i a)) (sent_off by (showing_all n tick told (i + 1) xs)) (subst (λ (q : ℕ). OnWay x (sent_off by (showing n tick told q a))) same m))
on_all by n tick told d x (a ∷ xs) i j (suc k) l e m =
    subst (λ (z : List Coming). OnWay x z) (sym (sent_append by (showing n tick told i a) (showing_all n tick told (i + 1) xs)))
    (on_right x (sent_off by (showing n tick told i a)) (sent_off by (showing_all n tick told (i + 1) xs)) (on_all by n tick told d x xs (i + 1) j k (omega arith) (omega arith) m))

abbrev ShownAt : (by : ℕ) → NodeState → (tick : ℕ) → List Shown → Standing → List Standing → (i j : ℕ) → Content → ℕ → Type 0
ShownAt by n tick told d xs i j s t =
    (k : ℕ) × (j ≡ i + k) × (s ≡ (get_or xs k d).held) × (t ≡ by) × (shows_held n.terms.delay tick j told (get_or xs k d) ≡ true)

all_sheet : (by : ℕ) (n : NodeState) (tick : ℕ) (told : List Shown) (d : Standing) (xs : List Standing) (i j : ℕ) (s : Content) (t : ℕ) → OnWay (sheet_for j s t) (sent_off by (showing_all n tick told i xs)) →
    ShownAt by n tick told d xs i j s t
all_sheet by n tick told d [] i j s t m = absurd m
all_sheet by n tick told d (a ∷ xs) i j s t m =
    go (on_cases (sheet_for j s t) (sent_off by (showing n tick told i a)) (sent_off by (showing_all n tick told (i + 1) xs))
    (subst (λ (z : List Coming). OnWay (sheet_for j s t) z) (sent_append by (showing n tick told i a) (showing_all n tick told (i + 1) xs)) m)) (λ q. all_sheet by n tick told d xs (i + 1) j s t q)
  where
    up : ShownAt by n tick told d xs (i + 1) j s t → ShownAt by n tick told d (a ∷ xs) i j s t
    up (k, e, h, b, f) = (suc k, omega arith, h, b, f)

    go : OnWay (sheet_for j s t) (sent_off by (showing n tick told i a)) ⊎ OnWay (sheet_for j s t) (sent_off by (showing_all n tick told (i + 1) xs)) →
        (OnWay (sheet_for j s t) (sent_off by (showing_all n tick told (i + 1) xs)) → ShownAt by n tick told d xs (i + 1) j s t) → ShownAt by n tick told d (a ∷ xs) i j s t
    go (inl q) rest =
        let r = showing_sheet by n tick told i a j s t q in
        let e : j ≡ i = r.0 in
        (zero, omega arith, r.1, r.2, subst (λ (x : ℕ). shows_held n.terms.delay tick x told a ≡ true) (sym e) r.3)
    go (inr q) rest = up (rest q)

-- a sheet that a look sends off is held of its account, which then shows it; and the other way round
pub look_sheet : (by : ℕ) (n : NodeState) (tick : ℕ) (told : List Shown) (j : ℕ) (s : Content) (t : ℕ) → OnWay (sheet_for j s t) (sent_off by (look_taken n tick told)) →
    (s ≡ (account_at n j).held) × (t ≡ by) × (shows_held n.terms.delay tick j told (account_at n j) ≡ true)
look_sheet by n tick told j s t m =
    let r = all_sheet by (learned n told) tick told (opened_of (first_of 0 0 0)) n.accounts 0 j s t (subst (λ (z : List Coming). OnWay (sheet_for j s t) z) (taken_sends by n tick told) m) in
    at r.0 r.1 r.2 r.3 r.4
  where
    at : (k : ℕ) → j ≡ 0 + k → s ≡ (account_at n k).held → t ≡ by → shows_held (learned n told).terms.delay tick j told (account_at n k) ≡ true →
        (s ≡ (account_at n j).held) × (t ≡ by) × (shows_held n.terms.delay tick j told (account_at n j) ≡ true)
    at k e h b f =
        let same : k ≡ j = omega arith in (
          subst (λ (x : ℕ). s ≡ (account_at n x).held) same h,
          b,
          subst (λ (x : ℕ). shows_held n.terms.delay tick j told (account_at n x) ≡ true) same
              (subst (λ (x : Terms). shows_held x.delay tick j told (account_at n k) ≡ true) (learns_terms n (learning n told) (learning_learns n told)) f),
        )

pub sheet_look : (by : ℕ) (n : NodeState) (tick : ℕ) (told : List Shown) (i : ℕ) → i < length n.accounts → shows_held n.terms.delay tick i told (account_at n i) ≡ true →
    OnWay (sheet_for i (account_at n i).held by) (sent_off by (look_taken n tick told))
sheet_look by n tick told i l e =
    subst (λ (z : List Coming). OnWay (sheet_for i (account_at n i).held by) z) (sym (taken_sends by n tick told))
    (on_all by (learned n told) tick told (opened_of (first_of 0 0 0)) (sheet_for i (account_at n i).held by) n.accounts 0 i i l (omega arith)
    (sheet_showing by (learned n told) tick told i (account_at n i)
    (subst (λ (x : Terms). shows_held x.delay tick i told (account_at n i) ≡ true) (sym (learns_terms n (learning n told) (learning_learns n told))) e)))

-- and a key that the node has is sent off for each in that ends soon, where it wasn't shown
pub key_look : (by : ℕ) (n : NodeState) (tick : ℕ) (told : List Shown) (i : ℕ) (c : Payment) (key : List ℕ) → i < length n.accounts → Stands c ((account_at n i).held.ins ++ ins_of (account_at n i).next) →
    ltb c.end (near_below n.terms tick) ≡ true → (learned n told).key_of c.lock ≡ Some key → any_shown (is_shown_for i key) told ≡ false →
    OnWay (key_for i key by) (sent_off by (look_taken n tick told))
key_look by n tick told i c key l m near e free =
    subst (λ (z : List Coming). OnWay (key_for i key by) z) (sym (taken_sends by n tick told))
    (on_all by (learned n told) tick told (opened_of (first_of 0 0 0)) (key_for i key by) n.accounts 0 i i l (omega arith)
    (key_showing by (learned n told) tick told i (account_at n i) key (fresh (once_has key [] ks (wanted_has (learned n told) (near_below (learned n told).terms tick) i told (a.held.ins ++ ins_of a.next) c key m soon e free)))))
  where
    a : Standing
    a = account_at n i

    ks : List (List ℕ)
    ks = wanted (learned n told) (near_below (learned n told).terms tick) i told (a.held.ins ++ ins_of a.next)

    soon : ltb c.end (near_below (learned n told).terms tick) ≡ true
    soon = subst (λ (x : Terms). ltb c.end (near_below x tick) ≡ true) (sym (learns_terms n (learning n told) (learning_learns n told))) near

    fresh : Among key [] ⊎ Among key (once [] ks) → Among key (once [] ks)
    fresh (inl q) = absurd q
    fresh (inr q) = q

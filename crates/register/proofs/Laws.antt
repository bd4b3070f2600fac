-- The register's laws, each by one induction over the events.
use Rattle.std.proofs.Common.{◌≡◌, ℕ, ◌+◌, ◌<◌, ◌≤◌, Bool, true, false, cond, not, ◌&&◌, ◌||◌, ltb, leb, List, [], ◌∷◌, ◌++◌, sum_by, sym, refl, ap, ◌∙◌, subst, arith}
use Rattle.std.specs.Str.{bytes_eq}
use Rattle.std.proofs.lemmas.List.{append_assoc, append-nil}
use Rattle.std.proofs.lemmas.List.Sums.{sum_by-cons}
use Rattle.std.proofs.lemmas.Bool.{true≢false, ltb-true, ltb-false, leb-true, lt-ltb, le-leb, lt-leb, and_parts, and_from, cond_both}
use Rattle.sheet.specs.declared.types.Payment.{Payment}
use Rattle.sheet.specs.Contents.{Content}
use Rattle.digest.specs.Sha256.{sha256}
use Rattle.register.specs.Register.{Phase, quiet, disputed, ended, KeyAt, with_sheet, ended_by, with_key_at, shown_in_time, amounts_of, paid_out, payout_of, all_over, is_settled}
use Rattle.register.specs.Laws.{Event, sheet_comes, key_comes, tick_comes, page_after, NotBefore, Shows, EndedForGood, UntilStays, HigherShown, KeysStay, PayoutStays, SettledForGood, StaysSettled, NothingLost}

-- an ended page stays so
stays : (window : ℕ) (events : List Event) (keys : List KeyAt) (s : Content) (until : ℕ) → (page_after window events (record { phase = ended s until; keys = keys })).phase ≡ ended s until
stays window [] keys s until = refl
stays window (sheet_comes tick x ∷ events) keys s until = stays window events keys s until
stays window (key_comes tick key ∷ events) keys s until = stays window events (with_key_at tick key keys) s until
stays window (tick_comes tick ∷ events) keys s until = stays window events keys s until

pub ended_for_good : EndedForGood
ended_for_good window events page s until h =
    subst (λ (phase : Phase). (page_after window events (record { phase = phase; keys = page.keys })).phase ≡ ended s until) (sym h) (stays window events page.keys s until)

-- one event and the dispute that is shown
module _ (number until : ℕ) where
  sheet_shows : (window tick : ℕ) (s : Content) (phase : Phase) → Shows number until phase → Shows number until (with_sheet window tick s phase)
  sheet_shows window tick s quiet h = absurd h
  sheet_shows window tick s (disputed x u) h =
      cond_both (ltb tick u && ltb x.number s.number) s x (λ y. (u ≡ until) × (number ≤ y.number))
      (λ e. let lower = ltb-true x.number s.number (and_parts (ltb tick u) (ltb x.number s.number) e).1 in let least = h.1 in (h.0, omega arith))
      (λ e. h)
  sheet_shows window tick s (ended x u) h = h

  turn_shows : (tick : ℕ) (phase : Phase) → Shows number until phase → Shows number until (ended_by tick phase)
  turn_shows tick quiet h = absurd h
  turn_shows tick (disputed x u) h = cond_both (leb u tick) (ended x u) (disputed x u) (Shows number until) (λ e. h) (λ e. h)
  turn_shows tick (ended x u) h = h

pub until_stays : UntilStays
until_stays window [] page number until h = h
until_stays window (sheet_comes tick s ∷ events) page number until h =
    until_stays window events (record { phase = with_sheet window tick s page.phase; keys = page.keys }) number until (sheet_shows number until window tick s page.phase h)
until_stays window (key_comes tick key ∷ events) page number until h =
    until_stays window events (record { phase = page.phase; keys = with_key_at tick key page.keys }) number until h
until_stays window (tick_comes tick ∷ events) page number until h =
    until_stays window events (record { phase = ended_by tick page.phase; keys = page.keys }) number until (turn_shows number until tick page.phase h)

shown_at_once : (window tick : ℕ) (s x : Content) (until : ℕ) → tick < until → Shows s.number until (with_sheet window tick s (disputed x until))
shown_at_once window tick s x until h =
    cond_both (ltb tick until && ltb x.number s.number) s x (λ y. (until ≡ until) × (s.number ≤ y.number))
    (λ e. (refl, omega arith))
    (λ e. (refl, higher e))
  where
    higher : (ltb tick until && ltb x.number s.number) ≡ false → s.number ≤ x.number
    higher e = ltb-false x.number s.number (sym (ap (λ b. b && ltb x.number s.number) (lt-ltb tick until h)) ∙ e)

pub higher_shown : HigherShown
higher_shown window events page x until tick s h before =
    until_stays window events (record { phase = with_sheet window tick s page.phase; keys = page.keys }) s.number until
    (subst (λ (phase : Phase). Shows s.number until (with_sheet window tick s phase)) (sym h) (shown_at_once window tick s x until before))

one_more : (tick : ℕ) (key : List ℕ) (keys : List KeyAt) → (more : List KeyAt) × (with_key_at tick key keys ≡ keys ++ more)
one_more tick key [] = (record { key = key; tick = tick } ∷ [], refl)
one_more tick key (k ∷ others) =
    let rest = one_more tick key others in
    cond_both (bytes_eq k.key key) (k ∷ others) (k ∷ with_key_at tick key others) (λ ks. (more : List KeyAt) × (ks ≡ (k ∷ others) ++ more))
    (λ _. ([], sym (append-nil (k ∷ others))))
    (λ _. (rest.0, ap (λ ks. k ∷ ks) rest.1))

pub keys_stay : KeysStay
keys_stay window [] page = ([], sym (append-nil page.keys))
keys_stay window (sheet_comes tick s ∷ events) page = keys_stay window events (record { phase = with_sheet window tick s page.phase; keys = page.keys })
keys_stay window (key_comes tick key ∷ events) page =
    let first = one_more tick key page.keys in
    let rest = keys_stay window events (record { phase = page.phase; keys = with_key_at tick key page.keys }) in
    (first.0 ++ rest.0, rest.1 ∙ ap (λ ks. ks ++ rest.0) first.1 ∙ append_assoc page.keys first.0 rest.0)
keys_stay window (tick_comes tick ∷ events) page = keys_stay window events (record { phase = ended_by tick page.phase; keys = page.keys })

-- a key that comes too late for a payment changes nothing for it
late : (last now tick : ℕ) (p : Payment) (key : List ℕ) (keys : List KeyAt) → p.end < now → last < now → now ≤ tick → shown_in_time last p (with_key_at tick key keys) ≡ shown_in_time last p keys
late last now tick p key [] e l t =
    let past : leb tick p.end ≡ false = lt-leb tick p.end (omega arith) in
    let after : leb tick last ≡ false = lt-leb tick last (omega arith) in
    never (bytes_eq (sha256 key) p.lock) (leb tick p.end) (leb tick last) past after
  where
    never : (a b c : Bool) → b ≡ false → c ≡ false → ((a && (b || c)) || false) ≡ false
    never a b c g h = grind arith
late last now tick p key (k ∷ others) e l t =
    cond_both (bytes_eq k.key key) (k ∷ others) (k ∷ with_key_at tick key others) (λ ks. shown_in_time last p ks ≡ shown_in_time last p (k ∷ others))
    (λ _. refl)
    (λ _. ap (λ b. (bytes_eq (sha256 k.key) p.lock && (leb k.tick p.end || leb k.tick last)) || b) (late last now tick p key others e l t))

-- two tests that agree on payments that are over give the same amounts
amounts_same : (last now : ℕ) (f g : Payment → Bool) → ((p : Payment) → p.end < now → last < now → f p ≡ g p) → (ps : List Payment) → all_over last now ps ≡ true → amounts_of f ps ≡ amounts_of g ps
amounts_same last now f g same [] h = refl
amounts_same last now f g same (p ∷ ps) h =
    let parts = and_parts (ltb p.end now && ltb last now) (all_over last now ps) h in
    let over = and_parts (ltb p.end now) (ltb last now) parts.0 in
    let first : f p ≡ g p = same p (ltb-true p.end now over.0) (ltb-true last now over.1) in
    let rest : amounts_of f ps ≡ amounts_of g ps = amounts_same last now f g same ps parts.1 in
    sum_by-cons (λ q. cond (f q) q.amount 0) p ps ∙ rw (first, rest) (sym (sum_by-cons (λ q. cond (g q) q.amount 0) p ps))

paid_same : (last now tick : ℕ) (key : List ℕ) (keys : List KeyAt) (s : Content) → all_over last now s.ins ≡ true → all_over last now s.outs ≡ true → now ≤ tick → paid_out last (with_key_at tick key keys) s ≡ paid_out last keys s
paid_same last now tick key keys s i o t =
    let ins : amounts_of (λ p. shown_in_time last p (with_key_at tick key keys)) s.ins ≡ amounts_of (λ p. shown_in_time last p keys) s.ins = amounts_same last now _ _ (λ p e l. late last now tick p key keys e l t) s.ins i in
    let outs : amounts_of (λ p. not (shown_in_time last p (with_key_at tick key keys))) s.outs ≡ amounts_of (λ p. not (shown_in_time last p keys)) s.outs = amounts_same last now _ _ (λ p e l. ap not (late last now tick p key keys e l t)) s.outs o in
    ap (λ n. s.own + n + amounts_of (λ p. not (shown_in_time last p (with_key_at tick key keys))) s.outs) ins
    ∙ ap (λ n. s.own + amounts_of (λ p. shown_in_time last p keys) s.ins + n) outs

module _ (window delay now : ℕ) (s : Content) (until : ℕ) where
  paid_after : (events : List Event) (keys : List KeyAt) → all_over (until + delay) now s.ins ≡ true → all_over (until + delay) now s.outs ≡ true → NotBefore now events → payout_of delay (page_after window events (record { phase = ended s until; keys = keys })).keys (page_after window events (record { phase = ended s until; keys = keys })).phase ≡ paid_out (until + delay) keys s
  paid_after [] keys i o h = refl
  paid_after (sheet_comes tick x ∷ events) keys i o h = paid_after events keys i o h.1
  paid_after (key_comes tick key ∷ events) keys i o h = paid_after events (with_key_at tick key keys) i o h.1 ∙ paid_same (until + delay) now tick key keys s i o h.0
  paid_after (tick_comes tick ∷ events) keys i o h = paid_after events keys i o h.1

over_later : (last now later : ℕ) (ps : List Payment) → now ≤ later → all_over last now ps ≡ true → all_over last later ps ≡ true
over_later last now later [] l h = refl
over_later last now later (p ∷ ps) l h =
    let parts = and_parts (ltb p.end now && ltb last now) (all_over last now ps) h in
    let over = and_parts (ltb p.end now) (ltb last now) parts.0 in
    let e = ltb-true p.end now over.0 in
    let f = ltb-true last now over.1 in
    and_from (ltb p.end later && ltb last later) (all_over last later ps)
    (and_from (ltb p.end later) (ltb last later) (lt-ltb p.end later (omega arith)) (lt-ltb last later (omega arith)))
    (over_later last now later ps l parts.1)

-- the parts of the test
settled_parts : (delay now : ℕ) (s : Content) (until : ℕ) → is_settled delay now (ended s until) ≡ true → (until ≤ now) × (all_over (until + delay) now s.ins ≡ true) × (all_over (until + delay) now s.outs ≡ true)
settled_parts delay now s until h =
    let parts = and_parts (leb until now) (all_over (until + delay) now s.ins && all_over (until + delay) now s.outs) h in
    let lists = and_parts (all_over (until + delay) now s.ins) (all_over (until + delay) now s.outs) parts.1 in
    (leb-true until now parts.0, lists.0, lists.1)

payout_stays : (delay now : ℕ) (keys : List KeyAt) (phase : Phase) → is_settled delay now phase ≡ true → PayoutStays delay now (record { phase = phase; keys = keys })
payout_stays delay now keys quiet h window events g = absurd (true≢false (sym h))
payout_stays delay now keys (disputed s until) h window events g = absurd (true≢false (sym h))
payout_stays delay now keys (ended s until) h window events g =
    let parts = settled_parts delay now s until h in
    paid_after window delay now s until events keys parts.1 parts.2 g

pub settled_for_good : SettledForGood
settled_for_good delay now page h = payout_stays delay now page.keys page.phase h

settled_later : (window delay now later : ℕ) (events : List Event) (keys : List KeyAt) (phase : Phase) → is_settled delay now phase ≡ true → now ≤ later → is_settled delay later (page_after window events (record { phase = phase; keys = keys })).phase ≡ true
settled_later window delay now later events keys quiet h l = absurd (true≢false (sym h))
settled_later window delay now later events keys (disputed s until) h l = absurd (true≢false (sym h))
settled_later window delay now later events keys (ended s until) h l =
    let parts = settled_parts delay now s until h in
    let by = parts.0 in
    let ins = over_later (until + delay) now later s.ins l parts.1 in
    let outs = over_later (until + delay) now later s.outs l parts.2 in
    ap (is_settled delay later) (stays window events keys s until)
    ∙ and_from (leb until later) (all_over (until + delay) later s.ins && all_over (until + delay) later s.outs) (le-leb until later (omega arith)) (and_from _ _ ins outs)

pub stays_settled : StaysSettled
stays_settled window delay now later events page h l = settled_later window delay now later events page.keys page.phase h l

-- a payment goes to one side or to the other
either_side : (f : Payment → Bool) (ps : List Payment) → amounts_of f ps + amounts_of (λ p. not (f p)) ps ≡ sum_by (λ p. p.amount) ps
either_side f [] = refl
either_side f (p ∷ ps) =
    let here = sum_by-cons (λ q. cond (f q) q.amount 0) p ps in
    let there = sum_by-cons (λ q. cond (not (f q)) q.amount 0) p ps in
    let both = sum_by-cons (λ q. q.amount) p ps in
    let rest = either_side f ps in
    let one : cond (f p) p.amount 0 + cond (not (f p)) p.amount 0 ≡ p.amount = whole (f p) p.amount in
    omega arith
  where
    whole : (b : Bool) (n : ℕ) → cond b n 0 + cond (not b) n 0 ≡ n
    whole true n = omega arith
    whole false n = omega arith

pub nothing_lost : NothingLost
nothing_lost last keys s =
    let ins = either_side (λ p. shown_in_time last p keys) s.ins in
    let outs = either_side (λ p. shown_in_time last p keys) s.outs in
    omega arith

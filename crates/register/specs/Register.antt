-- What the register has of each account, how that changes, and what is paid out. Assumes nothing.
use Rattle.std.specs.Prelude.{ℕ, ◌+◌, Bool, true, false, cond, not, ◌&&◌, ◌||◌, List, [], ◌∷◌, sum_by, nat_le, nat_lt}
use Rattle.std.specs.Str.{bytes_eq}
use Rattle.sheet.specs.declared.types.Payment.{Payment}
use Rattle.sheet.specs.Contents.{Content}
use Rattle.digest.specs.Sha256.{sha256}

-- `disputed s until`: the dispute shows the sheet s, and is open at ticks before `until`; `ended s until`: s counts, for good.
pub data Phase : Type 0 where
  quiet : Phase
  disputed : Content → ℕ → Phase
  ended : Content → ℕ → Phase

-- A key, and the tick at which it was first shown.
pub record KeyAt : Type 0 where
  pub key : List ℕ
  pub tick : ℕ

-- What the register has of one account: its dispute, and the keys shown for it.
pub record Page : Type 0 where
  pub phase : Phase
  pub keys : List KeyAt

abbrev pub blank : Page
blank = record { phase = quiet; keys = [] }

-- A sheet with both signatures comes in at a tick. It opens a dispute, or takes the place of one with a lower number while
-- the dispute is open; else it is turned away.
abbrev pub with_sheet : (window tick : ℕ) → Content → Phase → Phase
with_sheet window tick s quiet = disputed s (tick + window)
with_sheet window tick s (disputed x until) = disputed (cond (nat_lt tick until && nat_lt x.number s.number) s x) until
with_sheet window tick s (ended x until) = ended x until

abbrev pub sheet_shown : (window tick : ℕ) → Content → Page → Page
sheet_shown window tick s page = record { phase = with_sheet window tick s page.phase; keys = page.keys }

-- A key is kept with the tick of its first showing.
abbrev pub with_key_at : ℕ → List ℕ → List KeyAt → List KeyAt
with_key_at tick key [] = record { key = key; tick = tick } ∷ []
with_key_at tick key (k ∷ others) = cond (bytes_eq k.key key) (k ∷ others) (k ∷ with_key_at tick key others)

abbrev pub key_shown : ℕ → List ℕ → Page → Page
key_shown tick key page = record { phase = page.phase; keys = with_key_at tick key page.keys }

-- At this tick a dispute whose time is over has ended.
abbrev pub ended_by : ℕ → Phase → Phase
ended_by tick quiet = quiet
ended_by tick (disputed s until) = cond (nat_le until tick) (ended s until) (disputed s until)
ended_by tick (ended s until) = ended s until

abbrev pub turned_to : ℕ → Page → Page
turned_to tick page = record { phase = ended_by tick page.phase; keys = page.keys }

-- The key of a payment was shown no later than its end, or than a tick, whichever is later.
abbrev pub shown_in_time : ℕ → Payment → List KeyAt → Bool
shown_in_time last p [] = false
shown_in_time last p (k ∷ others) =
    (bytes_eq (sha256 k.key) p.lock && (nat_le k.tick p.end || nat_le k.tick last)) || shown_in_time last p others

-- The amounts of those payments that pass a test.
abbrev pub amounts_of : (Payment → Bool) → List Payment → ℕ
amounts_of test ps = sum_by (λ p. cond (test p) p.amount 0) ps

-- What the node gets if s counts: own, the ins whose key was shown in time, and the outs whose key was not.
abbrev pub paid_out : ℕ → List KeyAt → Content → ℕ
paid_out last keys s =
    s.own + amounts_of (λ p. shown_in_time last p keys) s.ins + amounts_of (λ p. not (shown_in_time last p keys)) s.outs

-- The payout of an account whose dispute has ended; else nothing yet.
abbrev pub payout_of : (delay : ℕ) → List KeyAt → Phase → ℕ
payout_of delay keys quiet = 0
payout_of delay keys (disputed s until) = 0
payout_of delay keys (ended s until) = paid_out (until + delay) keys s

-- The end of each payment, and the tick, lie before now.
abbrev pub all_over : (last now : ℕ) → List Payment → Bool
all_over last now [] = true
all_over last now (p ∷ others) = (nat_lt p.end now && nat_lt last now) && all_over last now others

-- Nothing that is shown from now on changes the payout.
abbrev pub is_settled : (delay now : ℕ) → Phase → Bool
is_settled delay now quiet = false
is_settled delay now (disputed s until) = false
is_settled delay now (ended s until) = nat_le until now && (all_over (until + delay) now s.ins && all_over (until + delay) now s.outs)

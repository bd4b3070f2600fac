-- What the register's rules promise, whatever comes to an account's page and in whatever order. Assumes nothing.
use Rattle.std.specs.Prelude.{◌≡◌, ℕ, ◌+◌, ◌<◌, ◌≤◌, true, List, [], ◌∷◌, ◌++◌, sum_by}
use Rattle.sheet.specs.Contents.{Content, turned_of}
use Rattle.register.specs.Register.{Phase, quiet, disputed, ended, KeyAt, Page, sheet_shown, key_shown, turned_to, paid_out, payout_of, is_settled}

-- What comes at a tick: a sheet with both signatures, a key, or nothing but the tick itself.
pub data Event : Type 0 where
  sheet_comes : ℕ → Content → Event
  key_comes : ℕ → List ℕ → Event
  tick_comes : ℕ → Event

abbrev pub tick_of : Event → ℕ
tick_of (sheet_comes tick s) = tick
tick_of (key_comes tick key) = tick
tick_of (tick_comes tick) = tick

abbrev pub page_on : (window : ℕ) → Event → Page → Page
page_on window (sheet_comes tick s) page = sheet_shown window tick s page
page_on window (key_comes tick key) page = key_shown tick key page
page_on window (tick_comes tick) page = turned_to tick page

-- The page after events, the first of the list first.
abbrev pub page_after : (window : ℕ) → List Event → Page → Page
page_after window [] page = page
page_after window (e ∷ events) page = page_after window events (page_on window e page)

-- None of the events lies before a tick.
abbrev pub NotBefore : ℕ → List Event → Type 0
NotBefore now [] = Unit {0}
NotBefore now (e ∷ events) = (now ≤ tick_of e) × NotBefore now events

-- Once a dispute has ended, the sheet that counts and its `until` stay, whatever comes.
abbrev pub EndedForGood : Type 0
EndedForGood =
    (window : ℕ) (events : List Event) (page : Page) (s : Content) (until : ℕ) →
    page.phase ≡ ended s until → (page_after window events page).phase ≡ ended s until

-- There is a dispute, open or ended, with this `until`, and the sheet that it shows has this number or a higher one.
abbrev pub Shows : (number until : ℕ) → Phase → Type 0
Shows number until quiet = ⊥
Shows number until (disputed s u) = (u ≡ until) × (number ≤ s.number)
Shows number until (ended s u) = (u ≡ until) × (number ≤ s.number)

-- The `until` of a dispute stays, whatever comes, and the number that it shows never falls.
abbrev pub UntilStays : Type 0
UntilStays =
    (window : ℕ) (events : List Event) (page : Page) (number until : ℕ) →
    Shows number until page.phase → Shows number until (page_after window events page).phase

-- A sheet that comes while a dispute is open is shown from then on, or one with its number or a higher one is.
abbrev pub HigherShown : Type 0
HigherShown =
    (window : ℕ) (events : List Event) (page : Page) (x : Content) (until tick : ℕ) (s : Content) →
    page.phase ≡ disputed x until → tick < until →
    Shows s.number until (page_after window (sheet_comes tick s ∷ events) page).phase

-- A key that was shown stays shown, with its tick, whatever comes: keys come to the end of the list.
abbrev pub KeysStay : Type 0
KeysStay =
    (window : ℕ) (events : List Event) (page : Page) →
    (more : List KeyAt) × ((page_after window events page).keys ≡ page.keys ++ more)

-- Nothing that comes at this tick or later changes the payout.
abbrev pub PayoutStays : (delay now : ℕ) → Page → Type 0
PayoutStays delay now page =
    (window : ℕ) (events : List Event) → NotBefore now events →
    payout_of delay (page_after window events page).keys (page_after window events page).phase ≡ payout_of delay page.keys page.phase

-- So it is from the tick on at which an account is settled.
abbrev pub SettledForGood : Type 0
SettledForGood = (delay now : ℕ) (page : Page) → is_settled delay now page.phase ≡ true → PayoutStays delay now page

-- A settled account stays settled, whatever comes.
abbrev pub StaysSettled : Type 0
StaysSettled =
    (window delay now later : ℕ) (events : List Event) (page : Page) →
    is_settled delay now page.phase ≡ true → now ≤ later → is_settled delay later (page_after window events page).phase ≡ true

-- All money on a sheet.
abbrev pub money_of : Content → ℕ
money_of s = s.own + s.theirs + sum_by (λ p. p.amount) s.ins + sum_by (λ p. p.amount) s.outs

-- What the neighbour gets if s counts: what the same rule gives by its own view of s.
abbrev pub paid_to_neighbour : ℕ → List KeyAt → Content → ℕ
paid_to_neighbour last keys s = paid_out last keys (turned_of s)

-- The two payouts are together all money on the sheet that counts.
abbrev pub NothingLost : Type 0
NothingLost =
    (last : ℕ) (keys : List KeyAt) (s : Content) → paid_out last keys s + paid_to_neighbour last keys s ≡ money_of s

-- What a case is made of, and when it holds. Assumes nothing.
use Rattle.std.specs.Prelude.{◌≡◌, ℕ, zero, suc, ◌+◌, ◌-◌, Bool, true, false, not, ◌&&◌, List, [], ◌∷◌, is_some, Ok, Err, Result, ◌==◌, nat_le}
use Prim.Native.String.{String}
use Rattle.std.specs.Str.{bytes_eq}
use Rattle.refusal.specs.declared.Refusal.{Refusal}
use Rattle.refusal.specs.Number.{number_of}
use Rattle.schedule.specs.declared.types.Terms.{Terms}
use Rattle.node_state.specs.Nodes.{account_at}
use Rattle.looking.specs.declared.types.Shown.{Shown}
use Rattle.looking.specs.declared.types.Shown.TheVariants.{Dispute}
use Rattle.looking.specs.Looking.{any_shown, look_of}
use Rattle.moments.specs.Runs.{Deposit, Entry, outcome_of}
use Rattle.moments.specs.Moments.{put_in}
use Rattle.promise_told.specs.World.{World, node_of, terms_of, Coming, sheet_for, key_for, sent_off, look_acts, picture_of, same_shown, is_true, Event, none_due, tick, entry, looks, happens, beginning}
use Rattle.promise_told.specs.Main.{settled_by, payout}

-- The node of all cases: 10 in each of accounts 0 and 1, and 10 of each neighbour.
abbrev pub terms : Terms
terms = record { gap = 110; window = 50; delay = 5; look = 13 }

abbrev pub deposits : List Deposit
deposits = record { own = 10; theirs = 10 } ∷ record { own = 10; theirs = 10 } ∷ []

-- What is printed for an entry: `ok`, or `no` and the number of the refusal.
pub data Answer : Type 0 where
  ok : Answer
  refused : ℕ → Answer

abbrev pub is_answer : Answer → Result (Unit {0}) Refusal → Bool
is_answer ok (Ok u) = true
is_answer ok (Err e) = false
is_answer (refused number) (Ok u) = false
is_answer (refused number) (Err e) = number_of e == number

-- What a look shows to the register: the sheet of an account with this number (`show`), a key for an account (`key`).
pub data Sent : Type 0 where
  sheet : (account number : ℕ) → Sent
  key : ℕ → List ℕ → Sent

abbrev pub is_sent : Sent → Coming → Bool
is_sent (sheet i number) (sheet_for j s by) = i == j && number == s.number
is_sent (sheet i number) (key_for j k by) = false
is_sent (key i k) (sheet_for j s by) = false
is_sent (key i k) (key_for j l by) = i == j && bytes_eq k l

-- Just these, in this order.
abbrev pub are_sent : List Sent → List Coming → Bool
are_sent [] [] = true
are_sent [] (y ∷ ys) = false
are_sent (x ∷ xs) [] = false
are_sent (x ∷ xs) (y ∷ ys) = is_sent x y && are_sent xs ys

-- What is found: `own i x`: held of account i has own x. `free i`: no next is under way in account i. `dispute i number
-- until`: in the register a dispute of account i, open or ended, shows the sheet with this number, and ends or ended then.
-- `awaited`: something that the node sent to the register has to be in it before the next tick.
-- `paid p q`: both accounts are settled, 0 pays out p and 1 pays out q, and that is together at least what the node put in.
pub data Fact : Type 0 where
  own : (account own : ℕ) → Fact
  free : ℕ → Fact
  dispute : (account number until : ℕ) → Fact
  awaited : Fact
  paid : (first second : ℕ) → Fact

-- An account is settled, as the promise has it.
abbrev pub is_settled : World → ℕ → Bool
is_settled w i = settled_by (terms_of w).delay w.now (account_at (node_of w) i) (w.pages i).phase

abbrev pub is_found : World → Fact → Bool
is_found w (own i x) = (account_at (node_of w) i).held.own == x
is_found w (free i) = not (is_some (account_at (node_of w) i).next)
is_found w (dispute i number until) = any_shown (same_shown (Dispute i number until)) (picture_of w)
is_found w awaited = not (none_due w.now w.coming)
is_found w (paid p q) =
    (is_settled w 0 && payout w 0 == p) && ((is_settled w 1 && payout w 1 == q) && nat_le (put_in deposits) (payout w 0 + payout w 1))

-- One step, and what must come of it. The first two are lines of the node's input, with what it prints.
-- `given e a`: the node is given an entry, and its answer is a. `look told sent`: the node looks, and is told this, which is
-- just what the register shows at that tick; the look is taken, and shows this to the register.
-- `up_to t`: time goes on to tick t. `event e`: what the node isn't told at once (a neighbour shows a sheet or a key, or
-- something comes in). `found f`: so it is now.
pub data Step : Type 0 where
  given : Entry → Answer → Step
  look : List Shown → List Sent → Step
  up_to : ℕ → Step
  event : Event → Step
  found : Fact → Step

-- So many ticks.
abbrev pub ticks : ℕ → World → World
ticks zero w = w
ticks (suc many) w = ticks many (happens tick w)

abbrev pub after : Step → World → World
after (given e a) w = happens (entry e) w
after (look told sent) w = happens (looks told) w
after (up_to t) w = ticks (t - w.now) w
after (event e) w = happens e w
after (found f) w = w

-- Did that come of it: the step, the world before it and the world after it.
abbrev pub is_so : Step → World → World → Bool
is_so (given e a) w v = is_answer a (outcome_of (node_of w) e).answer
is_so (look told sent) w v =
    is_true w told && (is_answer ok (look_of (node_of w) w.now told).answer && are_sent sent (sent_off w.now (look_acts w told)))
is_so (up_to t) w v = v.now == t
is_so (event e) w v = true
is_so (found f) w v = is_found v f

-- The steps, one after the other.
abbrev pub goes : List Step → World → Bool
goes [] w = true
goes (s ∷ steps) w =
    let v : World = after s w in
    is_so s w v && goes steps v

-- A case: its name, which is that of the file with its lines in examples/cases, and its steps from the beginning on.
pub record Row : Type 0 where
  pub name : String
  pub steps : List Step

abbrev pub Holds : Row → Type 0
Holds row = goes row.steps (beginning terms deposits) ≡ true

abbrev pub AllHold : List Row → Type 0
AllHold [] = Unit {0}
AllHold (row ∷ rows) = Holds row × AllHold rows

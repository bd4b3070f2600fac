-- The cases, one row each, and that every row holds. Assumes nothing.
use Rattle.std.specs.Prelude.{ℕ, zero, suc, ◌+◌, List, [], ◌∷◌, ◌++◌}
use Rattle.rules.specs.declared.types.Call.TheVariants.{Pass, Pay, Get, GiveUp}
use Rattle.looking.specs.declared.types.Shown.{Shown}
use Rattle.looking.specs.declared.types.Shown.TheVariants.{Dispute, Key}
use Rattle.moments.specs.Runs.{call}
use Rattle.promise_told.specs.World.{shows, reveals, arrives}
use Rattle.cases.specs.Rows.{ok, refused, sheet, key, own, free, dispute, awaited, paid, Step, given, look, up_to, event, found, Row, AllHold}
use Rattle.cases.specs.Sheets.{the_key, L, second_lock, five, none, one, two, proposes, proposes_signed, signs, sends_key}

-- Tick 0: neighbour 0 offers an in of 5 with lock L and end 300, with its signature, and the node signs it back.
abbrev pub offered : List Step
offered = look [] [] ∷ given (proposes_signed 0 1 5 10 none (one (five 300))) ok ∷ []

-- It is passed on to account 1 as 5 with end 190, and neighbour 1 signs that back.
abbrev pub passed_on : List Step
passed_on = offered ++ given (call (Pass 0 1 (five 190))) ok ∷ given (signs 1 1) ok ∷ found (own 0 10) ∷ found (own 1 5) ∷ []

-- A. The key comes: paying at 1, getting at 0, each signed back.
abbrev pub payment_through : Row
payment_through =
    record {
      name = "a-payment-through";
      steps =
          passed_on
          ++ given (sends_key 1) ok
          ∷ given (call (Pay 1 L)) ok
          ∷ given (signs 1 2) ok
          ∷ given (call (Get 0 L)) ok
          ∷ given (signs 0 2) ok
          ∷ found (own 0 15)
          ∷ found (own 1 5)
          ∷ found (free 0)
          ∷ found (free 1)
          ∷ [];
    }

-- B. Passed on and signed back, and then silence: the neighbours answer no more, and the node looks. What it is paid out in
-- the end is together at least the 20 that it put in. Four runs are rows here, by when the key is shown; that it is so
-- whatever sheet counts and whenever the key is shown is the theorem Main of crates/promise_told.

-- So many looks, 13 ticks apart, the first at this tick; each is told this, and shows nothing.
abbrev pub looking : (first many : ℕ) → List Shown → List Step
looking at zero told = []
looking at (suc many) told = up_to at ∷ look told [] ∷ looking (at + 13) many told

-- Tick 195: the out's end is past, so the node shows sheet 1 of account 1. It is in at tick 200, and the dispute ends at 250.
abbrev pub out_over : List Step
out_over =
    passed_on
    ++ looking 13 14 []
    ++ up_to 195
    ∷ look [] (sheet 1 1 ∷ [])
    ∷ up_to 200
    ∷ event (arrives 0)
    ∷ found (dispute 1 1 250)
    ∷ []

-- The in's end is past at this tick, so the node shows sheet 1 of account 0, which is in 5 ticks later.
abbrev pub in_over : ℕ → List Shown → List Step
in_over at told = up_to at ∷ look told (sheet 0 1 ∷ []) ∷ up_to (at + 5) ∷ event (arrives 0) ∷ found (dispute 0 1 (at + 55)) ∷ []

-- The key is never shown: the in is the neighbour's, and the out is the node's.
abbrev pub key_never_shown : Row
key_never_shown =
    record {
      name = "b-key-never-shown";
      steps =
          out_over
          ++ looking 208 8 (Dispute 1 1 250 ∷ [])
          ++ in_over 312 (Dispute 1 1 250 ∷ [])
          ++ looking 325 4 (Dispute 0 1 367 ∷ Dispute 1 1 250 ∷ [])
          ++ up_to 373
          ∷ found (paid 10 10)
          ∷ [];
    }

-- The key is shown for account 1 at this tick, after the look at 247 and before that at 260. At tick 273 the in's end is near,
-- and the node shows the key for account 0.
abbrev pub key_shown_at : ℕ → List Step
key_shown_at at =
    out_over
    ++ looking 208 4 (Dispute 1 1 250 ∷ [])
    ++ up_to at
    ∷ event (reveals 1 the_key)
    ∷ looking 260 1 (Dispute 1 1 250 ∷ Key 1 the_key at ∷ [])
    ++ up_to 273
    ∷ look (Dispute 1 1 250 ∷ Key 1 the_key at ∷ []) (key 0 the_key ∷ [])
    ∷ up_to 278
    ∷ event (arrives 0)
    ∷ looking 286 2 (Dispute 1 1 250 ∷ Key 0 the_key 278 ∷ Key 1 the_key at ∷ [])
    ++ in_over 312 (Dispute 1 1 250 ∷ Key 0 the_key 278 ∷ Key 1 the_key at ∷ [])
    ++ looking 325 4 (Dispute 0 1 367 ∷ Dispute 1 1 250 ∷ Key 0 the_key 278 ∷ Key 1 the_key at ∷ [])
    ++ up_to 373
    ∷ []

-- At 255, the last tick at which it counts there: the out is the neighbour's, and the in is the node's.
abbrev pub key_at_last_tick : Row
key_at_last_tick = record { name = "b-key-at-the-last-tick"; steps = key_shown_at 255 ++ found (paid 15 5) ∷ [] }

-- At 256, one tick later: both are the node's.
abbrev pub key_too_late : Row
key_too_late = record { name = "b-key-a-tick-too-late"; steps = key_shown_at 256 ++ found (paid 15 10) ∷ [] }

-- The key is shown for account 1 at tick 210, and the node looks at closer ticks. It pays no more: it has seen a dispute there.
abbrev pub then_silence : Row
then_silence =
    record {
      name = "b-then-silence";
      steps =
          out_over
          ++ looking 203 1 (Dispute 1 1 250 ∷ [])
          ++ up_to 210
          ∷ event (reveals 1 the_key)
          ∷ looking 216 4 (Dispute 1 1 250 ∷ Key 1 the_key 210 ∷ [])
          ++ up_to 265
          ∷ look (Dispute 1 1 250 ∷ Key 1 the_key 210 ∷ []) (key 0 the_key ∷ [])
          ∷ up_to 268
          ∷ event (arrives 0)
          ∷ looking 278 2 (Dispute 1 1 250 ∷ Key 1 the_key 210 ∷ Key 0 the_key 268 ∷ [])
          ++ up_to 301
          ∷ look (Dispute 1 1 250 ∷ Key 1 the_key 210 ∷ Key 0 the_key 268 ∷ []) (sheet 0 1 ∷ [])
          ∷ given (call (Pay 1 L)) (refused 2)
          ∷ up_to 306
          ∷ event (arrives 0)
          ∷ looking 306 5 (Dispute 1 1 250 ∷ Dispute 0 1 356 ∷ Key 1 the_key 210 ∷ Key 0 the_key 268 ∷ [])
          ++ up_to 362
          ∷ found (paid 15 5)
          ∷ [];
    }

-- C. Passed on as 6, more than came in; with end 191, closer than the gap; to the account that it came from.
abbrev pub too_much_or_too_late : Row
too_much_or_too_late =
    record {
      name = "c-too-much-or-too-late";
      steps =
          offered
          ++ given (call (Pass 0 1 (record { lock = L; amount = 6; end = 190 }))) (refused 6)
          ∷ given (call (Pass 0 1 (five 191))) (refused 7)
          ∷ given (call (Pass 0 0 (five 190))) (refused 4)
          ∷ [];
    }

-- D. The offer came without its signature, so a next is under way at 0.
abbrev pub not_signed_back : Row
not_signed_back =
    record {
      name = "d-not-signed-back";
      steps =
          look [] []
          ∷ given (proposes 0 1 5 10 none (one (five 300))) ok
          ∷ given (call (Pass 0 1 (five 190))) (refused 3)
          ∷ [];
    }

-- E. Neighbour 1 returns the out, and the node has signed that. It gives up the in only once neighbour 1 has signed too.
abbrev pub giving_up : Row
giving_up =
    record {
      name = "e-giving-up";
      steps =
          passed_on
          ++ given (proposes 1 2 10 10 none none) ok
          ∷ given (call (GiveUp 0 L)) (refused 9)
          ∷ given (signs 1 2) ok
          ∷ given (call (GiveUp 0 L)) ok
          ∷ given (signs 0 2) ok
          ∷ found (own 0 10)
          ∷ found (own 1 10)
          ∷ [];
    }

-- F. The node holds sheet 3 of account 0, and at tick 10 sheet 0 is shown in the register. The node looks at 12, and sheet 3
-- is in by 17: it comes as late as it may. The look at 25 finds it there. In between the node signs nothing.
abbrev pub old_sheet_shown : Row
old_sheet_shown =
    record {
      name = "f-an-old-sheet-shown";
      steps =
          offered
          ++ given (sends_key 0) ok
          ∷ given (proposes_signed 0 2 5 15 none none) ok
          ∷ given (proposes_signed 0 3 2 15 none (one (record { lock = second_lock; amount = 3; end = 300 }))) ok
          ∷ up_to 10
          ∷ event (shows 0)
          ∷ found (dispute 0 0 60)
          ∷ up_to 12
          ∷ look (Dispute 0 0 60 ∷ []) (sheet 0 3 ∷ [])
          ∷ given (call (GiveUp 0 second_lock)) (refused 2)
          ∷ up_to 17
          ∷ found awaited
          ∷ event (arrives 0)
          ∷ found (dispute 0 3 60)
          ∷ up_to 25
          ∷ look (Dispute 0 3 60 ∷ []) []
          ∷ [];
    }

-- G. L is offered again: at 0, and at 1.
abbrev pub lock_again : Row
lock_again =
    record {
      name = "g-the-lock-again";
      steps =
          passed_on
          ++ given (proposes_signed 0 2 0 10 none (two (five 400) (five 300))) (refused 5)
          ∷ given (proposes_signed 1 2 5 5 (one (five 190)) (one (five 400))) (refused 5)
          ∷ [];
    }

abbrev pub table : List Row
table =
    payment_through
    ∷ key_never_shown
    ∷ key_at_last_tick
    ∷ key_too_late
    ∷ then_silence
    ∷ too_much_or_too_late
    ∷ not_signed_back
    ∷ giving_up
    ∷ old_sheet_shown
    ∷ lock_again
    ∷ []

-- Every row of the table holds.
abbrev pub CasesHold : Type 0
CasesHold = AllHold table

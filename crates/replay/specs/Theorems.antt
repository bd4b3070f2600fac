-- What holds of a start: it goes by the file's whole records, finds again what was written, and wherever the file is cut it
-- finds a first part of that. Assumes nothing.
use Rattle.std.specs.Prelude.{◌≡◌, ℕ, Bool, true, false, cond, not, ◌||◌, List, [], ◌∷◌, map, length, take, Some, None, Ok, Err, Option, Result}
use Rattle.std.specs.List.{flat_map, AllByRecursion}
use Rattle.change.specs.Totals.{total_of}
use Rattle.node_state.specs.Nodes.{NodeState, account_at}
use Rattle.outcome.specs.Acts.{signed_in, both_in, passed_on, key_is, Act, recorded}
use Rattle.outcome.specs.Records.{acted_all}
use Rattle.journal.specs.Records.{Recorded, signed_record, both_record, passed_record, key_record, record_bytes, records_of, whole_part}
use Rattle.journal.specs.Theorems.{GoodRecord, whole_before}
use Rattle.replay.specs.Fits.{fits, is_first}
use Rattle.replay.specs.Takes.{taken}
use Rattle.replay.specs.Starts.{Progress, progress_of}

-- Records taken one after the other: whether one is other than a first sheet, and the node; None where one doesn't fit.
abbrev pub replayed : List Recorded → Bool → NodeState → Option (Bool × NodeState)
replayed [] others n = Some (others, n)
replayed (r ∷ rs) others n = cond (fits r others n) (replayed rs (others || not (is_first r)) (taken r n)) None

-- What a start gives, by what the whole records give and how far they reach: an Ok reach ends before a short record or at
-- the file's end, an Err at a damaged one.
abbrev pub Agrees : Option (Bool × NodeState) → Result ℕ ℕ → Result Progress ℕ → Type 0
Agrees (Some x) (Ok whole) p = p ≡ Ok (record { whole = whole; others = x.0; node = x.1 })
Agrees (Some x) (Err at) p = p ≡ Err at
Agrees None reach p = (at : ℕ) × (p ≡ Err at)

-- A start goes by the whole records of the file, and by nothing else.
abbrev pub ByRecords : Type 0
ByRecords = (n : NodeState) (bytes : List ℕ) → Agrees (replayed (records_of bytes) false n) (whole_part bytes) (progress_of n bytes)

-- Where each record fits, and the file is cut anywhere, a start gives what the records that lie whole before the cut give,
-- and finds no damage.
abbrev pub CutAnywhere : Type 0
CutAnywhere =
    (n : NodeState) (rs : List Recorded) (last : Bool × NodeState) → AllByRecursion GoodRecord rs → replayed rs false n ≡ Some last → (cut : ℕ) → (there : Bool × NodeState)
    × (replayed (whole_before cut rs) false n ≡ Some there)
    × (progress_of n (take cut (flat_map record_bytes rs)) ≡ Ok (record { whole = length (flat_map record_bytes (whole_before cut rs)); others = there.0; node = there.1 }))

-- What the node did when it wrote a record.
abbrev pub act_of : Recorded → Act
act_of (signed_record s) = recorded (signed_in s.account s)
act_of (both_record s) = recorded (both_in s.account s)
act_of (passed_record lock from to) = recorded (passed_on lock from to)
act_of (key_record key) = recorded (key_is key)

-- After the first sheets, records give the node that it was when it wrote them.
abbrev pub AsWritten : Type 0
AsWritten = (n : NodeState) (rs : List Recorded) (last : Bool × NodeState) → replayed rs true n ≡ Some last → last.1 ≡ acted_all (map act_of rs) n

-- After the first sheets, the money of each account's held sheet stays what it was: the two deposits.
abbrev pub DepositsStay : Type 0
DepositsStay =
    (n : NodeState) (rs : List Recorded) (last : Bool × NodeState) → replayed rs true n ≡ Some last → (i : ℕ) → total_of (account_at last.1 i).held ≡ total_of (account_at n i).held

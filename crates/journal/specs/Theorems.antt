-- What holds of the file: cut anywhere, the records that lie whole before the cut are read back, and nothing is read
-- that was not written so. Assumes nothing.
use Rattle.std.specs.Prelude.{◌≡◌, ℕ, ◌-◌, ◌<◌, ◌≤◌, cond, List, [], ◌∷◌, ◌++◌, length, take, drop, Ok, Err, Result, nat_le}
use Rattle.std.specs.List.{flat_map, AllByRecursion}
use Rattle.sheet_bytes.specs.Theorems.{AreBytes, Good}
use Rattle.journal.specs.Records.{Recorded, signed_record, both_record, passed_record, key_record, record_bytes, Outcome, whole_record, short_record, damaged_record, record_read, records_of, whole_part}

-- A record as the code has it: sheets are good, locks and keys are 32 bytes, accounts are bytes.
abbrev pub GoodRecord : Recorded → Type 0
GoodRecord (signed_record s) = Good s
GoodRecord (both_record s) = Good s
GoodRecord (passed_record lock from to) = (length lock ≡ 32) × AreBytes lock × (from < 256) × (to < 256)
GoodRecord (key_record key) = (length key ≡ 32) × AreBytes key

-- Whatever follows a record's bytes, reading gives the record back and takes just its bytes.
abbrev pub OneBack : Recorded → Type 0
OneBack r = (rest : List ℕ) → record_read (record_bytes r ++ rest) ≡ whole_record r (length (record_bytes r))

-- The records that lie whole before a cut, where they stand one after another from the first byte on.
abbrev pub whole_before : ℕ → List Recorded → List Recorded
whole_before cut [] = []
whole_before cut (r ∷ rs) = cond (nat_le (length (record_bytes r)) cut) (r ∷ whole_before (cut - length (record_bytes r)) rs) []

-- Wherever the bytes of good records are cut, just those whole before the cut are read, and the whole part is theirs.
abbrev pub ReadBack : Type 0
ReadBack =
    (rs : List Recorded) → AllByRecursion GoodRecord rs → (cut : ℕ) → (records_of (take cut (flat_map record_bytes rs)) ≡ whole_before cut rs)
    × (whole_part (take cut (flat_map record_bytes rs)) ≡ Ok (length (flat_map record_bytes (whole_before cut rs))))

-- Whatever is read as one record is good and was written so: a record has no second form.
abbrev pub OneWritten : Type 0
OneWritten =
    (bytes : List ℕ) (r : Recorded) (n : ℕ) → AreBytes bytes → record_read bytes ≡ whole_record r n → GoodRecord r × (n ≤ length bytes) × (take n bytes ≡ record_bytes r)

-- Good records take just the bytes before a place, and at the place there is this.
pub record Split (bytes : List ℕ) (rs : List Recorded) (at : ℕ) (there : Outcome) : Type 0 where
  pub good : AllByRecursion GoodRecord rs
  pub within : at ≤ length bytes
  pub before : take at bytes ≡ flat_map record_bytes rs
  pub after : record_read (drop at bytes) ≡ there

-- A whole part ends where a record is short or none is left, or where one is damaged.
abbrev pub SplitAt : List ℕ → List Recorded → Result ℕ ℕ → Type 0
SplitAt bytes rs (Ok at) = Split bytes rs at short_record
SplitAt bytes rs (Err at) = Split bytes rs at damaged_record

-- The records of any bytes were written just so, they are the whole part, and past it there is no whole record.
abbrev pub OnlyWritten : Type 0
OnlyWritten = (bytes : List ℕ) → AreBytes bytes → SplitAt bytes (records_of bytes) (whole_part bytes)

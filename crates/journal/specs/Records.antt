-- Records of a node's file, their bytes, and what is read from bytes. Assumes nothing.
use Rattle.std.specs.Prelude.{ℕ, zero, suc, ◌+◌, Bool, cond, ◌||◌, List, [], ◌∷◌, ◌++◌, length, take, drop, Ok, Err, Result, ◌==◌, nat_lt, slice_index}
use Rattle.refusal.specs.declared.Refusal.{Refusal}
use Rattle.sheet.specs.Contents.{Content}
use Rattle.sheet_bytes.specs.Bytes.{sheet_bytes, sheet_read, ins_of, outs_of}

-- What a record says: a sheet that the node has signed, one that both have signed, a lock that was passed on from one
-- account to another, a key.
pub data Recorded : Type 0 where
  signed_record : Content → Recorded
  both_record : Content → Recorded
  passed_record : (lock : List ℕ) (from to : ℕ) → Recorded
  key_record : (key : List ℕ) → Recorded

-- The first of its bytes says what it is; the others are a sheet, a lock and two accounts of a byte each, or a key.
abbrev pub first_byte : Recorded → ℕ
first_byte (signed_record s) = 4
first_byte (both_record s) = 5
first_byte (passed_record lock from to) = 6
first_byte (key_record key) = 7

abbrev pub rest_bytes : Recorded → List ℕ
rest_bytes (signed_record s) = sheet_bytes s
rest_bytes (both_record s) = sheet_bytes s
rest_bytes (passed_record lock from to) = lock ++ from ∷ to ∷ []
rest_bytes (key_record key) = key

abbrev pub record_bytes : Recorded → List ℕ
record_bytes r = first_byte r ∷ rest_bytes r

-- What comes of reading: a whole record and how many bytes it took; the bytes end inside a record, or there are
-- none; the first byte is of no record, or a count is above 32.
pub data Outcome : Type 0 where
  whole_record : Recorded → ℕ → Outcome
  short_record : Outcome
  damaged_record : Outcome

-- One of a sheet's two counts is above 32. A count that is not there reads as 0, so it is none.
abbrev pub overfull : List ℕ → Bool
overfull bs = nat_lt 32 (ins_of bs) || nat_lt 32 (outs_of bs)

-- A record of a sheet that was read past its first byte; what isn't read is short.
abbrev pub of_sheet : (Content → Recorded) → Result (Content × ℕ) Refusal → Outcome
of_sheet kind (Ok got) = whole_record (kind got.0) (1 + got.1)
of_sheet kind (Err e) = short_record

-- What is past the first byte of a record with a sheet, of one with a lock passed on, of one with a key.
abbrev pub sheet_after : (Content → Recorded) → List ℕ → Outcome
sheet_after kind bs = cond (overfull bs) damaged_record (of_sheet kind (sheet_read bs))

abbrev pub passed_after : List ℕ → Outcome
passed_after bs =
    cond (nat_lt (length bs) 34) short_record (whole_record (passed_record (take 32 bs) (slice_index bs 32) (slice_index bs 33)) 35)

abbrev pub key_after : List ℕ → Outcome
key_after bs = cond (nat_lt (length bs) 32) short_record (whole_record (key_record (take 32 bs)) 33)

-- By the first byte.
abbrev pub by_first : ℕ → List ℕ → Outcome
by_first first bs =
    cond (first == 4) (sheet_after signed_record bs)
    (cond (first == 5) (sheet_after both_record bs)
    (cond (first == 6) (passed_after bs)
    (cond (first == 7) (key_after bs) damaged_record)))

-- What the bytes begin with.
abbrev pub record_read : List ℕ → Outcome
record_read bs = cond (length bs == 0) short_record (by_first (slice_index bs 0) (drop 1 bs))

-- The whole records from the first byte on, at most so many: none past one that is short or damaged.
abbrev pub records_after : (List ℕ → List Recorded) → List ℕ → Outcome → List Recorded
records_after more bs (whole_record r n) = r ∷ more (drop n bs)
records_after more bs short_record = []
records_after more bs damaged_record = []

abbrev pub first_records : ℕ → List ℕ → List Recorded
first_records zero bs = []
first_records (suc turns) bs = records_after (first_records turns) bs (record_read bs)

-- All of them: each takes a byte at least.
unfoldable pub records_of : List ℕ → List Recorded
records_of bs = first_records (length bs) bs

-- How far the whole records reach from a place on, after at most so many: Ok with the place where a short one begins
-- or the bytes end, Err with that of a damaged one.
abbrev pub reach_after : (ℕ → Result ℕ ℕ) → ℕ → Outcome → Result ℕ ℕ
reach_after more at (whole_record r n) = more (at + n)
reach_after more at short_record = Ok at
reach_after more at damaged_record = Err at

abbrev pub reach_from : ℕ → List ℕ → ℕ → Result ℕ ℕ
reach_from zero bs at = Ok at
reach_from (suc turns) bs at = reach_after (reach_from turns bs) at (record_read (drop at bs))

-- From the first byte on.
unfoldable pub whole_part : List ℕ → Result ℕ ℕ
whole_part bs = reach_from (length bs) bs 0

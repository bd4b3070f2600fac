-- What the code's records and readings mean. Assumes nothing.
use Rattle.std.specs.Prelude.{ℕ, Some, None, Ok, Err, Option, Result}
use Rattle.sheet.specs.Contents.{content_of}
use Rattle.journal.specs.declared.types.Record.{Record}
use Rattle.journal.specs.declared.types.Record.TheVariants.{Signed, Both, Passed, Key}
use Rattle.journal.specs.declared.types.RecordRead.{RecordRead}
use Rattle.journal.specs.declared.types.Damaged.{Damaged}
use Rattle.journal.specs.Records.{Recorded, signed_record, both_record, passed_record, key_record, Outcome, whole_record, short_record, damaged_record}

abbrev pub record_of : Record → Recorded
record_of (Signed s) = signed_record (content_of s)
record_of (Both s) = both_record (content_of s)
record_of (Passed lock from to) = passed_record lock from to
record_of (Key key) = key_record key

-- None: the bytes end inside a record, or none is left.
abbrev pub outcome : Result (Option RecordRead) Damaged → Outcome
outcome (Ok (Some got)) = whole_record (record_of got.record) got.used
outcome (Ok None) = short_record
outcome (Err e) = damaged_record

-- A fact of how many bytes a whole record took.
abbrev pub Uses : Result (Option RecordRead) Damaged → (ℕ → Type 0) → Type 0
Uses (Ok (Some got)) P = P got.used
Uses (Ok None) P = Unit {0}
Uses (Err e) P = Unit {0}

-- How far the whole records reach: the place of a damaged one is the number in its fault.
abbrev pub reach : Result ℕ Damaged → Result ℕ ℕ
reach (Ok at) = Ok at
reach (Err e) = Err e.at

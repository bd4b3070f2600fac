-- What the bytes of a message say. Assumes nothing.
use Rattle.std.specs.Prelude.{ℕ, cond, ◌&&◌, List, length, take, drop, Ok, Err, Result, ◌==◌, slice_index}
use Rattle.refusal.specs.declared.Refusal.{Refusal}
use Rattle.refusal.specs.declared.Refusal.TheVariants.{Unreadable}
use Rattle.sheet.specs.declared.types.Sheet.{Sheet}
use Rattle.sheet.specs.Contents.{Content, content_of}
use Rattle.sheet_bytes.specs.Bytes.{sheet_read, number_of}
use Rattle.rules.specs.declared.types.Message.{Message}
use Rattle.rules.specs.declared.types.Message.TheVariants.{Proposed, ProposedSigned, Signed, Key}
use Rattle.judgement.specs.declared.types.Signature.{Signature}

-- A message by what it means: a sheet by its content.
pub data Told : Type 0 where
  proposed : Content → Told
  proposed_signed : Content → Signature → Told
  signed : Signature → Told
  key : List ℕ → Told

abbrev pub told_by : Message → Told
told_by (Proposed s) = proposed (content_of s)
told_by (ProposedSigned s g) = proposed_signed (content_of s) g
told_by (Signed g) = signed g
told_by (Key k) = key k

abbrev pub on_told : Result Message Refusal → Result Told Refusal
on_told (Ok m) = Ok (told_by m)
on_told (Err e) = Err e

abbrev pub sheet_of : Result Sheet Refusal → Result Content Refusal
sheet_of (Ok s) = Ok (content_of s)
sheet_of (Err e) = Err e

-- The sheet that was read, if it took all the bytes.
abbrev pub all : ℕ → Result (Content × ℕ) Refusal → Result Content Refusal
all n (Ok r) = cond (r.1 == n) (Ok r.0) (Err Unreadable)
all n (Err e) = Err Unreadable

-- Message 1: a sheet proposed as next.
abbrev pub proposed_read : List ℕ → Result Content Refusal
proposed_read bs = cond (slice_index bs 0 == 1) (all (length (drop 1 bs)) (sheet_read (drop 1 bs))) (Err Unreadable)

-- Message 2: the sender's signature: its number for the account, and the number of the sheet.
abbrev pub signature_read : List ℕ → Result Signature Refusal
signature_read bs =
    cond (slice_index bs 0 == 2 && length bs == 6) (Ok (record { account = slice_index bs 1; number = number_of (drop 2 bs) })) (Err Unreadable)

-- Message 3: a key of 32 bytes.
abbrev pub key_read : List ℕ → Result (List ℕ) Refusal
key_read bs = cond (slice_index bs 0 == 3 && length bs == 33) (Ok (take 32 (drop 1 bs))) (Err Unreadable)

abbrev pub as_proposed : Result Content Refusal → Result Told Refusal
as_proposed (Ok s) = Ok (proposed s)
as_proposed (Err e) = Err e

abbrev pub as_signed : Result Signature Refusal → Result Told Refusal
as_signed (Ok g) = Ok (signed g)
as_signed (Err e) = Err e

abbrev pub as_key : Result (List ℕ) Refusal → Result Told Refusal
as_key (Ok k) = Ok (key k)
as_key (Err e) = Err e

-- One message, by its first byte.
abbrev pub message_read : List ℕ → Result Told Refusal
message_read bs =
    cond (slice_index bs 0 == 1) (as_proposed (proposed_read bs)) (cond (slice_index bs 0 == 2) (as_signed (signature_read bs)) (as_key (key_read bs)))

-- A sheet and the signature under it, as one.
abbrev pub as_pair : Result Content Refusal → Result Signature Refusal → Result Told Refusal
as_pair (Ok s) (Ok g) = Ok (proposed_signed s g)
as_pair (Ok s) (Err e) = Err e
as_pair (Err e) r = Err e

abbrev pub pair_read : List ℕ → List ℕ → Result Told Refusal
pair_read sheet signature = as_pair (proposed_read sheet) (signature_read signature)

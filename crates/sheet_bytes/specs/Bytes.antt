-- The bytes of numbers, payments and sheets, and what is read from bytes. Assumes nothing.
use Rattle.std.specs.Prelude.{ℕ, zero, suc, ◌+◌, ◌*◌, ◌/◌, ◌%◌, ◌^◌, Bool, cond, ◌&&◌, List, [], ◌∷◌, ◌++◌, length, take, drop, Some, None, Ok, Err, Option, Result, nat_le, slice_index}
use Rattle.std.specs.List.{flat_map}
use Rattle.refusal.specs.declared.Refusal.{Refusal}
use Rattle.refusal.specs.declared.Refusal.TheVariants.{Unreadable}
use Rattle.sheet.specs.declared.types.Payment.{Payment}
use Rattle.sheet.specs.Contents.{Content}

-- A number below 2^32: four bytes, the high one first.
abbrev pub number_bytes : ℕ → List ℕ
number_bytes n = (n / 2 ^ 24 % 256) ∷ (n / 2 ^ 16 % 256) ∷ (n / 2 ^ 8 % 256) ∷ (n % 256) ∷ []

-- A payment, 40 bytes: the lock's 32, the amount, the end.
abbrev pub payment_bytes : Payment → List ℕ
payment_bytes p = p.lock ++ number_bytes p.amount ++ number_bytes p.end

-- Payments: how many, in one byte, and then each of them.
abbrev pub list_bytes : List Payment → List ℕ
list_bytes ps = length ps ∷ flat_map payment_bytes ps

-- The head of a sheet: the account in one byte, the number, own, theirs.
unfoldable pub head_bytes : Content → List ℕ
head_bytes s = (s.account ∷ []) ++ number_bytes s.number ++ number_bytes s.own ++ number_bytes s.theirs

-- A sheet: the head, the ins, the outs.
unfoldable pub sheet_bytes : Content → List ℕ
sheet_bytes s = head_bytes s ++ list_bytes s.ins ++ list_bytes s.outs

-- The number that the first four bytes are.
abbrev pub number_of : List ℕ → ℕ
number_of bs = slice_index bs 0 * 2 ^ 24 + slice_index bs 1 * 2 ^ 16 + slice_index bs 2 * 2 ^ 8 + slice_index bs 3

-- The payment that the first 40 bytes are.
abbrev pub payment_of : List ℕ → Payment
payment_of bs = record { lock = take 32 bs; amount = number_of (drop 32 bs); end = number_of (drop 36 bs) }

-- So many payments, from the first byte on.
abbrev pub payments_of : ℕ → List ℕ → List Payment
payments_of zero bs = []
payments_of (suc n) bs = payment_of bs ∷ payments_of n (drop 40 bs)

-- The number at a place, if its bytes are there.
abbrev pub number_read : List ℕ → ℕ → Option ℕ
number_read bs at = cond (nat_le (at + 4) (length bs)) (Some (number_of (drop at bs))) None

-- The payment at a place, if its bytes are there.
abbrev pub payment_read : List ℕ → ℕ → Option Payment
payment_read bs at = cond (nat_le (at + 40) (length bs)) (Some (payment_of (drop at bs))) None

-- How many ins a sheet says that it has, and how many outs: the byte past the ins.
abbrev pub ins_of : List ℕ → ℕ
ins_of bs = slice_index bs 13

abbrev pub outs_of : List ℕ → ℕ
outs_of bs = slice_index bs (14 + 40 * ins_of bs)

-- How many bytes such a sheet takes.
abbrev pub size_of : List ℕ → ℕ
size_of bs = 15 + 40 * ins_of bs + 40 * outs_of bs

-- The bytes begin with a whole sheet: neither count is above 32, and all that they say is there.
abbrev pub whole : List ℕ → Bool
whole bs =
    nat_le 14 (length bs) && (nat_le (ins_of bs) 32 && (nat_le (15 + 40 * ins_of bs) (length bs) && (nat_le (outs_of bs) 32 && nat_le (size_of bs) (length bs))))

-- The two counts, if the sheet is whole.
abbrev pub counts_read : List ℕ → Option (ℕ × ℕ)
counts_read bs = cond (whole bs) (Some (ins_of bs, outs_of bs)) None

-- The sheet that they begin with.
abbrev pub sheet_of : List ℕ → Content
sheet_of bs =
    record { account = slice_index bs 0; number = number_of (drop 1 bs); own = number_of (drop 5 bs); theirs = number_of (drop 9 bs); ins = payments_of (ins_of bs) (drop 14 bs); outs = payments_of (outs_of bs) (drop (15 + 40 * ins_of bs) bs) }

-- What reading gives: the sheet and how many bytes it took.
abbrev pub sheet_read : List ℕ → Result (Content × ℕ) Refusal
sheet_read bs = cond (whole bs) (Ok (sheet_of bs, size_of bs)) (Err Unreadable)

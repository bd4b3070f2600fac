-- What holds of the bytes of sheets: what was written is read back, and nothing else can be read. Assumes nothing.
use Rattle.std.specs.Prelude.{◌≡◌, ℕ, ◌^◌, ◌<◌, ◌≤◌, List, ◌++◌, length, take, Ok, Err}
use Rattle.std.specs.List.{AllByRecursion}
use Rattle.refusal.specs.declared.Refusal.TheVariants.{Unreadable}
use Rattle.sheet.specs.declared.types.Payment.{Payment}
use Rattle.sheet.specs.Contents.{Content}
use Rattle.sheet_bytes.specs.Bytes.{sheet_bytes, sheet_read}

-- These numbers are bytes.
abbrev pub AreBytes : List ℕ → Type 0
AreBytes = AllByRecursion (λ b. b < 256)

-- A payment as the code has it: the lock is 32 bytes, and the numbers fit four bytes.
pub record GoodPayment (p : Payment) : Type 0 where
  pub long : length p.lock ≡ 32
  pub bytes : AreBytes p.lock
  pub amount : p.amount < 2 ^ 32
  pub end : p.end < 2 ^ 32

-- A sheet's content as the code has it: the account is a byte, the numbers fit four bytes, and there are at most 32
-- ins and 32 outs.
pub record Good (s : Content) : Type 0 where
  pub account : s.account < 256
  pub number : s.number < 2 ^ 32
  pub own : s.own < 2 ^ 32
  pub theirs : s.theirs < 2 ^ 32
  pub few_ins : length s.ins ≤ 32
  pub few_outs : length s.outs ≤ 32
  pub ins : AllByRecursion GoodPayment s.ins
  pub outs : AllByRecursion GoodPayment s.outs

-- Whatever follows a sheet's bytes, reading gives the sheet back and takes just its bytes.
abbrev pub ReadBack : Content → Type 0
ReadBack s = (rest : List ℕ) → sheet_read (sheet_bytes s ++ rest) ≡ Ok (s, length (sheet_bytes s))

-- That holds of every good content.
abbrev pub RoundTrip : Type 0
RoundTrip = (s : Content) → Good s → ReadBack s

-- Whatever is read is good and was written so: a sheet has no second form.
abbrev pub OnlyWritten : Type 0
OnlyWritten = (bytes : List ℕ) (s : Content) (n : ℕ) → AreBytes bytes → sheet_read bytes ≡ Ok (s, n) → Good s × (n ≤ length bytes) × (take n bytes ≡ sheet_bytes s)

-- A sheet that is cut short is refused, wherever it is cut.
abbrev pub CutShort : Type 0
CutShort = (s : Content) → Good s → (n : ℕ) → n < length (sheet_bytes s) → sheet_read (take n (sheet_bytes s)) ≡ Err Unreadable

-- What the neighbours send and the owner asks for in the cases: keys, locks, sheets. Assumes nothing.
use Rattle.std.specs.Prelude.{◌≡◌, ℕ, zero, suc, ◌≤◌, List, [], ◌∷◌, ◌++◌, length, replicate, refl}
use Rattle.std.proofs.Common.{arith}
use Rattle.sheet.specs.declared.types.Payment.{Payment}
use Rattle.sheet.specs.declared.types.Sheet.{Sheet}
use Rattle.rules.specs.declared.types.Message.TheVariants.{Proposed, ProposedSigned, Signed, Key}
use Rattle.moments.specs.Runs.{Entry, message}

-- The key of all cases, and L, its lock. A second lock is that of the key that ends with 9.
abbrev pub the_key : List ℕ
the_key = replicate 31 0 ++ 7 ∷ []

abbrev pub L : List ℕ
L =
    72 ∷ 66 ∷ 139 ∷ 219 ∷ 125 ∷ 221 ∷ 130 ∷ 148 ∷ 16 ∷ 214 ∷ 187 ∷ 185 ∷ 36 ∷ 253 ∷ 235 ∷ 58
    ∷ 61 ∷ 126 ∷ 136 ∷ 194 ∷ 87 ∷ 123 ∷ 255 ∷ 174 ∷ 7 ∷ 59 ∷ 153 ∷ 12 ∷ 111 ∷ 6 ∷ 29 ∷ 8 ∷ []

abbrev pub second_lock : List ℕ
second_lock =
    136 ∷ 123 ∷ 241 ∷ 64 ∷ 206 ∷ 11 ∷ 106 ∷ 73 ∷ 126 ∷ 216 ∷ 219 ∷ 92 ∷ 116 ∷ 152 ∷ 164 ∷ 84
    ∷ 84 ∷ 240 ∷ 178 ∷ 189 ∷ 100 ∷ 75 ∷ 3 ∷ 19 ∷ 247 ∷ 168 ∷ 42 ∷ 204 ∷ 8 ∷ 77 ∷ 0 ∷ 39 ∷ []

abbrev pub five : (end : ℕ) → Payment
five end = record { lock = L; amount = 5; end = end }

-- What stands past a count, of no matter.
abbrev pub nothing : Payment
nothing = record { lock = []; amount = 0; end = 0 }

-- At most two payments, as a sheet has them: an array of 32 and a count.
pub data Few : Type 0 where
  none : Few
  one : Payment → Few
  two : Payment → Payment → Few

abbrev pub count : Few → ℕ
count none = 0
count (one p) = 1
count (two p q) = 2

abbrev pub array : Few → List Payment
array none = replicate 32 nothing
array (one p) = p ∷ replicate 31 nothing
array (two p q) = p ∷ q ∷ replicate 30 nothing

abbrev pub few : (ps : Few) → count ps ≤ 32
few none = omega arith
few (one p) = omega arith
few (two p q) = omega arith

abbrev pub whole : (ps : Few) → length (array ps) ≡ 32
whole none = refl
whole (one p) = refl
whole (two p q) = refl

-- A sheet as a neighbour writes it.
abbrev pub sheet_of : (account number own theirs : ℕ) (ins outs : Few) → Sheet
sheet_of account number own theirs ins outs =
    record {
      account = account;
      number = number;
      own = own;
      theirs = theirs;
      ins = array ins;
      in_count = count ins;
      outs = array outs;
      out_count = count outs;
      few_ins = few ins;
      few_outs = few outs;
      whole_ins = whole ins;
      whole_outs = whole outs;
    }

-- Neighbour 0 calls the account 3, and neighbour 1 calls it 7.
abbrev pub called_by : ℕ → ℕ
called_by zero = 3
called_by (suc i) = 7

-- A neighbour proposes a sheet alone, proposes one with its signature, or signs the next with this number.
abbrev pub proposes : (i number own theirs : ℕ) (ins outs : Few) → Entry
proposes i number own theirs ins outs = message i (Proposed (sheet_of (called_by i) number own theirs ins outs))

abbrev pub proposes_signed : (i number own theirs : ℕ) (ins outs : Few) → Entry
proposes_signed i number own theirs ins outs =
    message i (ProposedSigned (sheet_of (called_by i) number own theirs ins outs) (record { account = called_by i; number = number }))

abbrev pub signs : (i number : ℕ) → Entry
signs i number = message i (Signed (record { account = called_by i; number = number }))

-- The neighbour of an account sends the key.
abbrev pub sends_key : ℕ → Entry
sends_key i = message i (Key the_key)

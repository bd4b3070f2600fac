-- What a node put in, by its file. Assumes nothing.
use Rattle.std.specs.Prelude.{◌≡◌, ℕ, ◌+◌, ◌*◌, ◌^◌, ◌<◌, ◌≤◌, List, [], ◌∷◌, ◌++◌, length, drop}
use Rattle.std.specs.List.{flat_map, AllByRecursion}
use Rattle.sheet.specs.Contents.{first_of}
use Rattle.node_state.specs.Nodes.{NodeState}
use Rattle.journal.specs.Records.{Recorded, signed_record, both_record, passed_record, key_record, Outcome, whole_record, short_record, damaged_record, record_read, record_bytes}
use Rattle.moments.specs.Runs.{Deposit}
use Rattle.moments.specs.Moments.{sum_to, put_in}

-- Own of a sheet that both have signed.
abbrev pub own_in : Recorded → ℕ
own_in (signed_record s) = 0
own_in (both_record s) = s.own
own_in (passed_record lock from to) = 0
own_in (key_record key) = 0

abbrev pub own_read : Outcome → ℕ
own_read (whole_record r n) = own_in r
own_read short_record = 0
own_read damaged_record = 0

-- The file begins with the first sheets, one for each account; each has no payments, so its record takes 16 bytes.
abbrev pub own_first : List ℕ → ℕ → ℕ
own_first bytes k = own_read (record_read (drop (16 * k) bytes))

abbrev pub deposits_of : NodeState → List ℕ → ℕ
deposits_of n bytes = sum_to (length n.accounts) (own_first bytes)

-- The records that a file begins with.
abbrev pub first_records : ℕ → List Deposit → List Recorded
first_records i [] = []
first_records i (d ∷ ds) = both_record (first_of i d.own d.theirs) ∷ first_records (i + 1) ds

-- Each deposit fits four bytes.
abbrev pub FourBytes : Deposit → Type 0
FourBytes d = (d.own < 2 ^ 32) × (d.theirs < 2 ^ 32)

-- Whatever follows the first sheets in a file, what is read from it is what the node put in.
abbrev pub DepositsRead : Type 0
DepositsRead =
    (n : NodeState) (ds : List Deposit) (rest : List ℕ) → length n.accounts ≡ length ds → length ds ≤ 16 → AllByRecursion FourBytes ds →
    deposits_of n (flat_map record_bytes (first_records 0 ds) ++ rest) ≡ put_in ds

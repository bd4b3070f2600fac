-- What is read of the first sheets.
use Rattle.std.proofs.Common.{◌≡◌, ℕ, zero, suc, ◌+◌, ◌*◌, ◌^◌, ◌<◌, ◌≤◌, List, [], ◌∷◌, ◌++◌, length, drop, refl, ap, ◌∙◌, append_assoc, arith}
use Rattle.std.specs.List.{flat_map, AllByRecursion}
use Rattle.sheet.specs.Contents.{first_of}
use Rattle.sheet_bytes.specs.Bytes.{head_bytes, sheet_bytes}
use Rattle.sheet_bytes.specs.Theorems.{Good}
use Rattle.journal.specs.Records.{both_record, record_read, record_bytes}
use Rattle.journal.proofs.One.{record_back}
use Rattle.moments.specs.Runs.{Deposit, deposit_at}
use Rattle.moments.specs.Moments.{sum_to}
use Rattle.counting.specs.Deposits.{own_read, own_first, first_records, FourBytes, DepositsRead}

first_length : (i own theirs : ℕ) → length (record_bytes (both_record (first_of i own theirs))) ≡ 16
unfolding head_bytes sheet_bytes
first_length i own theirs = refl

first_good : (i own theirs : ℕ) → i < 256 → own < 2 ^ 32 → theirs < 2 ^ 32 → Good (first_of i own theirs)
first_good i own theirs a b c =
    record { account = a; number = omega arith; own = b; theirs = c; few_ins = omega arith; few_outs = omega arith; ins = tt; outs = tt }

drop_past : (xs ys : List ℕ) (k : ℕ) → drop (length xs + k) (xs ++ ys) ≡ drop k ys
drop_past [] ys k = let e : ◌≡◌ {A = ℕ} (0 + k) k = omega arith in ap (λ (m : ℕ). drop m ys) e
drop_past (x ∷ xs) ys k = let e : ◌≡◌ {A = ℕ} (suc (length xs) + k) (suc (length xs + k)) = omega arith in ap (λ (m : ℕ). drop m (x ∷ (xs ++ ys))) e ∙ drop_past xs ys k

own_at : (ds : List Deposit) (i k : ℕ) (rest : List ℕ) → k < length ds → i + length ds ≤ 256 → AllByRecursion FourBytes ds → own_first (flat_map record_bytes (first_records i ds) ++ rest) k ≡ (deposit_at ds k).own
own_at [] i k rest l few fit = absurd (omega arith)
own_at (d ∷ ds) i zero rest l few fit =
    let r = both_record (first_of i d.own d.theirs) in
    ap (λ (bs : List ℕ). own_read (record_read bs)) (append_assoc (record_bytes r) (flat_map record_bytes (first_records (i + 1) ds)) rest)
    ∙ ap own_read (record_back r (first_good i d.own d.theirs (omega arith) fit.0.0 fit.0.1) (flat_map record_bytes (first_records (i + 1) ds) ++ rest))
own_at (d ∷ ds) i (suc k) rest l few fit =
    let r = both_record (first_of i d.own d.theirs) in
    let at : ◌≡◌ {A = ℕ} (16 * suc k) (length (record_bytes r) + 16 * k) = omega (arith, first_length i d.own d.theirs) in
    ap (λ (bs : List ℕ). own_read (record_read (drop (16 * suc k) bs))) (append_assoc (record_bytes r) (flat_map record_bytes (first_records (i + 1) ds)) rest)
    ∙ (ap (λ (m : ℕ). own_read (record_read (drop m (record_bytes r ++ (flat_map record_bytes (first_records (i + 1) ds) ++ rest))))) at
    ∙ (ap (λ (bs : List ℕ). own_read (record_read bs)) (drop_past (record_bytes r) (flat_map record_bytes (first_records (i + 1) ds) ++ rest) (16 * k))
    ∙ own_at ds (i + 1) k rest (omega arith) (omega arith) fit.1))

sum_same : (n : ℕ) (f g : ℕ → ℕ) → ((k : ℕ) → k < n → f k ≡ g k) → sum_to n f ≡ sum_to n g
sum_same zero f g h = refl
sum_same (suc n) f g h = omega (arith, h n (omega arith), sum_same n f g (λ k l. h k (omega arith)))

pub deposits_read : DepositsRead
deposits_read n ds rest many few fit =
    ap (λ (m : ℕ). sum_to m (own_first (flat_map record_bytes (first_records 0 ds) ++ rest))) many
    ∙ sum_same (length ds) (own_first (flat_map record_bytes (first_records 0 ds) ++ rest)) (λ k. (deposit_at ds k).own) (λ k l. own_at ds 0 k rest l (omega arith) fit)

-- A payment as forty bytes, and payments one after another: at a place among others, read back, and written again.
use Rattle.std.proofs.Common.{◌≡◌, ℕ, zero, suc, ◌+◌, ◌-◌, ◌*◌, ◌^◌, ◌<◌, ◌≤◌, List, [], ◌∷◌, ◌++◌, length, get_or, take, drop, set, sym, refl, ap, ◌∙◌, add-one, add_comm, mul-suc, mul-zero, arith, take-add}
use Rattle.std.proofs.ByRecursion.{All-take, All-drop}
use Rattle.std.proofs.lemmas.List.{append_assoc, drop_at, drop-drop, drop-take, length-append, length-drop, length-take-le, get_or-take, take_at, take-take, take_more_set}
use Rattle.std.specs.List.{flat_map, AllByRecursion}
use Rattle.std.specs.Simd.{first_chunks}
use Rattle.sheet.specs.declared.types.Payment.{Payment}
use Rattle.sheet_bytes.specs.Bytes.{number_bytes, number_of, payment_bytes, payment_of, payments_of}
use Rattle.sheet_bytes.specs.Theorems.{AreBytes, GoodPayment}
use Rattle.sheet_bytes.proofs.FourBytes.{number_at, number_back, number_again}

pub payment_at : (bs : List ℕ) (at : ℕ) (lock : List ℕ) (amount last : ℕ) → lock ≡ take 32 (drop at bs) → amount ≡ number_of (drop (at + 32) bs) → last ≡ number_of (drop (at + 36) bs) → ◌≡◌ {A = Payment} (record { lock = lock; amount = amount; end = last }) (payment_of (drop at bs))
payment_at bs at lock amount last e f g =
    let f' : amount ≡ number_of (drop 32 (drop at bs)) = f ∙ ap number_of (sym (drop-drop 32 at bs)) in
    let g' : last ≡ number_of (drop 36 (drop at bs)) = g ∙ ap number_of (sym (drop-drop 36 at bs)) in
    cc

pub payments_suc : (n : ℕ) (bs : List ℕ) → payments_of (suc n) bs ≡ payments_of n bs ++ payment_of (drop (40 * n) bs) ∷ []
payments_suc zero bs = refl
payments_suc (suc n) bs =
    let here : drop (40 * n) (drop 40 bs) ≡ drop (40 * suc n) bs = drop-drop (40 * n) 40 bs ∙ ap (λ k. drop k bs) (let e : 40 + 40 * n ≡ 40 * suc n = omega arith in e) in
    ap (λ ps. payment_of bs ∷ ps) (payments_suc n (drop 40 bs)) ∙ ap (λ cs. payment_of bs ∷ (payments_of n (drop 40 bs) ++ payment_of cs ∷ [])) here

-- a payment's 40 bytes are all that it is read from
number_of_forty : (bs : List ℕ) (at : ℕ) → at + 4 ≤ 40 → number_of (drop at (take 40 bs)) ≡ number_of (drop at bs)
number_of_forty bs at h =
    let e0 : get_or (take 40 bs) at 0 ≡ get_or bs at 0 = get_or-take 40 bs at 0 (omega arith) in
    let e1 : get_or (take 40 bs) (at + 1) 0 ≡ get_or bs (at + 1) 0 = get_or-take 40 bs (at + 1) 0 (omega arith) in
    let e2 : get_or (take 40 bs) (at + 2) 0 ≡ get_or bs (at + 2) 0 = get_or-take 40 bs (at + 2) 0 (omega arith) in
    let e3 : get_or (take 40 bs) (at + 3) 0 ≡ get_or bs (at + 3) 0 = get_or-take 40 bs (at + 3) 0 (omega arith) in
    let same : get_or (take 40 bs) at 0 * 2 ^ 24 + get_or (take 40 bs) (at + 1) 0 * 2 ^ 16 + get_or (take 40 bs) (at + 2) 0 * 2 ^ 8 + get_or (take 40 bs) (at + 3) 0 ≡ get_or bs at 0 * 2 ^ 24 + get_or bs (at + 1) 0 * 2 ^ 16 + get_or bs (at + 2) 0 * 2 ^ 8 + get_or bs (at + 3) 0 = cc in
    number_at (take 40 bs) at ∙ same ∙ sym (number_at bs at)

payment_of_forty : (bs : List ℕ) → payment_of (take 40 bs) ≡ payment_of bs
payment_of_forty bs =
    let lock : take 32 (take 40 bs) ≡ take 32 bs = take-take 32 40 bs (omega arith) in
    let amount = number_of_forty bs 32 (omega arith) in
    let last = number_of_forty bs 36 (omega arith) in
    cc

-- a chunk among all
chunk_at : (n k : ℕ) (xs : List ℕ) (i : ℕ) (d : List ℕ) → i < k → get_or (first_chunks n k xs) i d ≡ take n (drop (n * i) xs)
chunk_at n zero xs i d h = absurd (omega arith)
chunk_at n (suc k) xs zero d h = ap (λ j. take n (drop j xs)) (sym (mul-zero n))
chunk_at n (suc k) xs (suc i) d h =
    let more : n * suc i ≡ n + n * i = mul-suc n i ∙ add_comm (n * i) n in
    chunk_at n k (drop n xs) i d (omega arith) ∙ ap (λ t. take n t) (drop-drop (n * i) n xs ∙ sym (ap (λ j. drop j xs) more))

-- the i-th of the chunks of 40 bytes that stand from a place on
pub payment_of_chunk : (bs : List ℕ) (at n i : ℕ) (forties : List (List ℕ)) → i < n → forties ≡ first_chunks 40 n (take (40 * n) (drop at bs)) → payment_of (get_or forties i []) ≡ payment_of (drop (at + 40 * i) bs)
payment_of_chunk bs at n i forties h e =
    let rest : 40 * n ≡ 40 * i + 40 * (n - i) = omega arith in
    let past : drop (40 * i) (take (40 * n) (drop at bs)) ≡ take (40 * (n - i)) (drop (at + 40 * i) bs) =
    ap (λ k. drop (40 * i) (take k (drop at bs))) rest ∙ drop-take (40 * i) (40 * (n - i)) (drop at bs) ∙ ap (λ cs. take (40 * (n - i)) cs) (drop-drop (40 * i) at bs)
    in
    let forty : get_or forties i [] ≡ take 40 (drop (at + 40 * i) bs) =
    ap (λ fs. get_or fs i []) e ∙ chunk_at 40 n (take (40 * n) (drop at bs)) i [] h ∙ ap (λ cs. take 40 cs) past ∙ take-take 40 (40 * (n - i)) (drop (at + 40 * i) bs) (omega arith)
    in
    ap payment_of forty ∙ payment_of_forty (drop (at + 40 * i) bs)

pub payments_more : (bs : List ℕ) (at i : ℕ) (list : List Payment) (p : Payment) → i < length list → take i list ≡ payments_of i (drop at bs) → p ≡ payment_of (drop (at + 40 * i) bs) → take (i + 1) (set list i p) ≡ payments_of (i + 1) (drop at bs)
payments_more bs at i list p h inv e =
    let here : p ≡ payment_of (drop (40 * i) (drop at bs)) = e ∙ ap payment_of (sym (drop-drop (40 * i) at bs)) in
    take_more_set list i p h ∙ ap (λ ps. ps ++ p ∷ []) inv ∙ ap (λ q. payments_of i (drop at bs) ++ q ∷ []) here ∙ sym (payments_suc i (drop at bs)) ∙ ap (λ n. payments_of n (drop at bs)) (sym (add-one i))

pub payment_length : (p : Payment) → GoodPayment p → length (payment_bytes p) ≡ 40
payment_length p g = simp length-append (omega (arith, g.long))

-- what was written is read back
payment_back : (p : Payment) → GoodPayment p → (rest : List ℕ) → payment_of (payment_bytes p ++ rest) ≡ p
payment_back p g rest =
    let apart : payment_bytes p ++ rest ≡ p.lock ++ (number_bytes p.amount ++ (number_bytes p.end ++ rest)) = simp append_assoc in
    let past : drop 32 (payment_bytes p ++ rest) ≡ number_bytes p.amount ++ (number_bytes p.end ++ rest) = ap (drop 32) apart ∙ drop_at p.lock _ 32 g.long in
    let lock : take 32 (payment_bytes p ++ rest) ≡ p.lock = ap (take 32) apart ∙ take_at p.lock _ 32 g.long in
    let amount : number_of (drop 32 (payment_bytes p ++ rest)) ≡ p.amount = ap number_of past ∙ number_back p.amount g.amount in
    let later : drop 36 (payment_bytes p ++ rest) ≡ number_bytes p.end ++ rest = sym (drop-drop 4 32 (payment_bytes p ++ rest)) ∙ ap (drop 4) past in
    let last : number_of (drop 36 (payment_bytes p ++ rest)) ≡ p.end = ap number_of later ∙ number_back p.end g.end in
    let all : ◌≡◌ {A = Payment} (record { lock = take 32 (payment_bytes p ++ rest); amount = number_of (drop 32 (payment_bytes p ++ rest)); end = number_of (drop 36 (payment_bytes p ++ rest)) }) (record { lock = p.lock; amount = p.amount; end = p.end }) = cc in
    all

pub payments_back : (ps : List Payment) → AllByRecursion GoodPayment ps → (rest : List ℕ) → payments_of (length ps) (flat_map payment_bytes ps ++ rest) ≡ ps
payments_back [] g rest = refl
payments_back (p ∷ ps) g rest =
    let apart : (payment_bytes p ++ flat_map payment_bytes ps) ++ rest ≡ payment_bytes p ++ (flat_map payment_bytes ps ++ rest) = append_assoc (payment_bytes p) (flat_map payment_bytes ps) rest in
    let first : payment_of ((payment_bytes p ++ flat_map payment_bytes ps) ++ rest) ≡ p = ap payment_of apart ∙ payment_back p g.0 _ in
    let past : drop 40 ((payment_bytes p ++ flat_map payment_bytes ps) ++ rest) ≡ flat_map payment_bytes ps ++ rest = ap (drop 40) apart ∙ drop_at (payment_bytes p) _ 40 (payment_length p g.0) in
    let others : payments_of (length ps) (drop 40 ((payment_bytes p ++ flat_map payment_bytes ps) ++ rest)) ≡ ps = ap (payments_of (length ps)) past ∙ payments_back ps g.1 rest in
    cc

pub payments_length : (ps : List Payment) → AllByRecursion GoodPayment ps → length (flat_map payment_bytes ps) ≡ 40 * length ps
payments_length [] g = refl
payments_length (p ∷ ps) g =
    length-append (payment_bytes p) (flat_map payment_bytes ps) ∙ omega (arith, payment_length p g.0, payments_length ps g.1)

-- what is read was written so
payment_again : (bs : List ℕ) → AreBytes bs → 40 ≤ length bs → GoodPayment (payment_of bs) × (take 40 bs ≡ payment_bytes (payment_of bs))
payment_again bs bytes h =
    let long : 8 ≤ length (drop 32 bs) = simp length-drop (omega arith) in
    let longer : 4 ≤ length (drop 36 bs) = simp length-drop (omega arith) in
    let amount = number_again (drop 32 bs) (All-drop _ 32 bs bytes) (omega arith) in
    let last = number_again (drop 36 bs) (All-drop _ 36 bs bytes) longer in
    let split : take 8 (drop 32 bs) ≡ take 4 (drop 32 bs) ++ take 4 (drop 36 bs) = take-add 4 4 (drop 32 bs) ∙ ap (λ cs. take 4 (drop 32 bs) ++ take 4 cs) (drop-drop 4 32 bs) in (
      record { long = length-take-le 32 bs (omega arith); bytes = All-take _ 32 bs bytes; amount = amount.0; end = last.0 },
      take-add 32 8 bs ∙ ap (λ cs. take 32 bs ++ cs) split ∙ sym (append_assoc (take 32 bs) (take 4 (drop 32 bs)) (take 4 (drop 36 bs))) ∙ ap (λ cs. take 32 bs ++ cs ++ take 4 (drop 36 bs)) amount.1 ∙ ap (λ cs. take 32 bs ++ number_bytes (number_of (drop 32 bs)) ++ cs) last.1,
    )

pub payments_again : (n : ℕ) (bs : List ℕ) → AreBytes bs → 40 * n ≤ length bs → AllByRecursion GoodPayment (payments_of n bs) × (length (payments_of n bs) ≡ n) × (take (40 * n) bs ≡ flat_map payment_bytes (payments_of n bs))
payments_again zero bs bytes h = (tt, refl, refl)
payments_again (suc n) bs bytes h =
    let first = payment_again bs bytes (omega arith) in
    let more : 40 * n ≤ length (drop 40 bs) = simp length-drop (omega arith) in
    let others = payments_again n (drop 40 bs) (All-drop _ 40 bs bytes) more in
    let size : 40 * suc n ≡ 40 + 40 * n = omega arith in (
      (first.0, others.0),
      ap suc others.1,
      ap (λ k. take k bs) size ∙ take-add 40 (40 * n) bs ∙ ap (λ cs. cs ++ take (40 * n) (drop 40 bs)) first.1 ∙ ap (λ cs. payment_bytes (payment_of bs) ++ cs) others.2,
    )

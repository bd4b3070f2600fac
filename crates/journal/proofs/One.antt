-- The theorems on one record: it is read back, cut short it is short, and what is read was written so.
use Rattle.std.proofs.Common.{◌≡◌, ℕ, zero, suc, ◌+◌, ◌*◌, ◌<◌, ◌≤◌, Bool, true, false, eqb, ltb, leb, List, [], ◌∷◌, ◌++◌, length, get_or, take, drop, Ok, Err, Result, sym, refl, ap, ◌∙◌, subst, ⊎_elim, arith, take-add}
use Rattle.std.proofs.ByRecursion.{All-get_or, All-take}
use Rattle.std.proofs.lemmas.List.{append_assoc, append-nil, drop_at, drop_more, get_or_at, get_or-drop, get_or_past, get_or-take, length-append, length-take, length-take-le, take_at}
use Rattle.std.proofs.lemmas.Bool.{and_parts, cases_lt, cond_both, cond-true, cond-false, eqb-true, le-ltb, leb-true, lt-ltb, ltb-false, ne_eqb, or_from}
use Rattle.refusal.specs.declared.Refusal.{Refusal}
use Rattle.refusal.specs.declared.Refusal.TheVariants.{Unreadable}
use Rattle.sheet.specs.Contents.{Content}
use Rattle.sheet_bytes.specs.Bytes.{sheet_bytes, ins_of, outs_of, size_of, whole, sheet_of, sheet_read}
use Rattle.sheet_bytes.specs.Theorems.{AreBytes, Good}
use Rattle.sheet_bytes.proofs.Trips.{round_trip, only_written, cut_short}
use Rattle.journal.specs.Records.{Recorded, signed_record, both_record, passed_record, key_record, first_byte, rest_bytes, record_bytes, Outcome, whole_record, short_record, damaged_record, overfull, of_sheet, sheet_after, passed_after, key_after, by_first, record_read}
use Rattle.journal.specs.Theorems.{GoodRecord, OneWritten}

read_cons : (first : ℕ) (bs : List ℕ) → record_read (first ∷ bs) ≡ by_first first bs
read_cons first bs = cond-false (eqb (length (first ∷ bs)) 0) _ _ (ne_eqb _ _ (λ e. omega arith))

-- the counts of a sheet that can be read are small, and cut anywhere they still are
counts_small : (bs : List ℕ) (got : Content × ℕ) → sheet_read bs ≡ Ok got → (ins_of bs ≤ 32) × (outs_of bs ≤ 32)
counts_small bs got e = by (whole bs) refl
  where
    by : (b : Bool) → whole bs ≡ b → (ins_of bs ≤ 32) × (outs_of bs ≤ 32)
    by true w =
        let a = and_parts (leb 14 (length bs)) _ w in
        let b = and_parts (leb (ins_of bs) 32) _ a.1 in
        let c = and_parts (leb (15 + 40 * ins_of bs) (length bs)) _ b.1 in
        let d = and_parts (leb (outs_of bs) 32) _ c.1 in
        (leb-true _ _ b.0, leb-true _ _ d.0)
    by false w =
        let none : ◌≡◌ {A = Result (Content × ℕ) Refusal} (Err Unreadable) (Ok got) = sym (cond-false (whole bs) (Ok (sheet_of bs, size_of bs)) (Err Unreadable) w) ∙ e in
        let z : ◌≡◌ {A = ℕ} 0 1 = cc in absurd (omega arith)

not_over : (bs : List ℕ) → ins_of bs ≤ 32 → outs_of bs ≤ 32 → overfull bs ≡ false
not_over bs few fewer = or_from (ltb 32 (ins_of bs)) (ltb 32 (outs_of bs)) (le-ltb 32 _ few) (le-ltb 32 _ fewer)

at_most : (k : ℕ) (bs : List ℕ) (i : ℕ) → get_or (take k bs) i 0 ≤ get_or bs i 0
at_most k bs i =
    ⊎_elim (λ h. omega (arith, get_or-take k bs i 0 h)) (λ h. omega (arith, get_or_past (take k bs) i 0 (simp length-take (omega arith)))) (cases_lt i k)

cut_not_over : (k : ℕ) (bs : List ℕ) → ins_of bs ≤ 32 → outs_of bs ≤ 32 → overfull (take k bs) ≡ false
cut_not_over k bs few fewer = not_over (take k bs) (omega (arith, at_most k bs 13)) (⊎_elim longer shorter (cases_lt 13 k))
  where
    longer : 13 < k → outs_of (take k bs) ≤ 32
    longer h =
        let same : outs_of (take k bs) ≡ get_or (take k bs) (14 + 40 * ins_of bs) 0 = ap (λ n. get_or (take k bs) (14 + 40 * n) 0) (get_or-take k bs 13 0 h) in
        omega (arith, same, at_most k bs (14 + 40 * ins_of bs))

    shorter : k ≤ 13 → outs_of (take k bs) ≤ 32
    shorter h =
        omega (arith, get_or_past (take k bs) (14 + 40 * ins_of (take k bs)) 0 (simp length-take (omega arith)))

sheet_back : (kind : Content → Recorded) (s : Content) → Good s → (rest : List ℕ) → sheet_after kind (sheet_bytes s ++ rest) ≡ whole_record (kind s) (suc (length (sheet_bytes s)))
sheet_back kind s g rest =
    let small = counts_small (sheet_bytes s ++ rest) _ (round_trip s g rest) in
    let size : 1 + length (sheet_bytes s) ≡ suc (length (sheet_bytes s)) = omega arith in
    cond-false (overfull (sheet_bytes s ++ rest)) _ _ (not_over (sheet_bytes s ++ rest) small.0 small.1) ∙ ap (of_sheet kind) (round_trip s g rest) ∙ ap (whole_record (kind s)) size

sheet_cut : (kind : Content → Recorded) (s : Content) → Good s → (k : ℕ) → k < length (sheet_bytes s) → sheet_after kind (take k (sheet_bytes s)) ≡ short_record
sheet_cut kind s g k h =
    let small = counts_small (sheet_bytes s ++ []) _ (round_trip s g []) in
    let plain = subst (λ bs. (ins_of bs ≤ 32) × (outs_of bs ≤ 32)) (append-nil (sheet_bytes s)) small in
    cond-false (overfull (take k (sheet_bytes s))) _ _ (cut_not_over k _ plain.0 plain.1) ∙ ap (of_sheet kind) (cut_short s g k h)

passed_back : (lock : List ℕ) (from to : ℕ) → length lock ≡ 32 → (rest : List ℕ) → passed_after ((lock ++ from ∷ to ∷ []) ++ rest) ≡ whole_record (passed_record lock from to) (suc (length (lock ++ from ∷ to ∷ [])))
passed_back lock from to long rest =
    let bs : List ℕ = lock ++ (from ∷ to ∷ rest) in
    let enough : 34 ≤ length bs = simp length-append (omega arith) in
    let size : 35 ≡ suc (length (lock ++ from ∷ to ∷ [])) = simp length-append (omega arith) in
    let there : get_or bs 33 0 ≡ to = sym (get_or-drop 32 bs 1 0) ∙ ap (λ cs. get_or cs 1 0) (drop_at lock (from ∷ to ∷ rest) 32 long) in
    let here : get_or bs 32 0 ≡ from = get_or_at lock from (to ∷ rest) 0 32 long in
    let same : take 32 bs ≡ lock = take_at lock (from ∷ to ∷ rest) 32 long in
    let read : whole_record (passed_record (take 32 bs) (get_or bs 32 0) (get_or bs 33 0)) 35 ≡ whole_record (passed_record lock from to) (suc (length (lock ++ from ∷ to ∷ []))) = cc in
    ap passed_after (append_assoc lock (from ∷ to ∷ []) rest) ∙ cond-false (ltb (length bs) 34) _ _ (le-ltb _ _ enough) ∙ read

key_back : (key : List ℕ) → length key ≡ 32 → (rest : List ℕ) → key_after (key ++ rest) ≡ whole_record (key_record key) (suc (length key))
key_back key long rest =
    let enough : 32 ≤ length (key ++ rest) = simp length-append (omega arith) in
    let size : 33 ≡ suc (length key) = omega arith in
    let same : take 32 (key ++ rest) ≡ key = take_at key rest 32 long in
    let read : whole_record (key_record (take 32 (key ++ rest))) 33 ≡ whole_record (key_record key) (suc (length key)) = cc in
    cond-false (ltb (length (key ++ rest)) 32) _ _ (le-ltb _ _ enough) ∙ read

rest_back : (r : Recorded) → GoodRecord r → (rest : List ℕ) → by_first (first_byte r) (rest_bytes r ++ rest) ≡ whole_record r (length (record_bytes r))
rest_back (signed_record s) g rest = sheet_back signed_record s g rest
rest_back (both_record s) g rest = sheet_back both_record s g rest
rest_back (passed_record lock from to) g rest = passed_back lock from to g.0 rest
rest_back (key_record key) g rest = key_back key g.0 rest

pub record_back : (r : Recorded) → GoodRecord r → (rest : List ℕ) → record_read (record_bytes r ++ rest) ≡ whole_record r (length (record_bytes r))
record_back r g rest = read_cons (first_byte r) (rest_bytes r ++ rest) ∙ rest_back r g rest

rest_cut : (r : Recorded) → GoodRecord r → (k : ℕ) → k < length (rest_bytes r) → by_first (first_byte r) (take k (rest_bytes r)) ≡ short_record
rest_cut (signed_record s) g k h = sheet_cut signed_record s g k h
rest_cut (both_record s) g k h = sheet_cut both_record s g k h
rest_cut (passed_record lock from to) g k h =
    let below : length (take k (lock ++ from ∷ to ∷ [])) < 34 = simp length-take (omega (arith, length-append lock (from ∷ to ∷ []), g.0)) in
    cond-true (ltb (length (take k (lock ++ from ∷ to ∷ []))) 34) _ _ (lt-ltb _ _ below)
rest_cut (key_record key) g k h =
    let below : length (take k key) < 32 = simp length-take (omega (arith, g.0)) in
    cond-true (ltb (length (take k key)) 32) _ _ (lt-ltb _ _ below)

pub record_cut : (r : Recorded) → GoodRecord r → (k : ℕ) → k < length (record_bytes r) → record_read (take k (record_bytes r)) ≡ short_record
record_cut r g zero h = refl
record_cut r g (suc k) h = read_cons (first_byte r) (take k (rest_bytes r)) ∙ rest_cut r g k (omega arith)

-- what is read was written so: of the bytes past the first, and the first
abbrev Written : ℕ → List ℕ → Recorded → ℕ → Type 0
Written first bs r n = GoodRecord r × (n ≤ length (first ∷ bs)) × (take n (first ∷ bs) ≡ record_bytes r)

never : (A : Type 0) (o : Outcome) (r : Recorded) (n : ℕ) → (o ≡ short_record) → o ≡ whole_record r n → A
never A o r n e f = let z : ◌≡◌ {A = ℕ} 0 1 = cc in absurd (omega arith)

never_damaged : (A : Type 0) (r : Recorded) (n : ℕ) → damaged_record ≡ whole_record r n → A
never_damaged A r n f = let z : ◌≡◌ {A = ℕ} 0 1 = cc in absurd (omega arith)

same_written : (first : ℕ) (bs : List ℕ) (r q : Recorded) (n m : ℕ) → whole_record r n ≡ whole_record q m → Written first bs r n → Written first bs q m
same_written first bs r q n m e w =
    let er : r ≡ q = cc in
    let en : n ≡ m = cc in
    subst (λ k. Written first bs q k) en (subst (λ x. Written first bs x n) er w)

module _ (bs : List ℕ) (bytes : AreBytes bs) (r : Recorded) (n : ℕ) where
  sheet_written : (first : ℕ) (kind : Content → Recorded) → ((s : Content) → Good s → GoodRecord (kind s)) → ((s : Content) → first ∷ sheet_bytes s ≡ record_bytes (kind s)) → sheet_after kind bs ≡ whole_record r n → Written first bs r n
  sheet_written first kind good form =
      cond_both (overfull bs) damaged_record (of_sheet kind (sheet_read bs)) (λ o. o ≡ whole_record r n → Written first bs r n) (λ over. never_damaged _ r n) (λ under. by (sheet_read bs) refl)
    where
      by : (got : Result (Content × ℕ) Refusal) → sheet_read bs ≡ got → of_sheet kind got ≡ whole_record r n → Written first bs r n
      by (Ok got) e f =
          let w = only_written bs got.0 got.1 bytes e in
          let size : 1 + got.1 ≡ suc got.1 = omega arith in
          let all : take (suc got.1) (first ∷ bs) ≡ record_bytes (kind got.0) = ap (λ cs. first ∷ cs) w.2 ∙ form got.0 in
          same_written first bs (kind got.0) r (1 + got.1) n f (good got.0 w.0, omega (arith, w.1), ap (λ k. take k (first ∷ bs)) size ∙ all)
      by (Err e) g f = never _ short_record r n refl f

  passed_written : passed_after bs ≡ whole_record r n → Written 6 bs r n
  passed_written =
      cond_both (ltb (length bs) 34) short_record (whole_record (passed_record (take 32 bs) (get_or bs 32 0) (get_or bs 33 0)) 35) (λ o. o ≡ whole_record r n → Written 6 bs r n) (λ less. never _ short_record r n refl) (λ more f. by (ltb-false _ _ more) f)
    where
      by : 34 ≤ length bs → whole_record (passed_record (take 32 bs) (get_or bs 32 0) (get_or bs 33 0)) 35 ≡ whole_record r n → Written 6 bs r n
      by h f =
          let two : drop 32 bs ≡ get_or bs 32 0 ∷ get_or bs 33 0 ∷ drop 34 bs = drop_more bs 32 0 (omega arith) ∙ ap (λ cs. get_or bs 32 0 ∷ cs) (drop_more bs 33 0 (omega arith)) in
          let all : take 34 bs ≡ take 32 bs ++ get_or bs 32 0 ∷ get_or bs 33 0 ∷ [] = take-add 32 2 bs ∙ ap (λ cs. take 32 bs ++ take 2 cs) two in
          same_written 6 bs (passed_record (take 32 bs) (get_or bs 32 0) (get_or bs 33 0)) r 35 n f ((length-take-le 32 bs (omega arith), All-take _ 32 bs bytes, All-get_or _ bs 32 0 (omega arith) bytes, All-get_or _ bs 33 0 (omega arith) bytes), omega arith, ap (λ cs. 6 ∷ cs) all)

  key_written : key_after bs ≡ whole_record r n → Written 7 bs r n
  key_written =
      cond_both (ltb (length bs) 32) short_record (whole_record (key_record (take 32 bs)) 33) (λ o. o ≡ whole_record r n → Written 7 bs r n) (λ less. never _ short_record r n refl) (λ more f. by (ltb-false _ _ more) f)
    where
      by : 32 ≤ length bs → whole_record (key_record (take 32 bs)) 33 ≡ whole_record r n → Written 7 bs r n
      by h f =
          same_written 7 bs (key_record (take 32 bs)) r 33 n f ((length-take-le 32 bs h, All-take _ 32 bs bytes), omega arith, refl)

  rest_written : (first : ℕ) → by_first first bs ≡ whole_record r n → Written first bs r n
  rest_written first =
      cond_both (eqb first 4) _ _ (λ o. o ≡ whole_record r n → Written first bs r n) (λ e f. at 4 e (sheet_written 4 signed_record (λ s g. g) (λ s. refl) f))
      (λ _. cond_both (eqb first 5) _ _ (λ o. o ≡ whole_record r n → Written first bs r n) (λ e f. at 5 e (sheet_written 5 both_record (λ s g. g) (λ s. refl) f))
      (λ _. cond_both (eqb first 6) _ _ (λ o. o ≡ whole_record r n → Written first bs r n) (λ e f. at 6 e (passed_written f))
      (λ _. cond_both (eqb first 7) _ _ (λ o. o ≡ whole_record r n → Written first bs r n) (λ e f. at 7 e (key_written f)) (λ _. never_damaged _ r n))))
    where
      at : (known : ℕ) → eqb first known ≡ true → Written known bs r n → Written first bs r n
      at known e w = subst (λ k. Written k bs r n) (sym (eqb-true first known e)) w

pub one_written : OneWritten
one_written [] r n bytes e = never _ short_record r n refl e
one_written (first ∷ bs) r n bytes e = rest_written bs bytes.1 r n first (sym (read_cons first bs) ∙ e)

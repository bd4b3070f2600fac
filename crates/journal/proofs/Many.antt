-- The theorems on all records of the file.
use Rattle.std.proofs.Common.{◌≡◌, ℕ, zero, suc, ◌+◌, ◌-◌, ◌<◌, ◌≤◌, eqb, leb, List, [], ◌∷◌, ◌++◌, length, take, drop, Ok, sym, refl, ap, ◌∙◌, subst, ⊎_elim, add-zero, add_assoc, zero-add, arith, take-add}
use lib.Seq.{take-append-add}
use Rattle.std.proofs.ByRecursion.{All-drop, All-push}
use Rattle.std.proofs.lemmas.List.{append_assoc, append-nil, drop_at, drop-drop, flat_map_more, length-append, length-drop, length-take, length-take-le, take_all, take-append-le}
use Rattle.std.proofs.lemmas.Bool.{cases_lt, cond-true, cond-false, eq-eqb, le-leb, lt-leb}
use Rattle.std.specs.List.{flat_map, AllByRecursion}
use Rattle.sheet_bytes.specs.Theorems.{AreBytes}
use Rattle.journal.specs.Records.{Recorded, rest_bytes, record_bytes, Outcome, whole_record, short_record, damaged_record, record_read, records_after, first_records, records_of, reach_after, reach_from, whole_part}
use Rattle.journal.specs.Theorems.{GoodRecord, whole_before, ReadBack, Split, SplitAt, OnlyWritten}
use Rattle.journal.proofs.One.{record_back, record_cut, one_written}

-- how reading goes on from bytes that are left, for the records and for how far they reach
abbrev Goes : ℕ → List ℕ → List Recorded → Type 0
Goes turns left rs =
    (first_records turns left ≡ rs) × ((bs : List ℕ) (at : ℕ) → drop at bs ≡ left → reach_from turns bs at ≡ Ok (at + length (flat_map record_bytes rs)))

goes_short : (turns : ℕ) (left : List ℕ) → record_read left ≡ short_record → Goes turns left []
goes_short zero left e = (refl, λ bs at d. ap (λ (k : ℕ). Ok k) (sym (add-zero at)))
goes_short (suc turns) left e = (
  ap (records_after (first_records turns) left) e,
  λ bs at d. ap (reach_after (reach_from turns bs) at) (ap record_read d ∙ e) ∙ ap (λ (k : ℕ). Ok k) (sym (add-zero at)),
)

goes_whole : (turns : ℕ) (r : Recorded) (left : List ℕ) (rs : List Recorded) → GoodRecord r → Goes turns left rs → Goes (suc turns) (record_bytes r ++ left) (r ∷ rs)
goes_whole turns r left rs g on = (
  ap (records_after (first_records turns) (record_bytes r ++ left)) (record_back r g left) ∙ ap (λ cs. r ∷ first_records turns cs) past ∙ ap (λ qs. r ∷ qs) on.0,
  λ bs at d. ap (reach_after (reach_from turns bs) at) (ap record_read d ∙ record_back r g left) ∙ on.1 bs (at + length (record_bytes r)) (sym (drop-drop (length (record_bytes r)) at bs) ∙ ap (drop (length (record_bytes r))) d ∙ past) ∙ ap (λ (k : ℕ). Ok k) (add_assoc at (length (record_bytes r)) (length (flat_map record_bytes rs)) ∙ ap (λ k. at + k) (sym (length-append (record_bytes r) (flat_map record_bytes rs)))),
)
  where
    past : drop (length (record_bytes r)) (record_bytes r ++ left) ≡ left
    past = drop_at (record_bytes r) left (length (record_bytes r)) refl

-- the cut lies inside the first record, or past it
module _ (r : Recorded) (rs : List Recorded) (g : GoodRecord r) (cut : ℕ) where
  cut_inside : (turns : ℕ) → cut < length (record_bytes r) → Goes turns (take cut (flat_map record_bytes (r ∷ rs))) (whole_before cut (r ∷ rs))
  cut_inside turns lt =
      let left : take cut (record_bytes r) ≡ take cut (record_bytes r ++ flat_map record_bytes rs) = sym (take-append-le cut (record_bytes r) (flat_map record_bytes rs) (omega arith)) in
      let none : [] ≡ whole_before cut (r ∷ rs) = sym (cond-false (leb (length (record_bytes r)) cut) _ _ (lt-leb _ _ lt)) in
      subst (λ qs. Goes turns (take cut (record_bytes r ++ flat_map record_bytes rs)) qs) none (subst (λ bs. Goes turns bs []) left (goes_short turns _ (record_cut r g cut lt)))

  abbrev more : ℕ
  more = cut - length (record_bytes r)

  cut_past : (turns : ℕ) → length (record_bytes r) ≤ cut → ((m : ℕ) → length (take more (flat_map record_bytes rs)) ≤ m → Goes m (take more (flat_map record_bytes rs)) (whole_before more rs)) → length (take cut (flat_map record_bytes (r ∷ rs))) ≤ turns → Goes turns (take cut (flat_map record_bytes (r ∷ rs))) (whole_before cut (r ∷ rs))
  cut_past zero le on h =
      absurd (omega (arith, length-take cut (record_bytes r ++ flat_map record_bytes rs), length-append (record_bytes r) (flat_map record_bytes rs)))
  cut_past (suc turns) le on h =
      let size : length (record_bytes r) + more ≡ cut = omega arith in
      let form : record_bytes r ++ take more (flat_map record_bytes rs) ≡ take cut (record_bytes r ++ flat_map record_bytes rs) = sym (take-append-add (record_bytes r) (flat_map record_bytes rs) more) ∙ ap (λ k. take k (record_bytes r ++ flat_map record_bytes rs)) size in
      let room : length (take more (flat_map record_bytes rs)) ≤ turns = omega (arith, ap length form, length-append (record_bytes r) (take more (flat_map record_bytes rs))) in
      let whole : r ∷ whole_before more rs ≡ whole_before cut (r ∷ rs) = sym (cond-true (leb (length (record_bytes r)) cut) _ _ (le-leb _ _ le)) in
      subst (λ qs. Goes (suc turns) (take cut (record_bytes r ++ flat_map record_bytes rs)) qs) whole (subst (λ bs. Goes (suc turns) bs (r ∷ whole_before more rs)) form (goes_whole turns r _ _ g (on turns room)))

cut_goes : (rs : List Recorded) → AllByRecursion GoodRecord rs → (cut turns : ℕ) → length (take cut (flat_map record_bytes rs)) ≤ turns → Goes turns (take cut (flat_map record_bytes rs)) (whole_before cut rs)
cut_goes [] g cut turns h =
    subst (λ left. Goes turns left []) (sym (take_all cut [] (omega arith))) (goes_short turns [] refl)
cut_goes (r ∷ rs) g cut turns h =
    ⊎_elim (cut_inside r rs g.0 cut turns) (λ le. cut_past r rs g.0 cut turns le (cut_goes rs g.1 (cut - length (record_bytes r))) h) (cases_lt cut (length (record_bytes r)))

pub read_back : ReadBack
unfolding records_of whole_part
read_back rs g cut =
    let bs : List ℕ = take cut (flat_map record_bytes rs) in
    let on = cut_goes rs g cut (length bs) (omega arith) in
    (on.0, on.1 bs 0 refl ∙ ap (λ (k : ℕ). Ok k) (zero-add (length (flat_map record_bytes (whole_before cut rs)))))

-- from a place on, where records take just the bytes before it
abbrev On : ℕ → List ℕ → Type 0
On turns bs =
    (at : ℕ) (done : List Recorded) → length (drop at bs) ≤ turns → at ≤ length bs → take at bs ≡ flat_map record_bytes done → AllByRecursion GoodRecord done → SplitAt bs (done ++ first_records turns (drop at bs)) (reach_from turns bs at)

reach_split : (turns : ℕ) (bs : List ℕ) → AreBytes bs → On turns bs
reach_split zero bs bytes at done h le e g =
    subst (λ rs. Split bs rs at short_record) (sym (append-nil done)) (record { good = g; within = le; before = e; after = cond-true (eqb (length (drop at bs)) 0) _ _ (eq-eqb _ _ (omega arith)) })
reach_split (suc turns) bs bytes at done h le e g =
    by (record_read (drop at bs)) refl (reach_split turns bs bytes)
  where
    by : (o : Outcome) → record_read (drop at bs) ≡ o → On turns bs → SplitAt bs (done ++ records_after (first_records turns) (drop at bs) o) (reach_after (reach_from turns bs) at o)
    by short_record f on =
        subst (λ rs. Split bs rs at short_record) (sym (append-nil done)) (record { good = g; within = le; before = e; after = f })
    by damaged_record f on =
        subst (λ rs. Split bs rs at damaged_record) (sym (append-nil done)) (record { good = g; within = le; before = e; after = f })
    by (whole_record r n) f on =
        let w = one_written (drop at bs) r n (All-drop _ at bs bytes) f in
        let some : n ≡ suc (length (rest_bytes r)) = sym (length-take-le n (drop at bs) w.1) ∙ ap length w.2 in
        let before : take (at + n) bs ≡ flat_map record_bytes (done ++ r ∷ []) = take-add at n bs ∙ ap (λ cs. cs ++ take n (drop at bs)) e ∙ ap (λ cs. flat_map record_bytes done ++ cs) w.2 ∙ flat_map_more record_bytes [] done r in
        let left : drop n (drop at bs) ≡ drop (at + n) bs = drop-drop n at bs in
        let all : (done ++ r ∷ []) ++ first_records turns (drop (at + n) bs) ≡ done ++ (r ∷ first_records turns (drop n (drop at bs))) = append_assoc done (r ∷ []) _ ∙ ap (λ cs. done ++ (r ∷ first_records turns cs)) (sym left) in
        subst (λ rs. SplitAt bs rs (reach_from turns bs (at + n))) all (on (at + n) (done ++ r ∷ []) (omega (arith, some, w.1, length-drop at bs, length-drop (at + n) bs)) (omega (arith, w.1, length-drop at bs)) before (All-push GoodRecord done r g w.0))

pub only_written : OnlyWritten
unfolding records_of whole_part
only_written bs bytes = reach_split (length bs) bs bytes 0 [] (omega arith) (omega arith) refl tt

-- How far the whole records reach, record by record.
use Rattle.std.proofs.Common.{◌≡◌, ℕ, zero, suc, ◌+◌, ◌-◌, ◌<◌, ◌≤◌, List, length, drop, Some, Ok, Err, Option, Result, ap, ◌∙◌, subst, ⊎_elim, arith}
use Rattle.std.proofs.lemmas.List.{drop_all}
use Rattle.std.proofs.lemmas.Bool.{cases_lt}
use Rattle.journal.specs.declared.types.RecordRead.{RecordRead}
use Rattle.journal.specs.Records.{whole_record, short_record, damaged_record, record_read, reach_after, reach_from}
use Rattle.journal.specs.Readings.{record_of, outcome, Uses}

-- so many turns are enough for the bytes that are left
abbrev pub Reaches : List ℕ → ℕ → Result ℕ ℕ → Type 0
Reaches bs at all = (turns : ℕ) × (length bs - at ≤ turns) × (reach_from turns bs at ≡ all)

module _ (bs : List ℕ) (at : ℕ) where
  -- what is known where a record was read
  pub was_whole : (o : Option RecordRead) (got : RecordRead) → o ≡ Some got → outcome (Ok o) ≡ record_read (drop at bs) → Uses (Ok o) (λ n. at + n ≤ length bs) → Uses (Ok o) (λ n. 0 < n) → (whole_record (record_of got.record) got.used ≡ record_read (drop at bs)) × (at + got.used ≤ length bs) × (0 < got.used)
  was_whole o got is e within some = (
    subst (λ q. outcome (Ok q) ≡ record_read (drop at bs)) is e,
    subst (λ q. Uses (Ok q) (λ n. at + n ≤ length bs)) is within,
    subst (λ q. Uses (Ok q) (λ n. 0 < n)) is some,
  )

  -- bytes are left where one is damaged
  pub damage_is_there : damaged_record ≡ record_read (drop at bs) → at < length bs
  damage_is_there e = ⊎_elim (λ lt. lt) past (cases_lt at (length bs))
    where
      past : length bs ≤ at → at < length bs
      past le =
          let none : damaged_record ≡ short_record = e ∙ ap record_read (drop_all at bs le) in
          let z : ◌≡◌ {A = ℕ} 0 1 = cc in absurd (omega arith)

  module _ (all : Result ℕ ℕ) where
    pub reach_past : (got : RecordRead) → Reaches bs at all → (whole_record (record_of got.record) got.used ≡ record_read (drop at bs)) × (at + got.used ≤ length bs) × (0 < got.used) → (at + got.used ≤ length bs) × Reaches bs (at + got.used) all
    reach_past got way read = (read.1, by way.0 way.1 way.2)
      where
        by : (turns : ℕ) → length bs - at ≤ turns → reach_from turns bs at ≡ all → Reaches bs (at + got.used) all
        by zero le same = absurd (omega (arith, read.1, read.2))
        by (suc turns) le same =
            (turns, omega (arith, read.2), ap (reach_after (reach_from turns bs) at) read.0 ∙ same)

    pub reach_damaged : Reaches bs at all → damaged_record ≡ record_read (drop at bs) → Err at ≡ all
    reach_damaged way e = by way.0 way.1 way.2
      where
        by : (turns : ℕ) → length bs - at ≤ turns → reach_from turns bs at ≡ all → Err at ≡ all
        by zero le same = absurd (omega (arith, damage_is_there e))
        by (suc turns) le same = ap (reach_after (reach_from turns bs) at) e ∙ same

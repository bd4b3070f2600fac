-- A start goes on record by record.
use Rattle.std.proofs.Common.{◌≡◌, ℕ, zero, suc, ◌+◌, ◌-◌, ◌<◌, ◌≤◌, Bool, true, not, ◌||◌, List, length, drop, Ok, Err, Result, sym, ap, ◌∙◌, arith}
use Rattle.std.proofs.lemmas.Bool.{cond-true, cond-false}
use Rattle.node_state.specs.Nodes.{NodeState}
use Rattle.journal.specs.Records.{Recorded, Outcome, whole_record, short_record, damaged_record, record_read}
use Rattle.journal.proofs.Reaching.{damage_is_there}
use Rattle.replay.specs.Fits.{fits, is_first}
use Rattle.replay.specs.declared.types.StartFault.{StartFault}
use Rattle.replay.specs.declared.types.StartFault.TheVariants.{Memory, Damaged}
use Rattle.replay.specs.Takes.{taken, Took}
use Rattle.replay.specs.Starts.{Progress, progress_after, progress_from, progress_of, GoneThrough}

-- so many turns are enough for the bytes that are left
abbrev pub Goes : List ℕ → ℕ → Bool → NodeState → Result Progress ℕ → Type 0
Goes bs at others n all = (turns : ℕ) × (length bs - at ≤ turns) × (progress_from turns bs at others n ≡ all)

module _ (bs : List ℕ) (at : ℕ) (others : Bool) (n : NodeState) (all : Result Progress ℕ) (way : Goes bs at others n all) where
  one_more : (o : Outcome) → o ≡ record_read (drop at bs) → at < length bs → (turns : ℕ) × (length bs - at ≤ suc turns) × (progress_after (progress_from turns bs) at others n o ≡ all)
  one_more o e some = by way.0 way.1 way.2
    where
      by : (turns : ℕ) → length bs - at ≤ turns → progress_from turns bs at others n ≡ all → (more : ℕ) × (length bs - at ≤ suc more) × (progress_after (progress_from more bs) at others n o ≡ all)
      by zero le same = absurd (omega arith)
      by (suc turns) le same = (turns, le, ap (progress_after (progress_from turns bs) at others n) e ∙ same)

  pub ends : short_record ≡ record_read (drop at bs) → all ≡ Ok (record { whole = at; others = others; node = n })
  ends e = by way.0 way.2
    where
      by : (turns : ℕ) → progress_from turns bs at others n ≡ all → all ≡ Ok (record { whole = at; others = others; node = n })
      by zero same = sym same
      by (suc turns) same = sym (ap (progress_after (progress_from turns bs) at others n) e ∙ same)

  pub is_damaged : damaged_record ≡ record_read (drop at bs) → all ≡ Err at
  is_damaged e = sym (one_more damaged_record e (damage_is_there bs at e)).2

  -- a whole record that fits, and one that doesn't
  module _ (r : Recorded) (used : ℕ) (e : whole_record r used ≡ record_read (drop at bs)) (within : at + used ≤ length bs) (some : 0 < used) where
    pub goes_on : (m : NodeState) → fits r others n ≡ true → m ≡ taken r n → Goes bs (at + used) (others || not (is_first r)) m all
    goes_on m f t =
        let on = one_more (whole_record r used) e (omega arith) in
        (on.0, omega (arith, on.1), ap (progress_from on.0 bs (at + used) (others || not (is_first r))) t ∙ (sym (cond-true (fits r others n) _ _ f) ∙ on.2))

    pub not_taken : (start : NodeState) (fault : StartFault) (m : NodeState) → progress_of start bs ≡ all → Took (fits r others n) n (taken r n) at (Err fault) m → GoneThrough start bs (Err fault)
    not_taken start Memory m q k = tt
    not_taken start (Damaged place) m q k =
        let on = one_more (whole_record r used) e (omega arith) in
        q ∙ sym (ap (λ p. Err p) k.1 ∙ (sym (cond-false (fits r others n) (progress_from on.0 bs (at + used) (others || not (is_first r)) (taken r n)) (Err at) k.0) ∙ on.2))

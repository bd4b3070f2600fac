-- A start goes by the records, and finds again what was written.
use Rattle.std.proofs.Common.{◌≡◌, ℕ, zero, suc, ◌+◌, ◌-◌, Bool, true, false, cond, not, ◌||◌, eqb, leb, List, [], ◌∷◌, map, length, take, drop, Some, None, Ok, Err, sym, refl, ap, ◌∙◌, subst}
use Rattle.std.proofs.lemmas.List.{drop-drop}
use Rattle.std.proofs.lemmas.Bool.{cond-true, false≢true}
use Rattle.std.specs.List.{flat_map}
use Rattle.change.proofs.Standing.{none_some}
use Rattle.node_state.specs.Nodes.{NodeState, with_opened}
use Rattle.outcome.specs.Acts.{both_in}
use Rattle.outcome.specs.Records.{written, acted_on, acted_all}
use Rattle.journal.specs.Records.{Recorded, signed_record, both_record, passed_record, key_record, record_bytes, Outcome, whole_record, short_record, damaged_record, record_read, records_after, first_records, records_of, reach_after, reach_from, whole_part}
use Rattle.journal.specs.Theorems.{whole_before}
use Rattle.journal.proofs.Many.{read_back}
use Rattle.replay.specs.Fits.{fits, fits_first, fits_both, is_first}
use Rattle.replay.specs.Takes.{taken}
use Rattle.replay.specs.Starts.{progress_after, progress_from, progress_of}
use Rattle.replay.specs.Theorems.{replayed, Agrees, ByRecords, CutAnywhere, act_of, AsWritten}

module _ (turns : ℕ) (bs : List ℕ) where
  abbrev AgreesAt : ℕ → Bool → NodeState → Type 0
  AgreesAt at others n = Agrees (replayed (first_records turns (drop at bs)) others n) (reach_from turns bs at) (progress_from turns bs at others n)

  one_agrees : ((at : ℕ) (others : Bool) (n : NodeState) → AgreesAt at others n) → (at : ℕ) (others : Bool) (n : NodeState) (o : Outcome) → Agrees (replayed (records_after (first_records turns) (drop at bs) o) others n) (reach_after (reach_from turns bs) at o) (progress_after (progress_from turns bs) at others n o)
  one_agrees more at others n (whole_record r used) = by (fits r others n)
    where
      by : (b : Bool) → Agrees (cond b (replayed (first_records turns (drop used (drop at bs))) (others || not (is_first r)) (taken r n)) None) (reach_from turns bs (at + used)) (cond b (progress_from turns bs (at + used) (others || not (is_first r)) (taken r n)) (Err at))
      by true =
          subst (λ ds. Agrees (replayed (first_records turns ds) (others || not (is_first r)) (taken r n)) (reach_from turns bs (at + used)) (progress_from turns bs (at + used) (others || not (is_first r)) (taken r n))) (sym (drop-drop used at bs))
          (more (at + used) (others || not (is_first r)) (taken r n))
      by false = (at, refl)
  one_agrees more at others n short_record = refl
  one_agrees more at others n damaged_record = refl

agrees : (turns : ℕ) (bs : List ℕ) (at : ℕ) (others : Bool) (n : NodeState) → AgreesAt turns bs at others n
agrees zero bs at others n = refl
agrees (suc turns) bs at others n = one_agrees turns bs (agrees turns bs) at others n (record_read (drop at bs))

pub by_records : ByRecords
unfolding records_of whole_part progress_of
by_records n bs = agrees (length bs) bs 0 false n

-- where all fit, those before a cut do
abbrev Fit : List Recorded → Bool → NodeState → Type 0
Fit rs others n = (there : Bool × NodeState) × (replayed rs others n ≡ Some there)

before_fits : (cut : ℕ) (rs : List Recorded) (others : Bool) (n : NodeState) (last : Bool × NodeState) → replayed rs others n ≡ Some last → Fit (whole_before cut rs) others n
before_fits cut [] others n last e = ((others, n), refl)
before_fits cut (r ∷ rs) others n last e =
    by (leb (length (record_bytes r)) cut) (fits r others n) refl e (λ k. before_fits (cut - length (record_bytes r)) rs (others || not (is_first r)) (taken r n) last k)
  where
    by : (b f : Bool) → fits r others n ≡ f → cond f (replayed rs (others || not (is_first r)) (taken r n)) None ≡ Some last → (replayed rs (others || not (is_first r)) (taken r n) ≡ Some last → Fit (whole_before (cut - length (record_bytes r)) rs) (others || not (is_first r)) (taken r n)) → Fit (cond b (r ∷ whole_before (cut - length (record_bytes r)) rs) []) others n
    by false f q k more = ((others, n), refl)
    by true true q k more = let rest = more k in (rest.0, cond-true (fits r others n) _ None q ∙ rest.1)
    by true false q k more = absurd (none_some k)

pub cut_anywhere : CutAnywhere
cut_anywhere n rs last good e cut =
    let fit = before_fits cut rs false n last e in
    let back = read_back rs good cut in
    let bytes : List ℕ = take cut (flat_map record_bytes rs) in
    let same = ap (λ qs. replayed qs false n) back.0 ∙ fit.1 in
    (fit.0, fit.1, subst (λ x. Agrees x (Ok (length (flat_map record_bytes (whole_before cut rs)))) (progress_of n bytes)) same (subst (λ w. Agrees (replayed (records_of bytes) false n) w (progress_of n bytes)) back.1 (by_records n bytes)))

-- after another record no first sheet fits
pub not_first : (r : Recorded) (n : NodeState) → fits r true n ≡ true → taken r n ≡ acted_on (act_of r) n
not_first (signed_record s) n e = refl
not_first (both_record s) n e = by (eqb s.number 0) e
  where
    by : (b : Bool) → cond b (fits_first s true n) (fits_both s n) ≡ true → cond b (with_opened n s.own s.theirs).1 (written (both_in s.account s) n) ≡ written (both_in s.account s) n
    by true k = absurd (false≢true k)
    by false k = refl
not_first (passed_record lock from to) n e = refl
not_first (key_record key) n e = refl

pub as_written : AsWritten
as_written n [] last e = let same : (true, n) ≡ last = cc in ap (λ (z : Bool × NodeState). z.1) (sym same)
as_written n (r ∷ rs) last e = by (fits r true n) refl e (λ k. as_written (taken r n) rs last k)
  where
    by : (f : Bool) → fits r true n ≡ f → cond f (replayed rs true (taken r n)) None ≡ Some last → (replayed rs true (taken r n) ≡ Some last → last.1 ≡ acted_all (map act_of rs) (taken r n)) → last.1 ≡ acted_all (map act_of rs) (acted_on (act_of r) n)
    by true q k more = more k ∙ ap (acted_all (map act_of rs)) (not_first r n q)
    by false q k more = absurd (none_some k)

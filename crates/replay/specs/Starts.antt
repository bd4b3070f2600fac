-- What a start makes of a file. Assumes nothing.
use Rattle.std.specs.Prelude.{◌≡◌, ℕ, zero, suc, ◌+◌, Bool, false, cond, not, ◌||◌, List, length, drop, Ok, Err, Result}
use Rattle.schedule.specs.declared.types.Terms.{Terms}
use Rattle.node_state.specs.Nodes.{NodeState, state_of, empty_of}
use Rattle.journal.specs.Records.{Outcome, whole_record, short_record, damaged_record, record_read}
use Rattle.replay.specs.declared.types.StartFault.{StartFault}
use Rattle.replay.specs.declared.types.StartFault.TheVariants.{Memory, Damaged}
use Rattle.replay.specs.declared.types.Replayed.{Replayed}
use Rattle.replay.specs.Fits.{fits, is_first}
use Rattle.replay.specs.Takes.{taken}

-- How far a start has come: how many bytes the records so far take, whether one is other than a first sheet, the node.
pub record Progress : Type 0 where
  pub whole : ℕ
  pub others : Bool
  pub node : NodeState

-- One record more, by what is read at a place. A short one ends the file; Err has the place of a damaged one.
abbrev pub progress_after : (ℕ → Bool → NodeState → Result Progress ℕ) → ℕ → Bool → NodeState → Outcome → Result Progress ℕ
progress_after more at others n (whole_record r used) =
    cond (fits r others n) (more (at + used) (others || not (is_first r)) (taken r n)) (Err at)
progress_after more at others n short_record = Ok (record { whole = at; others = others; node = n })
progress_after more at others n damaged_record = Err at

-- At most so many records, from a place on.
abbrev pub progress_from : ℕ → List ℕ → ℕ → Bool → NodeState → Result Progress ℕ
progress_from zero bs at others n = Ok (record { whole = at; others = others; node = n })
progress_from (suc turns) bs at others n = progress_after (progress_from turns bs) at others n (record_read (drop at bs))

-- All the records of a file: each takes a byte at least.
unfoldable pub progress_of : NodeState → List ℕ → Result Progress ℕ
progress_of n bs = progress_from (length bs) bs 0 false n

-- What the code gives, where the node was `n`; where memory runs out nothing is said.
abbrev pub GoneThrough : NodeState → List ℕ → Result Replayed StartFault → Type 0
GoneThrough n bs (Ok got) = progress_of n bs ≡ Ok (record { whole = got.whole; others = got.others; node = state_of got.node })
GoneThrough n bs (Err Memory) = Unit {0}
GoneThrough n bs (Err (Damaged at)) = progress_of n bs ≡ Err at

-- A start with nothing but the terms.
abbrev pub Started : Terms → List ℕ → Result Replayed StartFault → Type 0
Started terms bs result = GoneThrough (empty_of terms) bs result

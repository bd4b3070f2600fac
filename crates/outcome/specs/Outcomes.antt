-- What an entry comes to: the answer, what is done, in which order, and what the node becomes. Assumes nothing.
use Rattle.std.specs.Prelude.{◌≡◌, ℕ, List, [], ◌∷◌, Ok, Err, Result}
use Rattle.refusal.specs.declared.Refusal.{Refusal}
use Rattle.sheet.specs.Contents.{Content}
use Rattle.node_state.specs.Nodes.{NodeState}
use Rattle.outcome.specs.Acts.{signed_in, both_in, passed_on, key_is, Act, recorded, synced, sent_sheet, sent_signature}
use Rattle.outcome.specs.Logs.{extended, Begun}
use Rattle.outcome.specs.Records.{acted_all}
use Rattle.outcome.specs.declared.types.Fault.{Fault}

-- The answer, and what is done before it is given. A refusal does nothing.
pub record Outcome : Type 0 where
  pub answer : Result (Unit {0}) Refusal
  pub acts : List Act

-- What was done, and what became of the node, of which the state and the log before are given first: the outcome, whole;
-- or, where something failed, a first part of its acts, and no answer.
abbrev pub CarriedOut : Outcome → NodeState → List Act → Result (Result (Unit {0}) Refusal) Fault → NodeState → List Act → Type 0
CarriedOut o n log (Ok answer) m after = (answer ≡ o.answer) × (after ≡ extended log o.acts) × (m ≡ acted_all o.acts n)
CarriedOut o n log (Err f) m after = Begun log o.acts after

abbrev pub refused : Refusal → Outcome
refused e = record { answer = Err e; acts = [] }

abbrev pub done : List Act → Outcome
done acts = record { answer = Ok tt; acts = acts }

-- The owner asked for it: recorded, synced, and then sent with the node's signature.
abbrev pub signing : ℕ → Result Content Refusal → Outcome
signing i (Err e) = refused e
signing i (Ok s) = done (recorded (signed_in i s) ∷ synced ∷ sent_sheet i s ∷ [])

-- Passing on: that the lock was passed on is recorded first.
abbrev pub passing : (from to : ℕ) → List ℕ → Result Content Refusal → Outcome
passing from to lock (Err e) = refused e
passing from to lock (Ok s) = done (recorded (passed_on lock from to) ∷ recorded (signed_in to s) ∷ synced ∷ sent_sheet to s ∷ [])

-- The neighbour proposed it: recorded, synced, and then the signature is sent back. Where its signature came with it, both
-- have signed.
abbrev pub accepting : ℕ → Result Content Refusal → Outcome
accepting i (Err e) = refused e
accepting i (Ok s) = done (recorded (signed_in i s) ∷ synced ∷ sent_signature i s.number ∷ [])

abbrev pub accepting_both : ℕ → Result Content Refusal → Outcome
accepting_both i (Err e) = refused e
accepting_both i (Ok s) = done (recorded (signed_in i s) ∷ recorded (both_in i s) ∷ synced ∷ sent_signature i s.number ∷ [])

-- The neighbour's signature under the next, which is held from then on.
abbrev pub holding : ℕ → Result Content Refusal → Outcome
holding i (Err e) = refused e
holding i (Ok s) = done (recorded (both_in i s) ∷ synced ∷ [])

-- A key that the node didn't have.
abbrev pub learning : List ℕ → Outcome
learning key = done (recorded (key_is key) ∷ synced ∷ [])

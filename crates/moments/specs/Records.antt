-- The node's file: after any stop the node is what its records say. Assumes nothing.
use Rattle.std.specs.Prelude.{◌≡◌, ℕ, ◌⊎◌, List, [], ◌∷◌, ◌++◌, take}
use Rattle.sheet.specs.Contents.{Content}
use Rattle.schedule.specs.declared.types.Terms.{Terms}
use Rattle.node_state.specs.Nodes.{NodeState}
use Rattle.outcome.specs.Acts.{Record, signed_in, passed_on, Act, recorded, synced, sent_sheet, sent_signature, shown_sheet, shown_key}
use Rattle.outcome.specs.Records.{written, acted_all}
use Rattle.rules.specs.declared.types.Message.TheVariants.{Proposed, ProposedSigned, Signed, Key}
use Rattle.rules.specs.declared.types.Call.TheVariants.{Pass, Pay, Get, GiveUp}
use Rattle.moments.specs.Runs.{Deposit, Entry, message, call, outcome_of, Event, taken, cut_off, looked, restarted, started_again, History, happened, start_of, node_after}

-- The records among acts, in order.
abbrev pub records_of : List Act → List Record
records_of [] = []
records_of (recorded r ∷ acts) = r ∷ records_of acts
records_of (synced ∷ acts) = records_of acts
records_of (sent_sheet i s ∷ acts) = records_of acts
records_of (sent_signature i k ∷ acts) = records_of acts
records_of (shown_sheet i s ∷ acts) = records_of acts
records_of (shown_key i k ∷ acts) = records_of acts

-- All records of a run, in order.
abbrev pub records_by : Event → History → List Record
records_by (taken e) h = records_of (outcome_of h.node e).acts
records_by (cut_off e k) h = records_of (take k (outcome_of h.node e).acts)
records_by (looked tick seen sent) h = []
records_by restarted h = []

abbrev pub records_after : List Event → History → List Record
records_after [] h = []
records_after (e ∷ events) h = records_by e h ++ records_after events (happened e h)

-- What the records make of a node, one after the other.
abbrev pub written_all : List Record → NodeState → NodeState
written_all [] n = n
written_all (r ∷ records) n = written_all records (written r n)

-- Stopped and started again at any moment, the node is what its records make of the first sheets.
abbrev pub StandsBy : Type 0
StandsBy =
    (terms : Terms) (ds : List Deposit) (events : List Event) → started_again (node_after terms ds events) ≡ written_all (records_after events (start_of terms ds)) (start_of terms ds).node

-- Only two entries have two records. Between them a lock is marked as passed on and no sheet is signed, or a sheet that came
-- with its signature is signed by the node, and not yet held.
abbrev pub Between : Entry → NodeState → NodeState → Type 0
Between (call (Pass i j p)) n m = m ≡ written (passed_on p.lock i j) n
Between (call (Pay i lock)) n m = ⊥
Between (call (Get i lock)) n m = ⊥
Between (call (GiveUp i lock)) n m = ⊥
Between (message i (ProposedSigned t x)) n m = (s : Content) × (m ≡ written (signed_in i s) n)
Between (message i (Proposed t)) n m = ⊥
Between (message i (Signed x)) n m = ⊥
Between (message i (Key key)) n m = ⊥

-- An entry that is cut off after some acts leaves the node as it was, as the whole entry does, or between two records.
abbrev pub CutOff : Type 0
CutOff =
    (n : NodeState) (e : Entry) (k : ℕ) →
    (acted_all (take k (outcome_of n e).acts) n ≡ n) ⊎ ((acted_all (take k (outcome_of n e).acts) n ≡ acted_all (outcome_of n e).acts n) ⊎ Between e n (acted_all (take k (outcome_of n e).acts) n))

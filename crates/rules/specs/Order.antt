-- What leaves the node was recorded and synced before. Assumes nothing.
use Rattle.std.specs.Prelude.{◌≡◌, ℕ, Bool, true, false, ◌⊎◌, List, [], ◌∷◌, ◌++◌}
use Rattle.sheet.specs.Contents.{Content}
use Rattle.node_state.specs.Nodes.{NodeState}
use Rattle.outcome.specs.Acts.{signed_in, Act, recorded, synced, sent_sheet, sent_signature, shown_sheet, shown_key}
use Rattle.rules.specs.declared.types.Message.{Message}
use Rattle.rules.specs.declared.types.Call.{Call}
use Rattle.rules.specs.Entries.{message_of, call_of}

abbrev pub Among : Act → List Act → Type 0
Among a [] = ⊥
Among a (b ∷ others) = (a ≡ b) ⊎ Among a others

-- Is a record not synced, after these acts; at first there was one or not.
abbrev pub is_pending : Bool → List Act → Bool
is_pending first [] = first
is_pending first (recorded r ∷ others) = is_pending true others
is_pending first (synced ∷ others) = is_pending false others
is_pending first (sent_sheet i s ∷ others) = is_pending first others
is_pending first (sent_signature i k ∷ others) = is_pending first others
is_pending first (shown_sheet i s ∷ others) = is_pending first others
is_pending first (shown_key i k ∷ others) = is_pending first others

-- That the node has signed the sheet was recorded before, and all that was recorded is synced.
abbrev pub Safe : List Act → ℕ → Content → Type 0
Safe before i s = Among (recorded (signed_in i s)) before × (is_pending true before ≡ false)

-- An act may follow those before it in the entry: a sheet or a signature is sent only where it is safe, and nothing is
-- shown to the register.
abbrev pub MayFollow : List Act → Act → Type 0
MayFollow before (recorded r) = Unit {0}
MayFollow before synced = Unit {0}
MayFollow before (sent_sheet i s) = Safe before i s
MayFollow before (sent_signature i k) = (s : Content) × (s.number ≡ k) × Safe before i s
MayFollow before (shown_sheet i s) = ⊥
MayFollow before (shown_key i k) = ⊥

abbrev pub AllFollow : List Act → List Act → Type 0
AllFollow before [] = Unit {0}
AllFollow before (a ∷ others) = MayFollow before a × AllFollow (before ++ a ∷ []) others

-- Each act of each entry may follow those before it. So it is for each first part of them too, where something fails.
abbrev pub MessagesRecordedFirst : Type 0
MessagesRecordedFirst = (n : NodeState) (i : ℕ) (m : Message) → AllFollow [] (message_of n i m).acts

abbrev pub CallsRecordedFirst : Type 0
CallsRecordedFirst = (n : NodeState) (c : Call) → AllFollow [] (call_of n c).acts

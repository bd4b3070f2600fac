-- When the node signs a sheet, in the words of the rules: just then, and at no other time. Assumes nothing.
use Rattle.std.specs.Prelude.{◌≡◌, ℕ, ◌≤◌, true, false, ◌⊎◌, List, [], ◌∷◌}
use Rattle.sheet.specs.declared.types.Payment.{Payment}
use Rattle.sheet.specs.Contents.{Content, content_of}
use Rattle.change.specs.declared.types.Change.TheVariants.{Offered, PassingOn, Paying, Getting, Returned, GivingUp}
use Rattle.change.specs.Follows.{Follows}
use Rattle.schedule.specs.declared.types.Terms.{Terms}
use Rattle.node_state.specs.Nodes.{NodeState, account_at}
use Rattle.judgement.specs.Tests.{has_key}
use Rattle.judgement.specs.Judgements.{only_lock, in_own_view}
use Rattle.outcome.specs.Acts.{Record, signed_in, both_in, passed_on, key_is, Act, recorded, synced, sent_sheet, sent_signature, shown_sheet, shown_key}
use Rattle.rules.specs.declared.types.Message.TheVariants.{Proposed, ProposedSigned, Signed, Key}
use Rattle.rules.specs.declared.types.Call.TheVariants.{Pass, Pay, Get, GiveUp}
use Rattle.moments.specs.Runs.{Deposit, Entry, message, call, outcome_of, Event, node_after}
use Rattle.moments.specs.Moves.{Ready, Fresh, MayPass, NoOutStands}

-- The record says that the node has signed s as the next of account i.
abbrev pub Says : ℕ → Content → Record → Type 0
Says i s (signed_in j t) = (j ≡ i) × (t ≡ s)
Says i s (both_in j t) = ⊥
Says i s (passed_on lock j k) = ⊥
Says i s (key_is k) = ⊥

-- Such a record is among the acts.
abbrev pub Does : ℕ → Content → Act → Type 0
Does i s (recorded r) = Says i s r
Does i s synced = ⊥
Does i s (sent_sheet j t) = ⊥
Does i s (sent_signature j k) = ⊥
Does i s (shown_sheet j t) = ⊥
Does i s (shown_key j k) = ⊥

abbrev pub Signs : ℕ → Content → List Act → Type 0
Signs i s [] = ⊥
Signs i s (a ∷ acts) = Does i s a ⊎ Signs i s acts

-- The sheet follows the held one by a change that a neighbour can propose.
pub data Proposable (n : NodeState) (i : ℕ) (s : Content) : Type 0 where
  offers : (p : Payment) → Follows (account_at n i).held Offered p s → Fresh n p.lock → Proposable n i s
  returns : (p : Payment) → Follows (account_at n i).held Returned p s → Proposable n i s
  getting : (p : Payment) → Follows (account_at n i).held Getting p s → has_key n p.lock ≡ true → Proposable n i s

-- The sheet t, as it came from the neighbour of account i, can be accepted, and s is t in the node's own view.
pub record Acceptable (n : NodeState) (i : ℕ) (t s : Content) : Type 0 where
  pub ready : Ready n i
  pub byte : t.account ≤ 15
  pub view : s ≡ in_own_view i t
  pub change : Proposable n i s

-- By this entry the node may sign s as the next of account i: the owner asked for it, or the neighbour proposed it, and the
-- conditions of the change hold.
abbrev pub MaySign : NodeState → Entry → ℕ → Content → Type 0
MaySign n (call (Pay i lock)) k s = (i ≡ k) × Ready n i × Follows (account_at n i).held Paying (only_lock lock) s × (has_key n lock ≡ true)
MaySign n (call (Get i lock)) k s = (i ≡ k) × Ready n i × Follows (account_at n i).held Getting (only_lock lock) s × (has_key n lock ≡ true)
MaySign n (call (GiveUp i lock)) k s = (i ≡ k) × Ready n i × Follows (account_at n i).held GivingUp (only_lock lock) s × (has_key n lock ≡ false) × NoOutStands n lock
MaySign n (call (Pass i j p)) k s = (j ≡ k) × (incoming : Payment) × MayPass n i j p incoming × Follows (account_at n j).held PassingOn p s
MaySign n (message i (Proposed t)) k s = (i ≡ k) × Acceptable n i (content_of t) s
MaySign n (message i (ProposedSigned t x)) k s = (i ≡ k) × Acceptable n i (content_of t) s × (x.account ≤ 15) × (x.number ≡ t.number)
MaySign n (message i (Signed x)) k s = ⊥
MaySign n (message i (Key key)) k s = ⊥

-- 5. Exactly: at every moment of every run the node signs just what it may sign.
abbrev pub Exactly : Type 0
Exactly =
    (terms : Terms) (ds : List Deposit) (events : List Event) (e : Entry) (i : ℕ) (s : Content) →
    (Signs i s (outcome_of (node_after terms ds events) e).acts → MaySign (node_after terms ds events) e i s)
    × (MaySign (node_after terms ds events) e i s → Signs i s (outcome_of (node_after terms ds events) e).acts)

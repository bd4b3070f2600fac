-- What a node can come out with, whichever sheets come to count and whichever keys are shown, and the least of it. Assumes nothing.
use Rattle.std.specs.Prelude.{◌≡◌, ℕ, ◌≤◌, Bool, ◌||◌, List, length}
use Rattle.sheet.specs.Contents.{Content}
use Rattle.node_state.specs.Nodes.{NodeState}
use Rattle.judgement.specs.Tests.{has_key}
use Rattle.moments.specs.Moments.{sum_to, worth_by, Choice}

-- What all accounts come to, where `choice k` is the sheet of account k that counts and the keys of the locks `shown` are shown.
-- An in comes in if its key is shown or the node has it; an out is the node's own again if its key isn't shown.
abbrev pub outcome_of : NodeState → (choice : ℕ → Content) → (shown : List ℕ → Bool) → ℕ
outcome_of n choice shown = sum_to (length n.accounts) (λ k. worth_by (λ lock. shown lock || has_key n lock) shown (choice k))

-- One sheet that may count for each account.
abbrev pub Chosen : NodeState → (ℕ → Content) → Type 0
Chosen n choice = Choice n (length n.accounts) choice

-- No choice of sheets and no set of keys gives less, and one choice and one set give just this.
pub record IsLeast (n : NodeState) (least : ℕ) : Type 0 where
  pub none_less : (choice : ℕ → Content) → Chosen n choice → (shown : List ℕ → Bool) → least ≤ outcome_of n choice shown
  pub choice : ℕ → Content
  pub chosen : Chosen n choice
  pub shown : List ℕ → Bool
  pub reached : outcome_of n choice shown ≡ least

-- How the least is found: the lesser sheet of each account, and for each lock whether its key is better hidden or shown.
-- Assumes nothing.
use Rattle.std.specs.Prelude.{ℕ, Bool, ◌||◌, List, map, sum_by, nat_le}
use Rattle.std.specs.Str.{bytes_eq}
use Rattle.sheet.specs.declared.types.Payment.{Payment}
use Rattle.sheet.specs.Contents.{Content}
use Rattle.node_state.specs.Nodes.{NodeState}
use Rattle.judgement.specs.Tests.{has_key}
use Rattle.moments.specs.Moments.{those, worth_by}
use Rattle.counting.specs.Orders.{lesser}

-- What the payments with a lock amount to: of a list, of all ins of sheets, of all outs.
abbrev pub with_lock : List ℕ → List Payment → ℕ
with_lock lock ps = those (λ x. bytes_eq x lock) ps

abbrev pub ins_with : List Content → List ℕ → ℕ
ins_with sheets lock = sum_by (λ s. with_lock lock s.ins) sheets

abbrev pub outs_with : List Content → List ℕ → ℕ
outs_with sheets lock = sum_by (λ s. with_lock lock s.outs) sheets

-- The node has least of a lock if its key is shown: it has the key, so the ins come in either way; or the ins with the lock
-- amount to no more than the outs.
abbrev pub is_worse_shown : (List ℕ → Bool) → List Content → List ℕ → Bool
is_worse_shown known sheets lock = known lock || nat_le (ins_with sheets lock) (outs_with sheets lock)

-- What these sheets come to with just those keys shown.
abbrev pub least_by : (List ℕ → Bool) → List Content → ℕ
least_by known sheets = sum_by (worth_by (is_worse_shown known sheets) (is_worse_shown known sheets)) sheets

abbrev pub lessers : NodeState → List Content
lessers n = map lesser n.accounts

abbrev pub least_of : NodeState → ℕ
least_of n = least_by (has_key n) (lessers n)

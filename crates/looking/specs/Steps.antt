-- Parts of a look, as its functions go through them: keys gathered one by one, and acts done one after the other.
-- Assumes nothing.
use Rattle.std.specs.Prelude.{◌≡◌, ℕ, Bool, true, false, cond, List, [], ◌∷◌, ◌++◌, Some, None, Ok, Err, Option, Result, nat_lt}
use Rattle.sheet.specs.declared.types.Payment.{Payment}
use Rattle.node_state.specs.Nodes.{NodeState, with_accounts}
use Rattle.outcome.specs.declared.types.Fault.{Fault}
use Rattle.outcome.specs.Acts.{Act}
use Rattle.outcome.specs.Logs.{extended, Begun}
use Rattle.outcome.specs.Records.{acted_all}
use Rattle.looking.specs.declared.types.Shown.{Shown}
use Rattle.looking.specs.Looking.{is_among, unshown, learned, look_taken, looked_of, each_from}

-- These keys with one more at the end, unless it is there or there is none.
abbrev pub with_one : List (List ℕ) → Option (List ℕ) → List (List ℕ)
with_one keys None = keys
with_one keys (Some key) = cond (is_among key keys) keys (keys ++ key ∷ [])

-- The same for each of a list.
abbrev pub gathered : List (List ℕ) → List (List ℕ) → List (List ℕ)
gathered keys [] = keys
gathered keys (key ∷ others) = gathered (with_one keys (Some key)) others

-- The key of one in, where it has to be shown.
abbrev pub wanted_for : NodeState → (below i : ℕ) → List Shown → Payment → Option (List ℕ)
wanted_for n below i shown p = cond (nat_lt p.end below) (unshown i shown (n.key_of p.lock)) None

-- All acts were done; or, where something failed, a first part of them.
abbrev pub Did : {X : Type 0} → List Act → List Act → Result X Fault → List Act → Type 0
Did log acts (Ok x) after = after ≡ extended log acts
Did log acts (Err f) after = Begun log acts after

abbrev pub is_something : List Act → Bool
is_something [] = false
is_something (a ∷ others) = true

-- The keys were recorded, the answer says whether there was one, and the node has them; or, where something failed, a first
-- part was.
abbrev pub Recorded : NodeState → List Act → List Act → Result Bool Fault → NodeState → List Act → Type 0
Recorded n log acts (Ok some) m after = (some ≡ is_something acts) × (after ≡ extended log acts) × (m ≡ acted_all acts n)
Recorded n log acts (Err f) m after = Begun log acts after

-- Acts were done, and the node is what they make of it; or, where something failed, a first part of them.
abbrev pub Became : NodeState → List Act → List Act → Result (Unit {0}) Fault → NodeState → List Act → Type 0
Became n log acts (Ok x) m after = (after ≡ extended log acts) × (m ≡ acted_all acts n)
Became n log acts (Err f) m after = Begun log acts after

-- A look that isn't refused.
abbrev pub Taken : NodeState → ℕ → List Shown → List Act → Result (Unit {0}) Fault → NodeState → List Act → Type 0
Taken n tick shown log (Ok x) m after =
    (after ≡ extended log (look_taken n tick shown))
    × (m ≡ with_accounts (learned n shown) (each_from (looked_of n.terms.delay tick shown) 0 n.accounts))
Taken n tick shown log (Err f) m after = Begun log (look_taken n tick shown) after

-- A look carried out, and how late one is. Assumes nothing.
use Rattle.std.specs.Prelude.{◌≡◌, ℕ, ◌+◌, ◌-◌, cond, List, Some, None, Ok, Err, Option, Result, nat_lt}
use Rattle.refusal.specs.declared.Refusal.{Refusal}
use Rattle.node_state.specs.Nodes.{NodeState, account_at}
use Rattle.outcome.specs.declared.types.Fault.{Fault}
use Rattle.outcome.specs.Acts.{Act}
use Rattle.outcome.specs.Logs.{extended, Begun}
use Rattle.looking.specs.declared.types.Shown.{Shown}
use Rattle.looking.specs.declared.types.Lateness.{Lateness}
use Rattle.looking.specs.declared.types.Lateness.TheVariants.{First, InTime, Late}
use Rattle.looking.specs.Looking.{look_of, looked_node}

-- What was done, and what became of the node, of which the state and the log before are given first: the look, whole; or,
-- where something failed, a first part of its acts, and no answer.
abbrev pub LookedOut : NodeState → ℕ → List Shown → List Act → Result (Result (Unit {0}) Refusal) Fault → NodeState → List Act → Type 0
LookedOut n tick shown log (Ok answer) m after =
    (answer ≡ (look_of n tick shown).answer) × (after ≡ extended log (look_of n tick shown).acts) × (m ≡ looked_node n tick shown)
LookedOut n tick shown log (Err f) m after = Begun log (look_of n tick shown).acts after

-- After a last look, if there was one since the start: late if it comes more than `look` ticks after that, by what is above.
abbrev pub lateness_after : (look tick : ℕ) → Option ℕ → Lateness
lateness_after look tick None = First
lateness_after look tick (Some last) = cond (nat_lt (last + look) tick) (Late (tick - (last + look))) InTime

-- All accounts have the same last look, so the first stands for all.
abbrev pub lateness_of : NodeState → ℕ → Lateness
lateness_of n tick = lateness_after n.terms.look tick (account_at n 0).looked

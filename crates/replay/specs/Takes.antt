-- What a record of the file makes of the node at a start. Assumes nothing.
use Rattle.std.specs.Prelude.{◌≡◌, ℕ, Bool, true, false, cond, Ok, Err, Result, ◌==◌}
use Rattle.node_state.specs.Nodes.{NodeState, with_opened}
use Rattle.outcome.specs.Acts.{signed_in, both_in, passed_on, key_is}
use Rattle.outcome.specs.Records.{written}
use Rattle.journal.specs.Records.{Recorded, signed_record, both_record, passed_record, key_record}
use Rattle.replay.specs.declared.types.StartFault.{StartFault}
use Rattle.replay.specs.declared.types.StartFault.TheVariants.{Memory, Damaged}

-- A first sheet opens the next account, with its deposits: there are fewer than 16 where it fits. Any other record makes of
-- the node what it made when it was written.
abbrev pub taken : Recorded → NodeState → NodeState
taken (signed_record s) n = written (signed_in s.account s) n
taken (both_record s) n = cond (s.number == 0) (with_opened n s.own s.theirs).1 (written (both_in s.account s) n)
taken (passed_record lock from to) n = written (passed_on lock from to) n
taken (key_record key) n = written (key_is key) n

-- What comes of taking a record at a place, of which it is known whether it fits, the node before, the node with it, and
-- the node that there is then: it is taken if it fits, and otherwise damaged; nothing changes where it isn't taken.
abbrev pub Took : Bool → NodeState → NodeState → ℕ → Result (Unit {0}) StartFault → NodeState → Type 0
Took fit before after at (Ok x) n = (fit ≡ true) × (n ≡ after)
Took fit before after at (Err Memory) n = n ≡ before
Took fit before after at (Err (Damaged place)) n = (fit ≡ false) × (place ≡ at) × (n ≡ before)

-- What the node becomes by what it records. Assumes nothing.
use Rattle.std.specs.Prelude.{List, [], ◌∷◌}
use Rattle.digest.specs.Sha256.{sha256}
use Rattle.account.specs.Accounts.{signed_of, held_of}
use Rattle.node_state.specs.Nodes.{NodeState, account_at, with_account, with_key, with_route}
use Rattle.outcome.specs.Acts.{Record, signed_in, both_in, passed_on, key_is, Act, recorded, synced, sent_sheet, sent_signature, shown_sheet, shown_key}

-- What a record makes of the node.
abbrev pub written : Record → NodeState → NodeState
written (signed_in i s) n = with_account n i (signed_of (account_at n i) s)
written (both_in i s) n = with_account n i (held_of (account_at n i) s)
written (passed_on lock i j) n = with_route n lock (record { from = i; to = j })
written (key_is key) n = with_key n (sha256 key) key

-- The node after these acts: only what is recorded changes it.
abbrev pub acted_on : Act → NodeState → NodeState
acted_on (recorded r) n = written r n
acted_on synced n = n
acted_on (sent_sheet i s) n = n
acted_on (sent_signature i k) n = n
acted_on (shown_sheet i s) n = n
acted_on (shown_key i k) n = n

abbrev pub acted_all : List Act → NodeState → NodeState
acted_all [] n = n
acted_all (a ∷ others) n = acted_all others (acted_on a n)

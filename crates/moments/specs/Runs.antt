-- Runs of a node: what can happen to it, and what it has afterwards. Assumes nothing.
use Rattle.std.specs.Prelude.{ℕ, ◌+◌, Bool, false, ◌||◌, List, [], ◌∷◌, take, Some, None, Option, slice_index_or}
use Rattle.sheet.specs.Contents.{first_of}
use Rattle.account.specs.declared.types.OnItsWay.{OnItsWay}
use Rattle.account.specs.Accounts.{Standing, opened_of}
use Rattle.schedule.specs.declared.types.Terms.{Terms}
use Rattle.node_state.specs.Nodes.{NodeState, with_accounts}
use Rattle.outcome.specs.Acts.{Act}
use Rattle.outcome.specs.Records.{acted_all}
use Rattle.outcome.specs.Outcomes.{Outcome}
use Rattle.rules.specs.declared.types.Message.{Message}
use Rattle.rules.specs.declared.types.Call.{Call}
use Rattle.rules.specs.declared.types.Call.TheVariants.{Pass, Pay, Get, GiveUp}
use Rattle.rules.specs.Entries.{message_of, call_of}

-- What the node and the neighbour put into an account.
pub record Deposit : Type 0 where
  pub own : ℕ
  pub theirs : ℕ

abbrev pub deposit_at : List Deposit → ℕ → Deposit
deposit_at ds k = slice_index_or ds k (record { own = 0; theirs = 0 })

-- What the node is given: a message, that comes with the number of an account, or a call of its owner.
pub data Entry : Type 0 where
  message : ℕ → Message → Entry
  call : Call → Entry

-- What it comes to, as the contracts of the code say.
abbrev pub outcome_of : NodeState → Entry → Outcome
outcome_of n (message i m) = message_of n i m
outcome_of n (call c) = call_of n c

-- `taken`: an entry; `cut_off`: an entry of which only the first so many acts are done before the node stops and starts again;
-- `looked`: a look at this tick, that sees disputes in these accounts and leaves these sheets on their way. What the
-- register shows is left open here, so any look may come. `restarted`: the node stops and starts again.
pub data Event : Type 0 where
  taken : Entry → Event
  cut_off : Entry → ℕ → Event
  looked : ℕ → (ℕ → Bool) → (ℕ → Option OnItsWay) → Event
  restarted : Event

-- Each account with its number, changed in one way.
abbrev pub each_of : (ℕ → Standing → Standing) → ℕ → List Standing → List Standing
each_of f i [] = []
each_of f i (a ∷ others) = f i a ∷ each_of f (i + 1) others

abbrev pub looked_of : ℕ → (ℕ → Bool) → (ℕ → Option OnItsWay) → ℕ → Standing → Standing
looked_of tick seen sent k a = record { held = a.held; next = a.next; looked = Some tick; disputed = a.disputed || seen k; sent = sent k }

-- What is not in the file is gone.
abbrev pub restarted_of : ℕ → Standing → Standing
restarted_of k a = record { held = a.held; next = a.next; looked = None; disputed = false; sent = None }

abbrev pub started_again : NodeState → NodeState
started_again n = with_accounts n (each_of restarted_of 0 n.accounts)

-- The node, and the locks for which it has signed paying: these stand beside the node, not in it.
pub record History : Type 0 where
  pub node : NodeState
  pub paid : List (List ℕ)

-- Of the acts of a payment the first is its record, so with any act done the paying is signed.
abbrev pub paid_by_call : Call → List Act → List (List ℕ) → List (List ℕ)
paid_by_call (Pay i lock) [] locks = locks
paid_by_call (Pay i lock) (a ∷ others) locks = lock ∷ locks
paid_by_call (Pass i j p) acts locks = locks
paid_by_call (Get i lock) acts locks = locks
paid_by_call (GiveUp i lock) acts locks = locks

abbrev pub paid_by : Entry → List Act → List (List ℕ) → List (List ℕ)
paid_by (message i m) acts locks = locks
paid_by (call c) acts locks = paid_by_call c acts locks

-- The history after these acts of an entry.
abbrev pub after_acts : Entry → List Act → History → History
after_acts e acts h = record { node = acted_all acts h.node; paid = paid_by e acts h.paid }

abbrev pub with_node : History → NodeState → History
with_node h n = record { node = n; paid = h.paid }

abbrev pub happened : Event → History → History
happened (taken e) h = after_acts e (outcome_of h.node e).acts h
happened (cut_off e k) h =
    let cut : History = after_acts e (take k (outcome_of h.node e).acts) h in
    with_node cut (started_again cut.node)
happened (looked tick seen sent) h = with_node h (with_accounts h.node (each_of (looked_of tick seen sent) 0 h.node.accounts))
happened restarted h = with_node h (started_again h.node)

abbrev pub after : List Event → History → History
after [] h = h
after (e ∷ events) h = after events (happened e h)

-- Sheet 0 of each account has the deposits and nothing else; there are no keys, and nothing was passed on.
abbrev pub opened_all : ℕ → List Deposit → List Standing
opened_all i [] = []
opened_all i (d ∷ others) = opened_of (first_of i d.own d.theirs) ∷ opened_all (i + 1) others

abbrev pub start_of : Terms → List Deposit → History
start_of terms ds =
    record { node = record { terms = terms; accounts = opened_all 0 ds; key_of = λ lock. None; route_of = λ lock. None }; paid = [] }

abbrev pub node_after : Terms → List Deposit → List Event → NodeState
node_after terms ds events = (after events (start_of terms ds)).node

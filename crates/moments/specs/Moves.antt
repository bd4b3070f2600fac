-- What a node can do at all, in the words of the rules: the moves of which every run is made. Assumes nothing.
use Rattle.std.specs.Prelude.{◌≡◌, ℕ, ◌+◌, ◌<◌, ◌≤◌, true, false, List, ◌∷◌, length, Some, None, ◌≢◌}
use Rattle.sheet.specs.declared.types.Payment.{Payment}
use Rattle.sheet.specs.Contents.{Content}
use Rattle.account.specs.Accounts.{Standing, is_frozen}
use Rattle.change.specs.declared.types.Change.TheVariants.{Offered, PassingOn, Paying, Getting, Returned, GivingUp}
use Rattle.change.specs.Follows.{Follows}
use Rattle.node_state.specs.declared.types.Route.{Route}
use Rattle.node_state.specs.Nodes.{NodeState, account_at, with_accounts}
use Rattle.judgement.specs.Tests.{has_key, looked_at}
use Rattle.outcome.specs.Acts.{signed_in, both_in, passed_on, key_is}
use Rattle.outcome.specs.Records.{written}
use Rattle.moments.specs.Runs.{each_of, Event, History, after}
use Rattle.moments.specs.Moments.{In, Out, Stands}

-- The node may sign in the account: it is there, not frozen, and no next is under way.
pub record Ready (n : NodeState) (i : ℕ) : Type 0 where
  pub there : i < length n.accounts
  pub unfrozen : is_frozen (account_at n i) ≡ false
  pub still : (account_at n i).next ≡ None

-- The lock is in no in that may count, and was never passed on.
pub record Fresh (n : NodeState) (lock : List ℕ) : Type 0 where
  pub nowhere : (k : ℕ) (x : Payment) → In n k x → x.lock ≢ lock
  pub unrouted : n.route_of lock ≡ None

-- The in of account i, on held, can be passed on to account j as p.
pub record MayPass (n : NodeState) (i j : ℕ) (p incoming : Payment) : Type 0 where
  pub ready_from : Ready n i
  pub ready_to : Ready n j
  pub other : i ≡ j → ⊥
  pub stands : Stands incoming (account_at n i).held.ins
  pub lock : incoming.lock ≡ p.lock
  pub unrouted : n.route_of p.lock ≡ None
  pub nowhere : (k : ℕ) (x : Payment) → Out n k x → x.lock ≢ p.lock
  pub covers : p.amount ≤ incoming.amount
  pub apart : p.end + n.terms.gap ≤ incoming.end
  pub in_not_past : looked_at (account_at n i) ≤ incoming.end
  pub out_not_past : looked_at (account_at n j) ≤ p.end

-- No out with the lock may count in the account that it was passed on to.
abbrev pub NoOutStands : NodeState → List ℕ → Type 0
NoOutStands n lock = (r : Route) → n.route_of lock ≡ Some r → (x : Payment) → Out n r.to x → x.lock ≢ lock

-- The sheets stay as they are.
abbrev pub SameSheets : Standing → Standing → Type 0
SameSheets a b = (b.held ≡ a.held) × (b.next ≡ a.next)

-- One move, and the locks paid for before and after it. The first six sign a sheet.
pub data Move (n : NodeState) (locks : List (List ℕ)) : NodeState → List (List ℕ) → Type 0 where
  offered : (i : ℕ) (p : Payment) (s : Content) → Ready n i → Follows (account_at n i).held Offered p s → Fresh n p.lock → Move n locks (written (signed_in i s) n) locks
  passes : (i j : ℕ) (p incoming : Payment) (s : Content) → MayPass n i j p incoming → Follows (account_at n j).held PassingOn p s →
      Move n locks (written (signed_in j s) (written (passed_on p.lock i j) n)) locks
  pays : (i : ℕ) (p : Payment) (s : Content) → Ready n i → Follows (account_at n i).held Paying p s → has_key n p.lock ≡ true → Move n locks (written (signed_in i s) n) (p.lock ∷ locks)
  gets : (i : ℕ) (p : Payment) (s : Content) → Ready n i → Follows (account_at n i).held Getting p s → has_key n p.lock ≡ true → Move n locks (written (signed_in i s) n) locks
  returned : (i : ℕ) (p : Payment) (s : Content) → Ready n i → Follows (account_at n i).held Returned p s → Move n locks (written (signed_in i s) n) locks
  gives_up : (i : ℕ) (p : Payment) (s : Content) → Ready n i → Follows (account_at n i).held GivingUp p s → has_key n p.lock ≡ false → NoOutStands n p.lock →
      Move n locks (written (signed_in i s) n) locks
  -- the neighbour's signature has come, to an account that isn't frozen
  holds : (i : ℕ) (s : Content) → is_frozen (account_at n i) ≡ false → (account_at n i).next ≡ Some s → Move n locks (written (both_in i s) n) locks
  -- a stop came between the two records of passing on
  marked : (lock : List ℕ) (i j : ℕ) → n.route_of lock ≡ None → Move n locks (written (passed_on lock i j) n) locks
  learns : (key : List ℕ) → Move n locks (written (key_is key) n) locks
  -- a look or a start changes what isn't in the file
  passing : (f : ℕ → Standing → Standing) → ((k : ℕ) (a : Standing) → SameSheets a (f k a)) → Move n locks (with_accounts n (each_of f 0 n.accounts)) locks

-- By moves from one node to another.
pub data Reached (start : NodeState) (none : List (List ℕ)) : NodeState → List (List ℕ) → Type 0 where
  begin : Reached start none start none
  then : {n m : NodeState} {locks more : List (List ℕ)} → Reached start none n locks → Move n locks m more → Reached start none m more

-- Every run is made of moves, from wherever it begins.
abbrev pub RunsAreMoves : Type 0
RunsAreMoves = (h : History) (events : List Event) → Reached h.node h.paid (after events h).node (after events h).paid

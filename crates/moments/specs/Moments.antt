-- What holds of a node at every moment of every run. Assumes nothing.
use Rattle.std.specs.Prelude.{◌≡◌, ℕ, zero, suc, ◌+◌, ◌<◌, ◌≤◌, Bool, true, false, cond, not, ◌&&◌, ◌||◌, ◌⊎◌, List, [], ◌∷◌, length, Some, None, sum_by, Option, ◌==◌}
use Rattle.refusal.specs.declared.Refusal.{Refusal}
use Rattle.sheet.specs.declared.types.Payment.{Payment}
use Rattle.sheet.specs.Contents.{Content}
use Rattle.account.specs.Accounts.{Standing}
use Rattle.change.specs.Follows.{NotAmong}
use Rattle.change.specs.Totals.{total_of}
use Rattle.schedule.specs.declared.types.Terms.{Terms}
use Rattle.node_state.specs.declared.types.Route.{Route}
use Rattle.node_state.specs.Nodes.{NodeState, account_at}
use Rattle.judgement.specs.Tests.{has_key}
use Rattle.outcome.specs.Outcomes.{refused}
use Rattle.rules.specs.Entries.{passed}
use Rattle.moments.specs.Runs.{Deposit, deposit_at, Event, History, after, start_of, node_after}

-- The sheets of an account that may count: held, and next if there is one.
abbrev pub Counts : Standing → Content → Type 0
Counts a s = (a.held ≡ s) ⊎ (a.next ≡ Some s)

-- The payment stands in the list.
abbrev pub Stands : Payment → List Payment → Type 0
Stands x [] = ⊥
Stands x (p ∷ ps) = (p ≡ x) ⊎ Stands x ps

-- An in, and an out, of account k on a sheet that may count.
abbrev pub In : NodeState → ℕ → Payment → Type 0
In n k x = (s : Content) × Counts (account_at n k) s × Stands x s.ins

abbrev pub Out : NodeState → ℕ → Payment → Type 0
Out n k x = (s : Content) × Counts (account_at n k) s × Stands x s.outs

-- No lock stands twice in the list.
abbrev pub Apart : List Payment → Type 0
Apart [] = Unit {0}
Apart (p ∷ ps) = NotAmong p.lock ps × Apart ps

-- 1. Two at most: the next sheet has the number after held's, and the same account.
abbrev pub TwoAtMost : Type 0
TwoAtMost =
    (terms : Terms) (ds : List Deposit) (events : List Event) (k : ℕ) (s : Content) → (account_at (node_after terms ds events) k).next ≡ Some s →
    (s.number ≡ (account_at (node_after terms ds events) k).held.number + 1) × (s.account ≡ (account_at (node_after terms ds events) k).held.account)

-- Each sheet that may count has the number of its account.
abbrev pub OwnNumber : Type 0
OwnNumber =
    (terms : Terms) (ds : List Deposit) (events : List Event) (k : ℕ) (s : Content) → k < length ds → Counts (account_at (node_after terms ds events) k) s → s.account ≡ k

-- 2. Once: a lock that was passed on stays so, from the same account to the same one, whatever happens later.
abbrev pub PassedOnce : Type 0
PassedOnce =
    (h : History) (events : List Event) (lock : List ℕ) (r : Route) → h.node.route_of lock ≡ Some r → (after events h).node.route_of lock ≡ Some r

-- A lock that was passed on can't be passed on again.
abbrev pub NotAgain : Type 0
NotAgain = (n : NodeState) (i j : ℕ) (p : Payment) (r : Route) → n.route_of p.lock ≡ Some r → (e : Refusal) × (passed n i j p ≡ refused e)

-- What the payments of a node have to do with each other.
pub record Payments (n : NodeState) : Type 0 where
  -- no lock stands twice on one list
  pub apart_ins : (k : ℕ) (s : Content) → Counts (account_at n k) s → Apart s.ins
  pub apart_outs : (k : ℕ) (s : Content) → Counts (account_at n k) s → Apart s.outs
  -- ins of one lock are one payment, in one account; and so are outs
  pub one_in : (j k : ℕ) (x y : Payment) → In n j x → In n k y → x.lock ≡ y.lock → (j ≡ k) × (x ≡ y)
  pub one_out : (j k : ℕ) (x y : Payment) → Out n j x → Out n k y → x.lock ≡ y.lock → (j ≡ k) × (x ≡ y)
  -- an out was passed on, to just this account
  pub routed : (k : ℕ) (x : Payment) → Out n k x → (r : Route) × (n.route_of x.lock ≡ Some r) × (r.to ≡ k)
  -- an out ends before the in with its lock by the gap, and is no more than it
  pub ends : (j k : ℕ) (x y : Payment) → Out n j x → In n k y → x.lock ≡ y.lock → x.end + n.terms.gap ≤ y.end
  pub covered : (j k : ℕ) (x y : Payment) → Out n j x → In n k y → x.lock ≡ y.lock → x.amount ≤ y.amount

abbrev pub NoLockTwice : Type 0
NoLockTwice = (terms : Terms) (ds : List Deposit) (events : List Event) → Payments (node_after terms ds events)

-- 3. Total: each sheet that may count has just the money that was put into the account.
abbrev pub TotalKept : Type 0
TotalKept =
    (terms : Terms) (ds : List Deposit) (events : List Event) (k : ℕ) (s : Content) → Counts (account_at (node_after terms ds events) k) s →
    total_of s ≡ (deposit_at ds k).own + (deposit_at ds k).theirs

-- f 0 + f 1 + .. + f (n - 1)
abbrev pub sum_to : ℕ → (ℕ → ℕ) → ℕ
sum_to zero f = 0
sum_to (suc n) f = f n + sum_to n f

-- What the payments amount to whose lock passes a test.
abbrev pub those : (List ℕ → Bool) → List Payment → ℕ
those f ps = sum_by (λ p. cond (f p.lock) p.amount 0) ps

-- What a sheet comes to if it counts: own, the ins that come in, and the outs whose key isn't shown.
abbrev pub worth_by : (comes shown : List ℕ → Bool) → Content → ℕ
worth_by comes shown s = s.own + those comes s.ins + those (λ lock. not (shown lock)) s.outs

-- What the node itself put in.
abbrev pub put_in : List Deposit → ℕ
put_in ds = sum_to (length ds) (λ k. (deposit_at ds k).own)

-- One sheet that may count for each account.
abbrev pub Choice : NodeState → ℕ → (ℕ → Content) → Type 0
Choice n many choice = (k : ℕ) → k < many → Counts (account_at n k) (choice k)

-- 4. At every moment: whichever sheets come to count and whichever keys are shown, the node has at least what it put in.
-- An in comes in if its key is shown or the node has it.
abbrev pub NeverLess : Type 0
NeverLess =
    (terms : Terms) (ds : List Deposit) (events : List Event) (choice : ℕ → Content) → Choice (node_after terms ds events) (length ds) choice → (shown : List ℕ → Bool) →
    put_in ds ≤ sum_to (length ds) (λ k. worth_by (λ lock. shown lock || has_key (node_after terms ds events) lock) shown (choice k))

-- The lock was passed on from account k.
abbrev pub is_from : ℕ → Option Route → Bool
is_from k None = false
is_from k (Some r) = r.from == k

-- The locks are all among those shown.
abbrev pub AllShown : List (List ℕ) → (List ℕ → Bool) → Type 0
AllShown [] shown = Unit {0}
AllShown (lock ∷ locks) shown = (shown lock ≡ true) × AllShown locks shown

-- The node has the key of each lock that it paid for.
abbrev pub PaidKnown : Type 0
PaidKnown = (terms : Terms) (ds : List Deposit) (events : List Event) → AllShown (after events (start_of terms ds)).paid (has_key (node_after terms ds events))

-- At every moment, harder: where the keys of all that the node paid for are shown, the ins that were passed on do it alone.
abbrev pub PassedOnPays : Type 0
PassedOnPays =
    (terms : Terms) (ds : List Deposit) (events : List Event) (choice : ℕ → Content) → Choice (node_after terms ds events) (length ds) choice → (shown : List ℕ → Bool) →
    AllShown (after events (start_of terms ds)).paid shown →
    put_in ds ≤ sum_to (length ds) (λ k. worth_by (λ lock. is_from k ((node_after terms ds events).route_of lock) && shown lock) shown (choice k))

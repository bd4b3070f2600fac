-- The sheet that the node would sign, or hold, for each entry, or the refusal. Assumes nothing.
use Rattle.std.specs.Prelude.{ℕ, cond, not, ◌||◌, List, Some, None, Ok, Err, Option, Result, ◌==◌, nat_lt}
use Rattle.refusal.specs.declared.Refusal.{Refusal}
use Rattle.refusal.specs.declared.Refusal.TheVariants.{NotOpen, UnderWay, Mismatch, LockUsed, NotCovered, EndTooNear, KeyMissing, KeyKnown, OutStands}
use Rattle.sheet.specs.declared.types.Payment.{Payment}
use Rattle.sheet.specs.Contents.{Content, found}
use Rattle.change.specs.declared.types.Change.{Change}
use Rattle.change.specs.declared.types.Change.TheVariants.{Offered, PassingOn, Paying, Getting, Returned, GivingUp}
use Rattle.change.specs.Changes.{changed}
use Rattle.proposal.specs.declared.types.Proposal.{Proposal}
use Rattle.proposal.specs.Proposals.{proposal_of}
use Rattle.proposal.specs.Sames.{same_content}
use Rattle.account.specs.Accounts.{Standing}
use Rattle.node_state.specs.Nodes.{NodeState, account_at}
use Rattle.judgement.specs.declared.types.Signature.{Signature}
use Rattle.judgement.specs.Tests.{unless, is_shut, is_closed, is_under_way, has_key, used_in, used_out, too_near, out_stands}

-- A payment of which only the lock counts.
abbrev pub only_lock : List ℕ → Payment
only_lock lock = record { lock = lock; amount = 0; end = 0 }

-- The owner's calls. Each looks first whether the account is there and not frozen, then whether a next is under way.
abbrev pub may_call : NodeState → ℕ → Result (Unit {0}) Refusal
may_call n i = cond (is_shut n i) (Err NotOpen) (cond (is_under_way (account_at n i)) (Err UnderWay) (Ok tt))

abbrev pub calling : Result (Unit {0}) Refusal → Result Content Refusal → Result Content Refusal
calling (Err e) next = Err e
calling (Ok x) next = next

-- Paying an out, or getting an in: the node has the key.
abbrev pub to_settle : NodeState → ℕ → Change → List ℕ → Result Content Refusal
to_settle n i c lock = calling (may_call n i) (unless (not (has_key n lock)) KeyMissing (changed (account_at n i).held c (only_lock lock)))

-- Giving up an in: the node doesn't have the key, and no out for it can come to count.
abbrev pub to_give_up : NodeState → ℕ → List ℕ → Result Content Refusal
to_give_up n i lock =
    calling (may_call n i)
    (unless (has_key n lock) KeyKnown
    (unless (out_stands n lock (n.route_of lock)) OutStands (changed (account_at n i).held GivingUp (only_lock lock))))

-- Passing on the in with p's lock, where there is one, from an account to another as p.
abbrev pub passed_as : NodeState → (from to : Standing) → Payment → Option Payment → Result Content Refusal
passed_as n from to p None = Err Mismatch
passed_as n from to p (Some incoming) =
    unless (used_out n p.lock) LockUsed
    (unless (nat_lt incoming.amount p.amount) NotCovered
    (unless (too_near n.terms.gap from to incoming p) EndTooNear (changed to.held PassingOn p)))

abbrev pub to_pass : NodeState → (i j : ℕ) → Payment → Result Content Refusal
to_pass n i j p =
    cond (is_shut n i || is_shut n j) (Err NotOpen)
    (cond (is_under_way (account_at n i) || is_under_way (account_at n j)) (Err UnderWay)
    (cond (i == j) (Err Mismatch)
    (passed_as n (account_at n i) (account_at n j) p (found p.lock (account_at n i).held.ins))))

-- A neighbour's sheet in the node's own view, with the node's own number for the account.
abbrev pub in_own_view : ℕ → Content → Content
in_own_view i s = record { account = i; number = s.number; own = s.theirs; theirs = s.own; ins = s.outs; outs = s.ins }

-- The sheet that a proposal would have the node sign: only these three changes can be proposed.
abbrev pub proposed_as : NodeState → Content → Change → Payment → Result Content Refusal
proposed_as n held Offered p = unless (used_in n p.lock) LockUsed (changed held Offered p)
proposed_as n held Returned p = changed held Returned p
proposed_as n held Getting p = unless (not (has_key n p.lock)) KeyMissing (changed held Getting p)
proposed_as n held PassingOn p = Err Mismatch
proposed_as n held Paying p = Err Mismatch
proposed_as n held GivingUp p = Err Mismatch

abbrev pub proposed_by : NodeState → Content → Option Proposal → Result Content Refusal
proposed_by n held None = Err Mismatch
proposed_by n held (Some q) = proposed_as n held q.change q.payment

abbrev pub judged : NodeState → (held proposed : Content) → Result Content Refusal
judged n held proposed = proposed_by n held (proposal_of held proposed)

-- A sheet alone, as it came.
abbrev pub to_accept : NodeState → ℕ → Content → Result Content Refusal
to_accept n i s =
    cond (is_closed n i s.account) (Err NotOpen)
    (cond (is_under_way (account_at n i)) (Err UnderWay) (judged n (account_at n i).held (in_own_view i s)))

-- A sheet with the neighbour's signature under a number. Where a next is under way, the sheet must be that one; else it is
-- a proposal.
abbrev pub signed_as : NodeState → Content → Content → ℕ → Option Content → Result Content Refusal
signed_as n held s number None = unless (not (number == s.number)) Mismatch (judged n held s)
signed_as n held s number (Some x) = cond (same_content s x) (cond (number == x.number) (Ok x) (Err Mismatch)) (Err UnderWay)

abbrev pub to_accept_both : NodeState → ℕ → Content → Signature → Result Content Refusal
to_accept_both n i s signature =
    cond (is_closed n i s.account || nat_lt 15 signature.account) (Err NotOpen)
    (signed_as n (account_at n i).held (in_own_view i s) signature.number (account_at n i).next)

-- A signature alone: under the next with that number.
abbrev pub next_with : ℕ → Option Content → Result Content Refusal
next_with number None = Err Mismatch
next_with number (Some x) = cond (number == x.number) (Ok x) (Err Mismatch)

abbrev pub to_hold : NodeState → ℕ → Signature → Result Content Refusal
to_hold n i signature = cond (is_closed n i signature.account) (Err NotOpen) (next_with signature.number (account_at n i).next)

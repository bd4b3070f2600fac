-- Which records a node can have written at a place of its file. Assumes nothing.
-- `others` says that a record other than a first sheet stands before it, `n` is what the records before it make.
use Rattle.std.specs.Prelude.{ℕ, ◌+◌, Bool, true, false, cond, not, ◌&&◌, List, length, is_some, Some, None, Option, ◌==◌, nat_le, nat_lt}
use Rattle.sheet.specs.Contents.{Content}
use Rattle.change.specs.Totals.{total_of}
use Rattle.proposal.specs.Sames.{same_content}
use Rattle.node_state.specs.Nodes.{NodeState, account_at}
use Rattle.journal.specs.Records.{Recorded, signed_record, both_record, passed_record, key_record}

-- A first sheet: only first sheets stand before it, its account is their number and at most 15, it has no ins and no
-- outs, and its deposits together fit four bytes.
abbrev pub fits_first : Content → Bool → NodeState → Bool
fits_first s others n =
    not others && s.account == length n.accounts && nat_lt s.account 16 && length s.ins == 0 && length s.outs == 0 && nat_le (s.own + s.theirs) 4294967295

-- Any other sheet: its account has a first sheet, and its money is that of the account's held sheet. That is the two
-- deposits, since each sheet that fits has as much as the one before it.
abbrev pub fits_account : Content → NodeState → Bool
fits_account s n = nat_lt s.account (length n.accounts) && total_of s == total_of (account_at n s.account).held

-- A sheet signed by the node: no next is under way, and its number is that of held plus 1.
abbrev pub fits_signed : Content → NodeState → Bool
fits_signed s n =
    fits_account s n && not (is_some (account_at n s.account).next) && s.number == (account_at n s.account).held.number + 1

-- A sheet signed by both: it is the next that is under way.
abbrev pub is_next : Option Content → Content → Bool
is_next None s = false
is_next (Some t) s = same_content t s

abbrev pub fits_both : Content → NodeState → Bool
fits_both s n = fits_account s n && is_next (account_at n s.account).next s

-- A lock passed on: both accounts have a first sheet, they are two, and the lock wasn't passed on before.
abbrev pub fits_passed : (lock : List ℕ) (from to : ℕ) → NodeState → Bool
fits_passed lock from to n =
    nat_lt from (length n.accounts) && nat_lt to (length n.accounts) && not (from == to) && not (is_some (n.route_of lock))

-- Each kind of record; a sheet signed by both is a first one if its number is 0. A key fits anywhere.
abbrev pub fits : Recorded → Bool → NodeState → Bool
fits (signed_record s) others n = fits_signed s n
fits (both_record s) others n = cond (s.number == 0) (fits_first s others n) (fits_both s n)
fits (passed_record lock from to) others n = fits_passed lock from to n
fits (key_record key) others n = true

abbrev pub is_first : Recorded → Bool
is_first (signed_record s) = false
is_first (both_record s) = s.number == 0
is_first (passed_record lock from to) = false
is_first (key_record key) = false

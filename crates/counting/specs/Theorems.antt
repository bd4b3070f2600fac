-- What holds of the least, and of every run of a node. Assumes nothing.
use Rattle.std.specs.Prelude.{ℕ, ◌≤◌, List, ◌++◌, length, pos, ◌≤ℤ◌, Ok}
use Rattle.std.specs.List.{flat_map, AllByRecursion}
use Rattle.schedule.specs.declared.types.Terms.{Terms}
use Rattle.node_state.specs.Nodes.{NodeState}
use Rattle.journal.specs.Records.{record_bytes}
use Rattle.moments.specs.Runs.{Deposit, Event, node_after}
use Rattle.moments.specs.Moments.{put_in}
use Rattle.counting.specs.declared.types.Count.{Count}
use Rattle.counting.specs.Answers.{Compared}
use Rattle.counting.specs.Deposits.{first_records, FourBytes}
use Rattle.counting.specs.Outcomes.{IsLeast}
use Rattle.counting.specs.Orders.{Orderly}
use Rattle.counting.specs.Leasts.{least_of}

-- Where each account's two sheets are in order, what is found is the least.
abbrev pub FoundIsLeast : Type 0
FoundIsLeast = (n : NodeState) → Orderly n → IsLeast n (least_of n)

-- The sheets of every node of every run are in order, so there is an answer for each.
abbrev pub RunsOrderly : Type 0
RunsOrderly = (terms : Terms) (ds : List Deposit) (events : List Event) → Orderly (node_after terms ds events)

-- The least that a node of a run can come out with is not below what it put in.
abbrev pub NotBelow : Type 0
NotBelow = (terms : Terms) (ds : List Deposit) (events : List Event) (least : ℕ) → IsLeast (node_after terms ds events) least → put_in ds ≤ least

-- The difference that is printed for the node of a run, beside a file that begins with its first sheets, is not below 0.
abbrev pub NotNegative : Type 0
NotNegative =
    (terms : Terms) (ds : List Deposit) (events : List Event) (rest : List ℕ) (c : Count) → length ds ≤ 16 → AllByRecursion FourBytes ds →
    Compared (node_after terms ds events) (flat_map record_bytes (first_records 0 ds) ++ rest) (Ok c) → pos 0 ≤ℤ c.difference

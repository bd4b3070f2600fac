-- The sheets of every node of every run are in order, and the least is not below what was put in.
use Rattle.std.proofs.Common.{◌≡◌, ℕ, ◌≤◌, true, ◌||◌, List, [], set, ℤ, pos, ◌-ℤ◌, ◌≤ℤ◌, Option, refl, ap, ◌∙◌, arith}
use Rattle.std.proofs.lemmas.Int.{ints}
use Rattle.sheet.specs.Contents.{Content, first_of}
use Rattle.account.specs.Accounts.{Standing, opened_of, signed_of, held_of}
use Rattle.change.specs.declared.types.Change.TheVariants.{Offered, PassingOn, Paying, Getting, Returned, GivingUp}
use Rattle.schedule.specs.declared.types.Terms.{Terms}
use Rattle.node_state.specs.Nodes.{NodeState, account_at}
use Rattle.judgement.specs.Tests.{has_key}
use Rattle.moments.specs.Runs.{Deposit, after, start_of, node_after}
use Rattle.moments.specs.Moments.{sum_to, worth_by}
use Rattle.moments.specs.Moves.{Move, offered, passes, pays, gets, returned, gives_up, holds, marked, learns, passing, Reached, begin, then}
use Rattle.moments.proofs.Places.{at_put}
use Rattle.moments.proofs.Keeps.{same_at, opened}
use Rattle.moments.proofs.Theorems.{runs_reached, run_whole, never_less}
use Rattle.counting.specs.Orders.{in_order, is_orderly}
use Rattle.counting.specs.Theorems.{RunsOrderly, NotBelow, NotNegative}
use Rattle.counting.proofs.Firsts.{deposits_read}
use Rattle.counting.proofs.Follow.{follows_in_order}

abbrev Everywhere : NodeState → Type 0
Everywhere n = (k : ℕ) → is_orderly (account_at n k) ≡ true

signed_orderly : (n : NodeState) (i : ℕ) (s : Content) → is_orderly (signed_of (account_at n i) s) ≡ true → Everywhere n → Everywhere (record { terms = n.terms; accounts = set n.accounts i (signed_of (account_at n i) s); key_of = n.key_of; route_of = n.route_of })
signed_orderly n i s new old = at_put (λ (k : ℕ) (a : Standing). is_orderly a ≡ true) n.accounts i (signed_of (account_at n i) s) (opened_of (first_of 0 0 0)) new old

move_orderly : (n : NodeState) (locks : List (List ℕ)) (m : NodeState) (more : List (List ℕ)) → Move n locks m more → Everywhere n → Everywhere m
move_orderly n locks _ _ (offered i p s ready h fresh) old = signed_orderly n i s (follows_in_order (account_at n i).held Offered p s h) old
move_orderly n locks _ _ (passes i j p incoming s may h) old = signed_orderly n j s (follows_in_order (account_at n j).held PassingOn p s h) old
move_orderly n locks _ _ (pays i p s ready h key) old = signed_orderly n i s (follows_in_order (account_at n i).held Paying p s h) old
move_orderly n locks _ _ (gets i p s ready h key) old = signed_orderly n i s (follows_in_order (account_at n i).held Getting p s h) old
move_orderly n locks _ _ (returned i p s ready h) old = signed_orderly n i s (follows_in_order (account_at n i).held Returned p s h) old
move_orderly n locks _ _ (gives_up i p s ready h missing free) old = signed_orderly n i s (follows_in_order (account_at n i).held GivingUp p s h) old
move_orderly n locks _ _ (holds i s unfrozen e) old = at_put (λ (k : ℕ) (a : Standing). is_orderly a ≡ true) n.accounts i (held_of (account_at n i) s) (opened_of (first_of 0 0 0)) refl old
move_orderly n locks _ _ (marked lock i j none) old = old
move_orderly n locks _ _ (learns key) old = old
move_orderly n locks m _ (passing f same) old = λ k.
    let e = same_at n f same k in
    ap (λ (h : Content). in_order h (account_at m k).next) e.0 ∙ ap (λ (o : Option Content). in_order (account_at n k).held o) e.1 ∙ old k

reached_orderly : (terms : Terms) (ds : List Deposit) (n : NodeState) (locks : List (List ℕ)) → Reached (start_of terms ds).node [] n locks → Everywhere n
reached_orderly terms ds _ _ begin = λ k. ap (λ (o : Option Content). in_order (account_at (start_of terms ds).node k).held o) (opened terms ds k).alone
reached_orderly terms ds _ _ (then {n} {m} {locks} {more} r v) = move_orderly n locks m more v (reached_orderly terms ds n locks r)

pub runs_orderly : RunsOrderly
runs_orderly terms ds events k l =
    reached_orderly terms ds (node_after terms ds events) (after events (start_of terms ds)).paid (runs_reached (start_of terms ds).node [] events (start_of terms ds) begin) k

pub not_below : NotBelow
not_below terms ds events least is =
    let many = (run_whole terms ds events).many in
    let enough = never_less terms ds events is.choice (λ k l. is.chosen k (omega (arith, many))) is.shown in
    let n = node_after terms ds events in
    omega (
      arith,
      is.reached,
      enough,
      ap (λ (m : ℕ). sum_to m (λ k. worth_by (λ lock. is.shown lock || has_key (node_after terms ds events) lock) is.shown (is.choice k))) many,
    )

above_zero : (a b : ℕ) (d : ℤ) → b ≤ a → d ≡ pos a -ℤ pos b → pos 0 ≤ℤ d
above_zero a b d h e = omega (arith, ints)

pub not_negative : NotNegative
not_negative terms ds events rest c few fit h =
    let enough = not_below terms ds events c.least h.0.2 in
    let read = deposits_read (node_after terms ds events) ds rest (run_whole terms ds events).many few fit in
    above_zero c.least c.deposits c.difference (omega (arith, enough, h.1, read)) h.2

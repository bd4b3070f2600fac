-- The theorems about runs.
use Rattle.std.proofs.Common.{◌≡◌, ℕ, ◌<◌, ◌≤◌, Bool, cond, not, ◌&&◌, ◌||◌, ltb, List, [], ◌∷◌, length, Ok, Err, Result, sym, refl, ap, ◌∙◌, inl, arith}
use Rattle.std.proofs.lemmas.Bool.{cond-true, cond_both, lt-ltb, ltb-true, or_right, and_parts, or_parts, not-true, not_from_false}
use Rattle.refusal.specs.declared.Refusal.{Refusal}
use Rattle.sheet.specs.Contents.{Content}
use Rattle.change.proofs.Standing.{none_some}
use Rattle.schedule.specs.declared.types.Terms.{Terms}
use Rattle.node_state.specs.Nodes.{NodeState, account_at}
use Rattle.judgement.specs.Tests.{has_key}
use Rattle.judgement.specs.Judgements.{to_pass}
use Rattle.outcome.specs.Acts.{Act}
use Rattle.outcome.specs.Records.{acted_all}
use Rattle.outcome.specs.Outcomes.{refused, passing}
use Rattle.moments.specs.Runs.{Deposit, Event, taken, cut_off, looked, restarted, looked_of, restarted_of, History, happened, after, start_of, node_after, outcome_of, paid_by}
use Rattle.moments.specs.Moments.{Counts, worth_by, is_from, TwoAtMost, OwnNumber, PassedOnce, NotAgain, NoLockTwice, TotalKept, NeverLess, PaidKnown, PassedOnPays}
use Rattle.moments.specs.Moves as moves
use Rattle.moments.specs.Moves.{Reached, begin, then, RunsAreMoves}
use Rattle.moments.proofs.Sums.{sum_mono, those_mono}
use Rattle.moments.proofs.Money.{value}
use Rattle.moments.proofs.Whole.{Whole, all_more, reached_whole, reached_routes}
use Rattle.moments.proofs.Entries.{prefix_whole, prefix_part, entry_parts, pass_ok}

-- every run is made of moves
happened_reached : (start : NodeState) (none : List (List ℕ)) (e : Event) (h : History) → Reached start none h.node h.paid → Reached start none (happened e h).node (happened e h).paid
happened_reached start none (taken e) h r =
    prefix_whole (λ (l : List Act). Reached start none (acted_all l h.node) (paid_by e l h.paid)) (outcome_of h.node e).acts (entry_parts start none h.node h.paid r e)
happened_reached start none (cut_off e k) h r =
    then (prefix_part (λ (l : List Act). Reached start none (acted_all l h.node) (paid_by e l h.paid)) k (outcome_of h.node e).acts (entry_parts start none h.node h.paid r e))
    (moves.passing restarted_of (λ i a. (refl, refl)))
happened_reached start none (looked tick seen sent) h r = then r (moves.passing (looked_of tick seen sent) (λ i a. (refl, refl)))
happened_reached start none restarted h r = then r (moves.passing restarted_of (λ i a. (refl, refl)))

pub runs_reached : (start : NodeState) (none : List (List ℕ)) (events : List Event) (h : History) → Reached start none h.node h.paid → Reached start none (after events h).node (after events h).paid
runs_reached start none [] h r = r
runs_reached start none (e ∷ events) h r = runs_reached start none events (happened e h) (happened_reached start none e h r)

pub run_whole : (terms : Terms) (ds : List Deposit) (events : List Event) → Whole ds (node_after terms ds events) (after events (start_of terms ds)).paid
run_whole terms ds events =
    reached_whole terms ds (node_after terms ds events) (after events (start_of terms ds)).paid (runs_reached (start_of terms ds).node [] events (start_of terms ds) begin)

pub two_at_most : TwoAtMost
two_at_most terms ds events k s e = (run_whole terms ds events).kept.two k s e

pub own_number : OwnNumber
own_number terms ds events k s l c = (run_whole terms ds events).kept.place k s l c

pub passed_once : PassedOnce
passed_once h events lock r e = reached_routes h.node h.paid (after events h).node (after events h).paid (runs_reached h.node h.paid events h begin) lock r e

pub not_again : NotAgain
not_again n i j p r routed = by (to_pass n i j p) refl
  where
    by : (o : Result Content Refusal) → to_pass n i j p ≡ o → (e : Refusal) × (passing i j p.lock o ≡ refused e)
    by (Err e) f = (e, refl)
    by (Ok s) f = absurd (none_some (sym (pass_ok n i j p s f).1.unrouted ∙ routed))

pub no_lock_twice : NoLockTwice
no_lock_twice terms ds events = (run_whole terms ds events).kept.payments

pub total_kept : TotalKept
total_kept terms ds events k s c = (run_whole terms ds events).kept.total k s c

pub passed_on_pays : PassedOnPays
passed_on_pays terms ds events choice c shown all =
    omega (
      arith,
      (run_whole terms ds events).floor shown all whole counts,
      sum_mono (length ds) (λ k. value n.route_of shown k (whole k)) (λ k. value n.route_of shown k (choice k)) (λ k l. same k l),
    )
  where
    n : NodeState
    n = node_after terms ds events

    whole : ℕ → Content
    whole k = cond (ltb k (length ds)) (choice k) (account_at n k).held

    counts : (k : ℕ) → Counts (account_at n k) (whole k)
    counts k = cond_both (ltb k (length ds)) (choice k) (account_at n k).held (λ s. Counts (account_at n k) s) (λ e. c k (ltb-true k (length ds) e)) (λ _. inl refl)

    same : (k : ℕ) → k < length ds → value n.route_of shown k (whole k) ≤ value n.route_of shown k (choice k)
    same k l = omega (arith, ap (λ (s : Content). value n.route_of shown k s) (cond-true (ltb k (length ds)) (choice k) (account_at n k).held (lt-ltb k (length ds) l)))

pub never_less : NeverLess
never_less terms ds events choice c shown =
    omega (
      arith,
      passed_on_pays terms ds events choice c there (all_more (has_key n) there (λ l e. or_right (shown l) (has_key n l) e) (after events (start_of terms ds)).paid (run_whole terms ds events).known),
      sum_mono (length ds) (λ k. value n.route_of there k (choice k)) (λ k. worth_by there shown (choice k)) (λ k l. less k (choice k)),
    )
  where
    n : NodeState
    n = node_after terms ds events

    there : List ℕ → Bool
    there l = shown l || has_key n l

    less : (k : ℕ) (s : Content) → value n.route_of there k s ≤ worth_by there shown s
    less k s =
        omega (
          arith,
          those_mono (λ l. is_from k (n.route_of l) && there l) there s.ins (λ p _ e. (and_parts (is_from k (n.route_of p.lock)) (there p.lock) e).1),
          those_mono (λ l. not (there l)) (λ l. not (shown l)) s.outs (λ p _ e. not_from_false (shown p.lock) (or_parts (shown p.lock) (has_key n p.lock) (not-true (there p.lock) e)).0),
        )

pub runs_are_moves : RunsAreMoves
runs_are_moves h events = runs_reached h.node h.paid events h begin

pub paid_known : PaidKnown
paid_known terms ds events = (run_whole terms ds events).known

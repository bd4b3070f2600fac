-- All that holds at every moment, kept by each move.
use Rattle.std.proofs.Common.{◌≡◌, ℕ, ◌≤◌, Bool, true, List, [], ◌∷◌, length, is_some, Some, None, Option, refl, ap, ◌∙◌, arith}
use Rattle.std.specs.Str.{bytes_eq}
use Rattle.std.proofs.lemmas.List.{length-set}
use Rattle.std.proofs.lemmas.Bool.{cond_both}
use Rattle.digest.specs.Sha256.{sha256}
use Rattle.sheet.specs.Contents.{Content}
use Rattle.account.specs.Accounts.{signed_of, held_of}
use Rattle.change.specs.declared.types.Change.TheVariants.{Offered, PassingOn, Paying, Getting, Returned, GivingUp}
use Rattle.lockmap.specs.Maps.{with_at}
use Rattle.schedule.specs.declared.types.Terms.{Terms}
use Rattle.node_state.specs.declared.types.Route.{Route}
use Rattle.node_state.specs.Nodes.{NodeState, account_at}
use Rattle.judgement.specs.Tests.{has_key}
use Rattle.moments.specs.Runs.{Deposit, deposit_at, start_of}
use Rattle.moments.specs.Moments.{AllShown}
use Rattle.moments.specs.Moves.{Move, offered, passes, pays, gets, returned, gives_up, holds, marked, learns, passing, Reached, begin, then}
use Rattle.moments.proofs.Places.{counts_same, noted_keeps, each_length}
use Rattle.moments.proofs.Signings.{signing, Kept}
use Rattle.moments.proofs.Sums.{sum_mono}
use Rattle.moments.proofs.Keeps.{passed_as_lem, held_counts, same_at, keeps, start_length, start_kept, opened, only_held}
use Rattle.moments.proofs.Money.{value, Floor, fewer_floor, signed_floor, offered_value, paying_value, getting_value, returned_value, giving_floor, passing_floor}

pub record Whole (ds : List Deposit) (n : NodeState) (locks : List (List ℕ)) : Type 0 where
  pub many : length n.accounts ≡ length ds
  pub kept : Kept ds n
  -- the node has the key of each lock that it paid for
  pub known : AllShown locks (has_key n)
  pub floor : Floor ds n locks

le_self : (a : ℕ) → a ≤ a
le_self a = omega arith

noted_known : (lock key : List ℕ) (known : List ℕ → Option (List ℕ)) (l : List ℕ) → is_some (known l) ≡ true → is_some (with_at known lock key l) ≡ true
noted_known lock key known l e = cond_both (bytes_eq l lock) (Some key) (known l) (λ o. is_some o ≡ true) (λ _. refl) (λ _. e)

pub all_more : (f g : List ℕ → Bool) → ((l : List ℕ) → f l ≡ true → g l ≡ true) → (locks : List (List ℕ)) → AllShown locks f → AllShown locks g
all_more f g h [] a = tt
all_more f g h (l ∷ locks) a = (h l a.0, all_more f g h locks a.1)

floors : (ds : List Deposit) (n : NodeState) (locks : List (List ℕ)) (m : NodeState) (more : List (List ℕ)) → Move n locks m more → Whole ds n locks → Floor ds m more
floors ds n locks _ _ (offered i p s ready h fresh) w =
    λ shown all. signed_floor ds n i p s n.route_of (signing n i Offered p s n.route_of h fresh) locks w.floor shown shown all (λ k r _. le_self (value n.route_of shown k r)) (offered_value n.route_of shown i (account_at n i).held s p h)
floors ds n locks _ _ (passes i j p incoming s may h) w =
    passing_floor ds n i j p incoming s w.many may h (signing n j PassingOn p s (with_at n.route_of p.lock (record { from = i; to = j })) h (passed_as_lem n i j p incoming may)) locks w.floor
floors ds n locks _ _ (pays i p s ready h key) w =
    λ shown all. signed_floor ds n i p s n.route_of (signing n i Paying p s n.route_of h tt) locks w.floor shown shown all.1 (λ k r _. le_self (value n.route_of shown k r)) (paying_value n.route_of shown i (account_at n i).held s p h all.0)
floors ds n locks _ _ (gets i p s ready h key) w =
    λ shown all. signed_floor ds n i p s n.route_of (signing n i Getting p s n.route_of h tt) locks w.floor shown shown all (λ k r _. le_self (value n.route_of shown k r)) (getting_value n.route_of shown i (account_at n i).held s p h)
floors ds n locks _ _ (returned i p s ready h) w =
    λ shown all. signed_floor ds n i p s n.route_of (signing n i Returned p s n.route_of h tt) locks w.floor shown shown all (λ k r _. le_self (value n.route_of shown k r)) (returned_value n.route_of shown i (account_at n i).held s p h)
floors ds n locks _ _ (gives_up i p s ready h missing free) w =
    giving_floor ds n i p s (signing n i GivingUp p s n.route_of h tt) h w.kept locks w.known missing free w.floor
floors ds n locks m _ (holds i s unfrozen e) w = fewer_floor ds n m locks w.floor (held_counts n i s e) (λ l r f. f)
floors ds n locks m _ (marked lock i j none) w = fewer_floor ds n m locks w.floor (λ k r h. h) (noted_keeps lock (record { from = i; to = j }) n.route_of none)
floors ds n locks m _ (learns key) w = fewer_floor ds n m locks w.floor (λ k r h. h) (λ l r f. f)
floors ds n locks m _ (passing f same) w = fewer_floor ds n m locks w.floor (λ k r h. counts_same (account_at n k) (account_at m k) r (same_at n f same k) h) (λ l r e. e)

lengths : (n : NodeState) (locks : List (List ℕ)) (m : NodeState) (more : List (List ℕ)) → Move n locks m more → length m.accounts ≡ length n.accounts
lengths n locks _ _ (offered i p s ready h fresh) = length-set n.accounts i (signed_of (account_at n i) s)
lengths n locks _ _ (passes i j p incoming s may h) = length-set n.accounts j (signed_of (account_at n j) s)
lengths n locks _ _ (pays i p s ready h key) = length-set n.accounts i (signed_of (account_at n i) s)
lengths n locks _ _ (gets i p s ready h key) = length-set n.accounts i (signed_of (account_at n i) s)
lengths n locks _ _ (returned i p s ready h) = length-set n.accounts i (signed_of (account_at n i) s)
lengths n locks _ _ (gives_up i p s ready h missing free) = length-set n.accounts i (signed_of (account_at n i) s)
lengths n locks _ _ (holds i s unfrozen e) = length-set n.accounts i (held_of (account_at n i) s)
lengths n locks _ _ (marked lock i j none) = refl
lengths n locks _ _ (learns key) = refl
lengths n locks _ _ (passing f same) = each_length f n.accounts 0

knows : (n : NodeState) (locks : List (List ℕ)) (m : NodeState) (more : List (List ℕ)) → Move n locks m more → AllShown locks (has_key n) → AllShown more (has_key m)
knows n locks _ _ (offered i p s ready h fresh) a = a
knows n locks _ _ (passes i j p incoming s may h) a = a
knows n locks _ _ (pays i p s ready h key) a = (key, a)
knows n locks _ _ (gets i p s ready h key) a = a
knows n locks _ _ (returned i p s ready h) a = a
knows n locks _ _ (gives_up i p s ready h missing free) a = a
knows n locks _ _ (holds i s unfrozen e) a = a
knows n locks _ _ (marked lock i j none) a = a
knows n locks m _ (learns key) a = all_more (has_key n) (has_key m) (λ l e. noted_known (sha256 key) key n.key_of l e) locks a
knows n locks _ _ (passing f same) a = a

pub stays_whole : (ds : List Deposit) (n : NodeState) (locks : List (List ℕ)) (m : NodeState) (more : List (List ℕ)) → Move n locks m more → Whole ds n locks → Whole ds m more
stays_whole ds n locks m more v w =
    record { many = lengths n locks m more v ∙ w.many; kept = keeps ds n locks m more v w.kept; known = knows n locks m more v w.known; floor = floors ds n locks m more v w }

pub start_whole : (terms : Terms) (ds : List Deposit) → Whole ds (start_of terms ds).node []
start_whole terms ds = record { many = start_length terms ds; kept = start_kept terms ds; known = tt; floor = floor }
  where
    floor : Floor ds (start_of terms ds).node []
    floor shown all choice c =
        sum_mono (length ds) (λ k. (deposit_at ds k).own) (λ k. value (λ lock. None) shown k (choice k))
        (λ k l. omega (arith, (opened terms ds k).own, ap (λ (z : Content). z.own) (only_held terms ds k (choice k) (c k))))

pub reached_whole : (terms : Terms) (ds : List Deposit) (n : NodeState) (locks : List (List ℕ)) → Reached (start_of terms ds).node [] n locks → Whole ds n locks
reached_whole terms ds _ _ begin = start_whole terms ds
reached_whole terms ds _ _ (then {n} {m} {locks} {more} r v) = stays_whole ds n locks m more v (reached_whole terms ds n locks r)

-- a lock that was passed on stays so
routes : (n : NodeState) (locks : List (List ℕ)) (m : NodeState) (more : List (List ℕ)) → Move n locks m more → (lock : List ℕ) (r : Route) → n.route_of lock ≡ Some r → m.route_of lock ≡ Some r
routes n locks _ _ (offered i p s ready h fresh) l r e = e
routes n locks _ _ (passes i j p incoming s may h) l r e = noted_keeps p.lock (record { from = i; to = j }) n.route_of may.unrouted l r e
routes n locks _ _ (pays i p s ready h key) l r e = e
routes n locks _ _ (gets i p s ready h key) l r e = e
routes n locks _ _ (returned i p s ready h) l r e = e
routes n locks _ _ (gives_up i p s ready h missing free) l r e = e
routes n locks _ _ (holds i s unfrozen f) l r e = e
routes n locks _ _ (marked lock i j none) l r e = noted_keeps lock (record { from = i; to = j }) n.route_of none l r e
routes n locks _ _ (learns key) l r e = e
routes n locks _ _ (passing f same) l r e = e

pub reached_routes : (start : NodeState) (none : List (List ℕ)) (n : NodeState) (locks : List (List ℕ)) → Reached start none n locks → (lock : List ℕ) (r : Route) → start.route_of lock ≡ Some r → n.route_of lock ≡ Some r
reached_routes start none _ _ begin l r e = e
reached_routes start none _ _ (then {n} {m} {locks} {more} q v) l r e = routes n locks m more v l r (reached_routes start none n locks q l r e)

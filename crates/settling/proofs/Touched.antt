-- Where a next is under way, held or next has a payment: every change adds one or takes one off.
use Rattle.std.proofs.Common.{◌≡◌, ℕ, false, ◌⊎◌, List, [], ◌∷◌, ◌++◌, set, Some, sym, refl, ap, ◌∙◌, subst, inl, inr}
use Rattle.sheet.specs.declared.types.Payment.{Payment}
use Rattle.sheet.specs.Contents.{Content, first_of}
use Rattle.account.specs.Accounts.{Standing, opened_of, signed_of, held_of}
use Rattle.change.specs.declared.types.Change.{Change}
use Rattle.change.specs.declared.types.Change.TheVariants.{Offered, PassingOn, Paying, Getting, Returned, GivingUp}
use Rattle.change.specs.Follows.{AddedTo, TakenOff, Follows}
use Rattle.change.proofs.Standing.{none_some, same_some}
use Rattle.schedule.specs.declared.types.Terms.{Terms}
use Rattle.node_state.specs.Nodes.{NodeState, account_at, with_accounts}
use Rattle.moments.specs.Runs.{Deposit, Event, History, after, start_of}
use Rattle.moments.specs.Moves.{Move, offered, passes, pays, gets, returned, gives_up, holds, marked, learns, passing, Reached, begin, then}
use Rattle.moments.proofs.Places.{at_put}
use Rattle.moments.proofs.Keeps.{same_at, opened}
use Rattle.moments.proofs.Theorems.{runs_are_moves}
use Rattle.promise_told.specs.Main.{none_of}
use Rattle.promise_told.specs.World as world
use Rattle.promise_told.proofs.Replays.{node_alone}

-- one of the four lists isn't empty
abbrev pub Touched : Content → Content → Type 0
Touched h s = ((none_of h.ins ≡ false) ⊎ (none_of h.outs ≡ false)) ⊎ ((none_of s.ins ≡ false) ⊎ (none_of s.outs ≡ false))

added : {p : Payment} {ps qs : List Payment} {from left : ℕ} → AddedTo p ps qs from left → none_of qs ≡ false
added r = ap none_of r.list

middle : (ps : List Payment) (x : Payment) (qs : List Payment) → none_of (ps ++ x ∷ qs) ≡ false
middle [] x qs = refl
middle (p ∷ ps) x qs = refl

taken : {lock : List ℕ} {ps qs : List Payment} {to more : ℕ} → TakenOff lock ps qs to more → none_of ps ≡ false
taken r = ap none_of r.stands ∙ middle r.front r.payment r.back

follows_touched : (h : Content) (c : Change) (p : Payment) (s : Content) → Follows h c p s → Touched h s
follows_touched h Offered p s f = inr (inl (added f.1))
follows_touched h PassingOn p s f = inr (inr (added f.1))
follows_touched h Paying p s f = inl (inr (taken f.1))
follows_touched h Getting p s f = inl (inl (taken f.1))
follows_touched h Returned p s f = inl (inr (taken f.1))
follows_touched h GivingUp p s f = inl (inl (taken f.1))

abbrev NextTouched : Standing → Type 0
NextTouched a = (s : Content) → a.next ≡ Some s → Touched a.held s

abbrev AllTouched : NodeState → Type 0
AllTouched n = (k : ℕ) → NextTouched (account_at n k)

signed_touched : (n : NodeState) (i : ℕ) (c : Change) (p : Payment) (s : Content) → Follows (account_at n i).held c p s → NextTouched (signed_of (account_at n i) s)
signed_touched n i c p s f r e = subst (λ (z : Content). Touched (account_at n i).held z) (same_some e) (follows_touched (account_at n i).held c p s f)

put : (n : NodeState) (i : ℕ) (a : Standing) → NextTouched a → AllTouched n → AllTouched (with_accounts n (set n.accounts i a))
put n i a new old = at_put (λ (k : ℕ) (z : Standing). NextTouched z) n.accounts i a (opened_of (first_of 0 0 0)) new old

stays : (n : NodeState) (locks : List (List ℕ)) (m : NodeState) (more : List (List ℕ)) → Move n locks m more → AllTouched n → AllTouched m
stays n locks _ _ (offered i p s ready h fresh) old = put n i (signed_of (account_at n i) s) (signed_touched n i Offered p s h) old
stays n locks _ _ (passes i j p incoming s may h) old = put n j (signed_of (account_at n j) s) (signed_touched n j PassingOn p s h) old
stays n locks _ _ (pays i p s ready h key) old = put n i (signed_of (account_at n i) s) (signed_touched n i Paying p s h) old
stays n locks _ _ (gets i p s ready h key) old = put n i (signed_of (account_at n i) s) (signed_touched n i Getting p s h) old
stays n locks _ _ (returned i p s ready h) old = put n i (signed_of (account_at n i) s) (signed_touched n i Returned p s h) old
stays n locks _ _ (gives_up i p s ready h missing free) old = put n i (signed_of (account_at n i) s) (signed_touched n i GivingUp p s h) old
stays n locks _ _ (holds i s unfrozen e) old = put n i (held_of (account_at n i) s) (λ r f. absurd (none_some f)) old
stays n locks _ _ (marked lock i j none) old = old
stays n locks _ _ (learns key) old = old
stays n locks m _ (passing f same) old =
    λ k s e. subst (λ (h : Content). Touched h s) (sym (same_at n f same k).0) (old k s (sym (same_at n f same k).1 ∙ e))

reached : (terms : Terms) (ds : List Deposit) (n : NodeState) (locks : List (List ℕ)) → Reached (start_of terms ds).node [] n locks → AllTouched n
reached terms ds _ _ begin = λ k s e. absurd (none_some (sym (opened terms ds k).alone ∙ e))
reached terms ds _ _ (then {n} {m} {locks} {more} r v) = stays n locks m more v (reached terms ds n locks r)

pub next_touched : (terms : Terms) (ds : List Deposit) (events : List world.Event) (k : ℕ) (s : Content) → (account_at (world.node_of (world.world_after terms ds events)) k).next ≡ Some s →
    Touched (account_at (world.node_of (world.world_after terms ds events)) k).held s
next_touched terms ds events =
    subst (λ (h : History). AllTouched h.node) (sym (node_alone terms ds events).1)
    (reached terms ds (after list (start_of terms ds)).node (after list (start_of terms ds)).paid (runs_are_moves (start_of terms ds) list))
  where
    list : List Event
    list = (node_alone terms ds events).0

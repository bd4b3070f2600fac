-- Each move keeps what holds of the sheets and payments, and it holds at the start.
use Rattle.std.proofs.Common.{◌≡◌, ℕ, zero, suc, ◌+◌, ◌<◌, List, [], ◌∷◌, length, get_or, Some, None, sym, refl, ap, ◌∙◌, subst, inl, inr, arith}
use Rattle.sheet.specs.declared.types.Payment.{Payment}
use Rattle.sheet.specs.Contents.{Content, first_of}
use Rattle.account.specs.Accounts.{Standing, opened_of, held_of}
use Rattle.change.specs.declared.types.Change.TheVariants.{Offered, PassingOn, Paying, Getting, Returned, GivingUp}
use Rattle.change.specs.Totals.{amounts, total_of}
use Rattle.change.proofs.Standing.{none_some}
use Rattle.lockmap.specs.Maps.{with_at}
use Rattle.schedule.specs.declared.types.Terms.{Terms}
use Rattle.node_state.specs.Nodes.{NodeState, account_at, with_accounts}
use Rattle.outcome.specs.Acts.{both_in}
use Rattle.outcome.specs.Records.{written}
use Rattle.moments.specs.Runs.{Deposit, deposit_at, each_of, opened_all, start_of}
use Rattle.moments.specs.Moments.{Counts, Stands, In, Out, Apart}
use Rattle.moments.specs.Moves.{MayPass, SameSheets, Move, offered, passes, pays, gets, returned, gives_up, holds, marked, learns, passing}
use Rattle.moments.proofs.Places.{at_put, at_each, counts_same, noted_keeps, noted_new}
use Rattle.moments.proofs.Signings.{PassedAs, signing, Kept, signed_kept, fewer_kept}

pub passed_as_lem : (n : NodeState) (i j : ℕ) (p incoming : Payment) → MayPass n i j p incoming → PassedAs n j p (with_at n.route_of p.lock (record { from = i; to = j }))
passed_as_lem n i j p incoming may =
    record {
      from = i;
      incoming = incoming;
      stands = ((account_at n i).held, inl refl, may.stands);
      lock = may.lock;
      unrouted = may.unrouted;
      routed = noted_new p.lock (record { from = i; to = j }) n.route_of;
      covers = may.covers;
      apart = may.apart;
    }

-- the neighbour's signature leaves one sheet of the two
module _ (n : NodeState) (i : ℕ) (s : Content) (e : (account_at n i).next ≡ Some s) where
  pub held_counts : (k : ℕ) (r : Content) → Counts (account_at (written (both_in i s) n) k) r → Counts (account_at n k) r
  held_counts =
      at_put (λ (k : ℕ) (a : Standing). (r : Content) → Counts a r → Counts (account_at n k) r) n.accounts i (held_of (account_at n i) s) (opened_of (first_of 0 0 0))
      (λ r h. elim h [ inl f ↦ inr (e ∙ ap (λ (z : Content). Some z) f) | inr f ↦ absurd (none_some f) ])
      (λ k r h. h)

  held_next : (k : ℕ) (r : Content) → (account_at (written (both_in i s) n) k).next ≡ Some r → ((account_at n k).next ≡ Some r) × ((account_at (written (both_in i s) n) k).held ≡ (account_at n k).held)
  held_next =
      at_put (λ (k : ℕ) (a : Standing). (r : Content) → a.next ≡ Some r → ((account_at n k).next ≡ Some r) × (a.held ≡ (account_at n k).held)) n.accounts i (held_of (account_at n i) s) (opened_of (first_of 0 0 0))
      (λ r f. absurd (none_some f))
      (λ k r f. (f, refl))

-- what isn't in the file changes no sheet
module _ (n : NodeState) (f : ℕ → Standing → Standing) (same : (k : ℕ) (a : Standing) → SameSheets a (f k a)) where
  pub same_at : (k : ℕ) → SameSheets (account_at n k) (account_at (with_accounts n (each_of f 0 n.accounts)) k)
  same_at k = at_each f same (opened_of (first_of 0 0 0)) n.accounts 0 k

pub keeps : (ds : List Deposit) (n : NodeState) (locks : List (List ℕ)) (m : NodeState) (more : List (List ℕ)) → Move n locks m more → Kept ds n → Kept ds m
keeps ds n locks _ _ (offered i p s ready h fresh) old = signed_kept n i p s n.route_of (signing n i Offered p s n.route_of h fresh) ds (λ l r e. e) old
keeps ds n locks _ _ (passes i j p incoming s may h) old =
    signed_kept n j p s (with_at n.route_of p.lock (record { from = i; to = j })) (signing n j PassingOn p s (with_at n.route_of p.lock (record { from = i; to = j })) h (passed_as_lem n i j p incoming may)) ds
    (noted_keeps p.lock (record { from = i; to = j }) n.route_of may.unrouted) old
keeps ds n locks _ _ (pays i p s ready h k) old = signed_kept n i p s n.route_of (signing n i Paying p s n.route_of h tt) ds (λ l r e. e) old
keeps ds n locks _ _ (gets i p s ready h k) old = signed_kept n i p s n.route_of (signing n i Getting p s n.route_of h tt) ds (λ l r e. e) old
keeps ds n locks _ _ (returned i p s ready h) old = signed_kept n i p s n.route_of (signing n i Returned p s n.route_of h tt) ds (λ l r e. e) old
keeps ds n locks _ _ (gives_up i p s ready h k g) old = signed_kept n i p s n.route_of (signing n i GivingUp p s n.route_of h tt) ds (λ l r e. e) old
keeps ds n locks _ _ (holds i s unfrozen e) old = fewer_kept ds n (written (both_in i s) n) refl (held_counts n i s e) (held_next n i s e) (λ l r f. f) old
keeps ds n locks m _ (marked lock i j none) old = fewer_kept ds n m refl (λ k r h. h) (λ k r h. (h, refl)) (noted_keeps lock (record { from = i; to = j }) n.route_of none) old
keeps ds n locks m _ (learns key) old = fewer_kept ds n m refl (λ k r h. h) (λ k r h. (h, refl)) (λ l r f. f) old
keeps ds n locks m _ (passing f same) old =
    fewer_kept ds n m refl (λ k r h. counts_same (account_at n k) (account_at m k) r (same_at n f same k) h) (λ k r h. (sym (same_at n f same k).1 ∙ h, (same_at n f same k).0)) (λ l r e. e) old

-- the start
pub record Opened (a : Standing) (d : Deposit) : Type 0 where
  pub alone : a.next ≡ None
  pub ins : a.held.ins ≡ []
  pub outs : a.held.outs ≡ []
  pub own : a.held.own ≡ d.own
  pub theirs : a.held.theirs ≡ d.theirs

opened_place : (ds : List Deposit) (i k : ℕ) → k < length ds → (get_or (opened_all i ds) k (opened_of (first_of 0 0 0))).held.account ≡ i + k
opened_place [] i k l = absurd (omega arith)
opened_place (d ∷ ds) i zero l = omega arith
opened_place (d ∷ ds) i (suc k) l = omega (arith, opened_place ds (i + 1) k (omega arith))

opened_at : (ds : List Deposit) (i k : ℕ) → Opened (get_or (opened_all i ds) k (opened_of (first_of 0 0 0))) (deposit_at ds k)
opened_at [] i k = record { alone = refl; ins = refl; outs = refl; own = refl; theirs = refl }
opened_at (d ∷ ds) i zero = record { alone = refl; ins = refl; outs = refl; own = refl; theirs = refl }
opened_at (d ∷ ds) i (suc k) = opened_at ds (i + 1) k

opened_length : (ds : List Deposit) (i : ℕ) → length (opened_all i ds) ≡ length ds
opened_length [] i = refl
opened_length (d ∷ ds) i = ap suc (opened_length ds (i + 1))

module _ (terms : Terms) (ds : List Deposit) where
  pub start_length : length (start_of terms ds).node.accounts ≡ length ds
  start_length = opened_length ds 0

  pub opened : (k : ℕ) → Opened (account_at (start_of terms ds).node k) (deposit_at ds k)
  opened k = opened_at ds 0 k

  pub only_held : (k : ℕ) (s : Content) → Counts (account_at (start_of terms ds).node k) s → (account_at (start_of terms ds).node k).held ≡ s
  only_held k s (inl e) = e
  only_held k s (inr e) = absurd (none_some (sym (opened k).alone ∙ e))

  no_ins : (k : ℕ) (x : Payment) → In (start_of terms ds).node k x → ⊥
  no_ins k x (s, c, h) = subst (λ (zs : List Payment). Stands x zs) (ap (λ (z : Content). z.ins) (sym (only_held k s c)) ∙ (opened k).ins) h

  no_outs : (k : ℕ) (x : Payment) → Out (start_of terms ds).node k x → ⊥
  no_outs k x (s, c, h) = subst (λ (zs : List Payment). Stands x zs) (ap (λ (z : Content). z.outs) (sym (only_held k s c)) ∙ (opened k).outs) h

  start_total : (k : ℕ) → total_of (account_at (start_of terms ds).node k).held ≡ (deposit_at ds k).own + (deposit_at ds k).theirs
  start_total k =
      let ins : amounts (account_at (start_of terms ds).node k).held.ins ≡ 0 = ap amounts (opened k).ins in
      let outs : amounts (account_at (start_of terms ds).node k).held.outs ≡ 0 = ap amounts (opened k).outs in
      omega (arith, (opened k).own, (opened k).theirs)

  pub start_kept : Kept ds (start_of terms ds).node
  start_kept =
      record {
        two = λ k s e. absurd (none_some (sym (opened k).alone ∙ e));
        total = λ k s c. ap total_of (sym (only_held k s c)) ∙ start_total k;
        place = λ k s l c. omega (arith, ap (λ (z : Content). z.account) (only_held k s c), opened_place ds 0 k l);
        payments = record {
          apart_ins = λ k s c. subst Apart (sym (opened k).ins ∙ ap (λ (z : Content). z.ins) (only_held k s c)) tt;
          apart_outs = λ k s c. subst Apart (sym (opened k).outs ∙ ap (λ (z : Content). z.outs) (only_held k s c)) tt;
          one_in = λ j k x y a b e. absurd (no_ins j x a);
          one_out = λ j k x y a b e. absurd (no_outs j x a);
          routed = λ k x o. absurd (no_outs k x o);
          ends = λ j k x y a b e. absurd (no_outs j x a);
          covered = λ j k x y a b e. absurd (no_outs j x a);
        };
      }

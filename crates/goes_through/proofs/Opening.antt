-- The first look and the first offer.
use Rattle.std.proofs.Common.{◌≡◌, ℕ, zero, suc, ◌+◌, ◌-◌, ◌<◌, ◌≤◌, Bool, true, false, ◌&&◌, ◌||◌, ltb, List, [], ◌∷◌, ◌++◌, map, length, get_or, Some, None, Ok, Result, sym, refl, ap, ◌∙◌, subst, inl, inr, arith}
use Rattle.std.proofs.lemmas.Slice.Eq.{bytes_eq-Decides}
use Rattle.std.proofs.lemmas.Bool.{cond-true, cond-false}
use Rattle.refusal.specs.declared.Refusal.{Refusal}
use Rattle.sheet.specs.declared.types.Payment.{Payment}
use Rattle.sheet.specs.Contents.{Content, content_of, first_of, is_for, without, with_ins}
use Rattle.change.specs.declared.types.Change.TheVariants.{Offered}
use Rattle.change.specs.Changes.{most}
use Rattle.change.specs.Follows.{Follows}
use Rattle.change.proofs.Standing.{none_some}
use Rattle.account.specs.Accounts.{Standing, opened_of, signed_of, held_of, is_frozen}
use Rattle.schedule.specs.declared.types.Terms.{Terms}
use Rattle.node_state.specs.Nodes.{NodeState, account_at, with_accounts, with_account}
use Rattle.judgement.specs.declared.types.Signature.{Signature}
use Rattle.judgement.specs.Tests.{is_under_way, looked_at}
use Rattle.judgement.specs.Judgements.{to_accept_both}
use Rattle.outcome.specs.Records.{acted_all}
use Rattle.outcome.specs.Outcomes.{Outcome, holding, accepting_both}
use Rattle.rules.specs.declared.types.Message.TheVariants.{ProposedSigned, Key}
use Rattle.rules.specs.declared.types.Call.TheVariants.{Pass, Pay, Get}
use Rattle.looking.specs.declared.types.Shown.{Shown}
use Rattle.looking.specs.Looking.{is_earlier, is_refused, each_from, looked_of}
use Rattle.register.specs.Register.{blank}
use Rattle.moments.specs.Runs.{Deposit, deposit_at, Entry, message, call, outcome_of, opened_all, start_of}
use Rattle.moments.specs.Moments.{Stands, In}
use Rattle.moments.specs.Moves.{Ready, Fresh}
use Rattle.moments.specs.Exactly.{offers, Acceptable}
use Rattle.moments.proofs.Keeps.{start_length}
use Rattle.moments.proofs.Signs.{still_is, accepted_both}
use Rattle.promise_told.specs.World.{World, node_of, picture, all_among, is_true, looks, looked, entry, happens, run, beginning, world_after}
use Rattle.goes_through.specs.Willing.{held_at, Carriable, signs, with_in, with_out, GoneThrough}
use Rattle.goes_through.specs.Reached.{Suited, offer, offering, IsReached, FromTheStart}
use Rattle.goes_through.proofs.Carried.{goes_through}
use Rattle.goes_through.proofs.Lines.{after_entry, Holds, signed_held}

-- at the beginning the register shows nothing, and no look is earlier
picture_blank : (many : ℕ) → picture many (λ k. blank) ≡ []
picture_blank zero = refl
picture_blank (suc many) = ap (λ (l : List Shown). (l ++ []) ++ []) (picture_blank many)

none_earlier : (ds : List Deposit) (i : ℕ) → is_earlier 0 (opened_all i ds) ≡ false
none_earlier [] i = refl
none_earlier (d ∷ ds) i = none_earlier ds (i + 1)

-- an account after the first look
abbrev pub looked_first : ℕ → Deposit → Standing
looked_first k d = record { held = first_of k d.own d.theirs; next = None; looked = Some 0; disputed = false; sent = None }

each_first : (delay : ℕ) (ds : List Deposit) (i k : ℕ) → k < length ds → get_or (each_from (looked_of delay 0 []) i (opened_all i ds)) k (opened_of (first_of 0 0 0)) ≡ looked_first (i + k) (deposit_at ds k)
each_first delay [] i k l = absurd (omega arith)
each_first delay (d ∷ ds) i zero l = ap (λ (z : ℕ). looked_first z d) (omega arith)
each_first delay (d ∷ ds) i (suc k) l = each_first delay ds (i + 1) k (omega arith) ∙ ap (λ (z : ℕ). looked_first z (deposit_at ds k)) (omega arith)

each_bare : (delay : ℕ) (ds : List Deposit) (i k : ℕ) →
    ((get_or (each_from (looked_of delay 0 []) i (opened_all i ds)) k (opened_of (first_of 0 0 0))).next ≡ None) × ((get_or (each_from (looked_of delay 0 []) i (opened_all i ds)) k (opened_of (first_of 0 0 0))).held.ins ≡ [])
each_bare delay [] i k = (refl, refl)
each_bare delay (d ∷ ds) i zero = (refl, refl)
each_bare delay (d ∷ ds) i (suc k) = each_bare delay ds (i + 1) k

each_many : (f : ℕ → Standing → Standing) (list : List Standing) (i : ℕ) → length (each_from f i list) ≡ length list
each_many f [] i = refl
each_many f (a ∷ list) i = ap suc (each_many f list (i + 1))

-- the node after the first look
pub record First (terms : Terms) (ds : List Deposit) (n : NodeState) : Type 0 where
  pub at : (k : ℕ) → k < length ds → account_at n k ≡ looked_first k (deposit_at ds k)
  pub bare : (k : ℕ) → ((account_at n k).next ≡ None) × ((account_at n k).held.ins ≡ [])
  pub many : length n.accounts ≡ length ds
  pub unrouted : (lock : List ℕ) → n.route_of lock ≡ None
  pub same : n.terms ≡ terms

module _ (terms : Terms) (ds : List Deposit) where
  abbrev start : NodeState
  start = (start_of terms ds).node

  abbrev looked_list : List Standing
  looked_list = each_from (looked_of terms.delay 0 []) 0 (opened_all 0 ds)

  told_true : is_true (beginning terms ds) [] ≡ true
  told_true = ap (λ (l : List Shown). all_among l [] && all_among [] l) (picture_blank (length start.accounts))

  not_refused : is_refused start 0 ≡ false
  not_refused = ap (λ (b : Bool). b || ltb most 0) (none_earlier ds 0)

  look_is : node_of (happens (looks []) (beginning terms ds)) ≡ with_accounts start looked_list
  look_is =
      ap node_of (cond-true (is_true (beginning terms ds) []) (looked (beginning terms ds) []) (beginning terms ds) told_true)
      ∙ ap node_of (cond-false (is_refused start 0) (beginning terms ds) _ not_refused)
      ∙ cond-false (is_refused start 0) start (with_accounts start looked_list) not_refused

  pub first_look : First terms ds (node_of (happens (looks []) (beginning terms ds)))
  first_look =
      subst (λ (n : NodeState). First terms ds n) (sym look_is)
      (record {
        at = λ k l. each_first terms.delay ds 0 k l ∙ ap (λ (z : ℕ). looked_first z (deposit_at ds k)) (omega arith);
        bare = each_bare terms.delay ds 0;
        many = each_many (looked_of terms.delay 0 []) (opened_all 0 ds) 0 ∙ start_length terms ds;
        unrouted = λ lock. refl;
        same = refl;
      })

-- the offer that is taken
module _ (terms : Terms) (ds : List Deposit) (i j : ℕ) (c x : Payment) (byte : ℕ) (small : byte ≤ 15) (h : Suited terms ds i j c x) where
  abbrev given : Entry
  given = message i (ProposedSigned (offer byte (deposit_at ds i) c) (record { account = byte; number = 1 }))

  abbrev offered : Content
  offered = record { account = i; number = 1; own = (deposit_at ds i).own; theirs = (deposit_at ds i).theirs - c.amount; ins = c ∷ []; outs = [] }

  offer_follows : Follows (first_of i (deposit_at ds i).own (deposit_at ds i).theirs) Offered c offered
  offer_follows =
      let fits = h.fits in
      let enough = h.offers in (
        record { account = refl; number = refl; number_fits = omega arith; own_fits = omega arith; theirs_fits = omega arith },
        record { new = tt; room = omega arith; list = refl; covered = omega arith },
        refl,
        refl,
      )

  module _ (n : NodeState) (first : First terms ds n) where
    ready : Ready n i
    ready =
        record {
          there = omega (arith, first.many, h.there_from);
          unfrozen = ap is_frozen (first.at i h.there_from);
          still = (first.bare i).0;
        }

    fresh : Fresh n c.lock
    fresh = record { nowhere = none; unrouted = first.unrouted c.lock }
      where
        none : (k : ℕ) (y : Payment) → In n k y → y.lock ≡ c.lock → ⊥
        none k y (s, inl e, m) f = subst (λ (zs : List Payment). Stands y zs) (ap (λ (z : Content). z.ins) (sym e) ∙ (first.bare k).1) m
        none k y (s, inr e, m) f = none_some (sym (first.bare k).0 ∙ e)

    acceptable : Acceptable n i (content_of (offer byte (deposit_at ds i) c)) offered
    acceptable =
        record {
          ready = ready;
          byte = small;
          view = refl;
          change = offers c (subst (λ (a : Standing). Follows a.held Offered c offered) (sym (first.at i h.there_from)) offer_follows) fresh;
        }

    offer_is : outcome_of n given ≡ accepting_both i (Ok offered)
    offer_is =
        let signature : Signature = record { account = byte; number = 1 } in
        let next : Result Content Refusal = to_accept_both n i (content_of (offer byte (deposit_at ds i) c)) signature in
        cond-false (is_under_way (account_at n i)) (holding i next) (accepting_both i next) (still_is n i offered i ready)
        ∙ ap (accepting_both i) (accepted_both n i offered i (content_of (offer byte (deposit_at ds i) c)) signature acceptable small refl)

    abbrev signed_node : NodeState
    signed_node = with_account n i (signed_of (account_at n i) offered)

    abbrev held_node : NodeState
    held_node = with_account signed_node i (held_of (account_at signed_node i) offered)

    pub offer_after : after_entry n given ≡ held_node
    offer_after = ap (λ (o : Outcome). acted_all o.acts n) offer_is

    -- a world with this node
    module _ (w : World) (q : node_of w ≡ held_node) where
      held : Holds n held_node i offered
      held = signed_held n i offered ready.there

      pub offer_from : account_at (node_of w) i ≡ held_of (looked_first i (deposit_at ds i)) offered
      offer_from = ap (λ (m : NodeState). account_at m i) q ∙ held.here ∙ ap (λ (a : Standing). held_of a offered) (first.at i h.there_from)

      pub offer_to : account_at (node_of w) j ≡ looked_first j (deposit_at ds j)
      offer_to = ap (λ (m : NodeState). account_at m j) q ∙ held.others j (λ e. h.other (sym e)) ∙ first.at j h.there_to

      many : length (node_of w).accounts ≡ length ds
      many = ap (λ (m : NodeState). length m.accounts) q ∙ held.many ∙ first.many

      pub offer_carriable : Carriable w i j c x
      offer_carriable =
          record {
            ready_from = record { there = omega (arith, many, h.there_from); unfrozen = ap is_frozen offer_from; still = ap (λ (a : Standing). a.next) offer_from };
            ready_to = record { there = omega (arith, many, h.there_to); unfrozen = ap is_frozen offer_to; still = ap (λ (a : Standing). a.next) offer_to };
            other = h.other;
            stands = subst (λ (a : Standing). Stands c a.held.ins) (sym offer_from) (inl refl);
            lock = h.lock;
            unrouted = ap (λ (m : NodeState). m.route_of x.lock) q ∙ first.unrouted x.lock;
            covered = h.covered;
            owned = omega (arith, ap (λ (a : Standing). a.held.own) offer_to, h.owned);
            room = omega (arith, ap (λ (a : Standing). length a.held.outs) offer_to);
            apart = omega (arith, ap (λ (m : NodeState). m.terms.gap) q, ap (λ (t : Terms). t.gap) first.same, h.apart);
            in_not_past = omega (arith, ap looked_at offer_from);
            out_not_past = omega (arith, ap looked_at offer_to);
            number_from = omega (arith, ap (λ (a : Standing). a.held.number) offer_from);
            number_to = omega (arith, ap (λ (a : Standing). a.held.number) offer_to);
          }

pub is_reached : IsReached
is_reached terms ds i j c x byte small h =
    let n : NodeState = node_of (happens (looks []) (beginning terms ds)) in
    let first = first_look terms ds in
    offer_carriable terms ds i j c x byte small h n first (world_after terms ds (offering ds i byte c)) (offer_after terms ds i j c x byte small h n first)

-- the whole run
abbrev lines_by : (i j : ℕ) → Payment → (key : List ℕ) → (anybody byte-from byte-to : ℕ) → (number_from number_to : ℕ) → List Entry
lines_by i j x key anybody byte-from byte-to number_from number_to =
    call (Pass i j x)
    ∷ signs j byte-to (number_to + 1)
    ∷ message anybody (Key key)
    ∷ call (Pay j x.lock)
    ∷ signs j byte-to (number_to + 2)
    ∷ call (Get i x.lock)
    ∷ signs i byte-from (number_from + 1)
    ∷ []

only_gone : (c : Payment) → without c.lock (c ∷ []) ≡ []
only_gone c = cond-true (is_for c.lock c) [] (c ∷ []) ((bytes_eq-Decides c.lock c.lock).1 refl)

pub from_the_start : FromTheStart
from_the_start terms ds i j c x key anybody byte-from byte-to fits-to small-from small-to opens h =
    record {
      from = done_through.from ∙ ap (λ (s : Content). with_in s c) from ∙ ap (λ (ps : List Payment). with_ins (with_in offer_held c) ps) (only_gone c);
      to = done_through.to ∙ ap (λ (s : Content). with_out s x) to;
      still_from = done_through.still_from;
      still_to = done_through.still_to;
    }
  where
    n : NodeState
    n = node_of (happens (looks []) (beginning terms ds))

    w : World
    w = world_after terms ds (offering ds i byte-from c)

    offer_held : Content
    offer_held = offered terms ds i j c x byte-from small-from h

    from : held_at w i ≡ offer_held
    from = ap (λ (a : Standing). a.held) (offer_from terms ds i j c x byte-from small-from h n (first_look terms ds) w (offer_after terms ds i j c x byte-from small-from h n (first_look terms ds)))

    to : held_at w j ≡ first_of j (deposit_at ds j).own (deposit_at ds j).theirs
    to = ap (λ (a : Standing). a.held) (offer_to terms ds i j c x byte-from small-from h n (first_look terms ds) w (offer_after terms ds i j c x byte-from small-from h n (first_look terms ds)))

    lines_are : lines_by i j x key anybody byte-from byte-to (held_at w i).number (held_at w j).number ≡ lines_by i j x key anybody byte-from byte-to 1 0
    lines_are =
        ap (λ (m : ℕ). lines_by i j x key anybody byte-from byte-to m (held_at w j).number) (ap (λ (s : Content). s.number) from)
        ∙ ap (λ (m : ℕ). lines_by i j x key anybody byte-from byte-to 1 m) (ap (λ (s : Content). s.number) to)

    done_through : GoneThrough w (run (map entry (lines_by i j x key anybody byte-from byte-to 1 0)) w) i j c x
    done_through =
        subst (λ (list : List Entry). GoneThrough w (run (map entry list) w) i j c x) lines_are
        (goes_through terms ds (offering ds i byte-from c) i j c x key anybody byte-from byte-to h.fits fits-to small-from small-to opens (is_reached terms ds i j c x byte-from small-from h)).1

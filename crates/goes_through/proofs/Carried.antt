-- A payment that can be carried goes through.
use Rattle.std.proofs.Common.{◌≡◌, ℕ, ◌+◌, ◌-◌, ◌<◌, ◌≤◌, Bool, true, false, List, [], ◌∷◌, map, length, get_or, is_some, None, Ok, Option, sym, refl, ap, ◌∙◌, subst, inl, inr, arith}
use Rattle.std.proofs.lemmas.List.Sums.{sum_by-cons}
use Rattle.std.proofs.lemmas.Slice.Eq.{bytes_eq-Decides}
use Rattle.std.proofs.lemmas.Bool.Decides.{not_from_Decides}
use Rattle.std.proofs.lemmas.Bool.{cond-true, cond-false}
use Rattle.digest.specs.Sha256.{sha256}
use Rattle.sheet.specs.declared.types.Payment.{Payment}
use Rattle.sheet.specs.Contents.{Content, first_of, is_for, without}
use Rattle.account.specs.Accounts.{Standing, opened_of, held_of, is_frozen}
use Rattle.change.specs.declared.types.Change.{Change}
use Rattle.change.specs.declared.types.Change.TheVariants.{PassingOn, Paying, Getting}
use Rattle.change.specs.Changes.{most}
use Rattle.change.specs.Follows.{NotAmong, Follows}
use Rattle.change.specs.Totals.{amounts, total_of}
use Rattle.change.proofs.Standing.{none_some, taken}
use Rattle.schedule.specs.declared.types.Terms.{Terms}
use Rattle.node_state.specs.declared.types.Route.{Route}
use Rattle.node_state.specs.Nodes.{NodeState, account_at, with_route}
use Rattle.judgement.specs.Tests.{has_key}
use Rattle.judgement.specs.Judgements.{only_lock, to_settle}
use Rattle.outcome.specs.Records.{acted_all}
use Rattle.outcome.specs.Outcomes.{Outcome, signing, passing}
use Rattle.rules.specs.declared.types.Message.TheVariants.{Key}
use Rattle.rules.specs.declared.types.Call.TheVariants.{Pass, Pay, Get}
use Rattle.moments.specs.Runs.{Deposit, deposit_at, Entry, message, call, outcome_of, History}
use Rattle.moments.specs.Moments.{Stands, Apart, Payments}
use Rattle.moments.specs.Moves.{MayPass}
use Rattle.moments.proofs.Signs.{found_is, passed_is, settled}
use Rattle.moments.specs.Runs as alone
use Rattle.moments.proofs.Theorems.{no_lock_twice, total_kept}
use Rattle.promise_told.specs.World.{World, node_of, Event, entry, happens, run, world_after}
use Rattle.promise_told.proofs.Replays.{node_alone}
use Rattle.goes_through.specs.Willing.{held_at, signs, lines_for, with_in, with_out, Carriable, AllTaken, GoneThrough, Fits, GoesThrough}
use Rattle.goes_through.proofs.Unsent.{Untouched, untouched}
use Rattle.goes_through.proofs.Lines.{after_entry, Holds, TwoTaken, two_taken, key_taken_lem}

-- payments of a list
none_among : (lock : List ℕ) (ps : List Payment) → ((y : Payment) → Stands y ps → y.lock ≡ lock → ⊥) → NotAmong lock ps
none_among lock [] h = tt
none_among lock (p ∷ ps) h = (h p (inl refl), none_among lock ps (λ y m. h y (inr m)))

pub amount_within : (c : Payment) (ps : List Payment) → Stands c ps → c.amount ≤ amounts ps
amount_within c [] m = absurd m
amount_within c (p ∷ ps) (inl e) = omega (arith, sum_by-cons (λ (q : Payment). q.amount) p ps, ap (λ (z : Payment). z.amount) e)
amount_within c (p ∷ ps) (inr m) = omega (arith, sum_by-cons (λ (q : Payment). q.amount) p ps, amount_within c ps m)

pub gone : (lock : List ℕ) (ps : List Payment) → Apart ps → NotAmong lock (without lock ps)
gone lock [] a = tt
gone lock (p ∷ ps) a = by (is_for lock p) refl (gone lock ps a.1)
  where
    by : (b : Bool) → is_for lock p ≡ b → NotAmong lock (without lock ps) → NotAmong lock (without lock (p ∷ ps))
    by true f rest =
        subst (λ (zs : List Payment). NotAmong lock zs) (sym (cond-true (is_for lock p) ps (p ∷ without lock ps) f))
        (subst (λ (l : List ℕ). NotAmong l ps) ((bytes_eq-Decides p.lock lock).0 f) a.0)
    by false f rest =
        subst (λ (zs : List Payment). NotAmong lock zs) (sym (cond-false (is_for lock p) ps (p ∷ without lock ps) f))
        (not_from_Decides (is_for lock p) (bytes_eq-Decides p.lock lock) f, rest)

-- the sheet with the out on it
abbrev out_on : Content → Payment → Content
out_on s x = record { account = s.account; number = s.number + 1; own = s.own - x.amount; theirs = s.theirs; ins = s.ins; outs = x ∷ s.outs }

-- the three changes
passes_on : (s : Content) (x : Payment) → total_of s ≤ most → s.number + 2 ≤ most → x.amount ≤ s.own → length s.outs < 32 → NotAmong x.lock s.outs → Follows s PassingOn x (out_on s x)
passes_on s x total number owned room new = (
  record { account = refl; number = refl; number_fits = omega arith; own_fits = omega arith; theirs_fits = omega arith },
  record { new = new; room = room; list = refl; covered = omega arith },
  refl,
  refl,
)

pays_out : (s : Content) (x : Payment) → total_of s ≤ most → s.number + 2 ≤ most → x.amount ≤ s.own → Follows (out_on s x) Paying (only_lock x.lock) (with_out s x)
pays_out s x total number owned = (
  record { account = refl; number = omega arith; number_fits = omega arith; own_fits = omega arith; theirs_fits = omega arith },
  record { payment = x; front = []; back = s.outs; stands = refl; has = refl; first = tt; others = refl; gets = refl },
  refl,
  refl,
)

gets_in : (s : Content) (c x : Payment) → total_of s ≤ most → s.number + 1 ≤ most → Apart s.ins → Stands c s.ins → c.lock ≡ x.lock → Follows s Getting (only_lock x.lock) (with_in s c)
gets_in s c x total number apart stands lock = (
  record { account = refl; number = refl; number_fits = omega arith; own_fits = omega (arith, amount_within c s.ins stands); theirs_fits = omega arith },
  taken x.lock s.ins (without c.lock s.ins) c s.own (s.own + c.amount) (found_is x.lock s.ins c apart stands lock) (ap (λ (l : List ℕ). without l s.ins) lock) refl,
  refl,
  refl,
)

-- paying or getting, and the neighbour's signature
settle_taken : (m : NodeState) (k byte number : ℕ) (h : Change) (lock : List ℕ) (s : Content) (a : Standing) (e : Entry) → outcome_of m e ≡ signing k (to_settle m k h lock) → account_at m k ≡ a →
    k < length m.accounts → is_frozen a ≡ false → a.next ≡ None → Follows a.held h (only_lock lock) s → has_key m lock ≡ true → byte ≤ 15 → number ≡ s.number → TwoTaken m m e (signs k byte number) k s
settle_taken m k byte number h lock s a e is at there unfrozen still follows known small same =
    two_taken m m e k byte number s there (ap is_frozen at ∙ unfrozen) small same (ap (λ (o : Outcome). o.answer) q) (ap (λ (o : Outcome). acted_all o.acts m) q)
  where
    q : outcome_of m e ≡ signing k (Ok s)
    q =
        is
        ∙ ap (signing k)
        (settled m k s k h lock (record { there = there; unfrozen = ap is_frozen at ∙ unfrozen; still = ap (λ (z : Standing). z.next) at ∙ still })
        (subst (λ (z : Standing). Follows z.held h (only_lock lock) s) (sym at) follows) known)

-- a node that can carry the payment, in the words of the node alone
pub record Able (n : NodeState) (i j : ℕ) (c x : Payment) : Type 0 where
  pub may : MayPass n i j x c
  pub once : Apart (account_at n i).held.ins
  pub owned : x.amount ≤ (account_at n j).held.own
  pub room : length (account_at n j).held.outs < 32
  pub number_from : (account_at n i).held.number + 1 ≤ most
  pub number_to : (account_at n j).held.number + 2 ≤ most
  pub total_from : total_of (account_at n i).held ≤ most
  pub total_to : total_of (account_at n j).held ≤ most

pub new_out : (n : NodeState) (i j : ℕ) (c x : Payment) → Able n i j c x → NotAmong x.lock (account_at n j).held.outs
new_out n i j c x h = none_among x.lock (account_at n j).held.outs (λ y m. h.may.nowhere j y ((account_at n j).held, inl refl, m))

-- these entries are each answered with Ok, and what the node is after them
abbrev AllOk : NodeState → List Entry → Type 0
AllOk n [] = Unit {0}
AllOk n (e ∷ others) = ((outcome_of n e).answer ≡ Ok tt) × AllOk (after_entry n e) others

abbrev after_all : NodeState → List Entry → NodeState
after_all n [] = n
after_all n (e ∷ others) = after_all (after_entry n e) others

-- two accounts hold other sheets than before
pub record Changed (n m : NodeState) (i j : ℕ) (s t : Content) : Type 0 where
  pub from : account_at m i ≡ held_of (account_at n i) s
  pub to : account_at m j ≡ held_of (account_at n j) t
  pub others : (k : ℕ) → (k ≡ i → ⊥) → (k ≡ j → ⊥) → account_at m k ≡ account_at n k

module _ (n : NodeState) (i j : ℕ) (c x : Payment) (able : Able n i j c x) (key : List ℕ) (opens : sha256 key ≡ x.lock) (anybody byte-from byte-to : ℕ) (small-from : byte-from ≤ 15) (small-to : byte-to ≤ 15) where
  -- passing on
  pass_taken : TwoTaken n (with_route n x.lock (record { from = i; to = j })) (call (Pass i j x)) (signs j byte-to ((account_at n j).held.number + 1)) j (out_on (account_at n j).held x)
  pass_taken =
      let s : Content = out_on (account_at n j).held x in
      let r : Route = record { from = i; to = j } in
      let q : outcome_of n (call (Pass i j x)) ≡ passing i j x.lock (Ok s) = ap (passing i j x.lock)
      (passed_is n j s i j x c able.once able.may (passes_on (account_at n j).held x able.total_to able.number_to able.owned able.room (new_out n i j c x able))) in
      two_taken n (with_route n x.lock r) (call (Pass i j x)) j byte-to ((account_at n j).held.number + 1) s able.may.ready_to.there able.may.ready_to.unfrozen small-to refl
      (ap (λ (o : Outcome). o.answer) q) (ap (λ (o : Outcome). acted_all o.acts n) q)

  -- paying the out
  pay_taken : (m : NodeState) → account_at m j ≡ held_of (account_at n j) (out_on (account_at n j).held x) → length m.accounts ≡ length n.accounts → has_key m x.lock ≡ true →
      TwoTaken m m (call (Pay j x.lock)) (signs j byte-to ((account_at n j).held.number + 2)) j (with_out (account_at n j).held x)
  pay_taken m at many known =
      settle_taken m j byte-to ((account_at n j).held.number + 2) Paying x.lock (with_out (account_at n j).held x) (held_of (account_at n j) (out_on (account_at n j).held x)) (call (Pay j x.lock)) refl at
      (omega (arith, many, able.may.ready_to.there)) able.may.ready_to.unfrozen refl (pays_out (account_at n j).held x able.total_to able.number_to able.owned) known small-to refl

  -- getting the in
  get_taken : (m : NodeState) → account_at m i ≡ account_at n i → length m.accounts ≡ length n.accounts → has_key m x.lock ≡ true →
      TwoTaken m m (call (Get i x.lock)) (signs i byte-from ((account_at n i).held.number + 1)) i (with_in (account_at n i).held c)
  get_taken m at many known =
      settle_taken m i byte-from ((account_at n i).held.number + 1) Getting x.lock (with_in (account_at n i).held c) (account_at n i) (call (Get i x.lock)) refl at
      (omega (arith, many, able.may.ready_from.there)) able.may.ready_from.unfrozen able.may.ready_from.still
      (gets_in (account_at n i).held c x able.total_from able.number_from able.once able.may.stands able.may.lock) known small-from refl

  -- what is left to do once the out is paid, once the key is there, and once it is passed on
  abbrev last_two : List Entry
  last_two = call (Get i x.lock) ∷ signs i byte-from ((account_at n i).held.number + 1) ∷ []

  abbrev last_four : List Entry
  last_four = call (Pay j x.lock) ∷ signs j byte-to ((account_at n j).held.number + 2) ∷ last_two

  abbrev last_five : List Entry
  last_five = message anybody (Key key) ∷ last_four

  abbrev all : List Entry
  all = call (Pass i j x) ∷ signs j byte-to ((account_at n j).held.number + 1) ∷ last_five

  abbrev Through : NodeState → List Entry → Type 0
  Through m list = AllOk m list × Changed n (after_all m list) i j (with_in (account_at n i).held c) (with_out (account_at n j).held x)

  from_paid : (b m : NodeState) → Holds b m j (with_out (account_at n j).held x) → account_at b j ≡ held_of (account_at n j) (out_on (account_at n j).held x) →
      ((k : ℕ) → (k ≡ j → ⊥) → account_at b k ≡ account_at n k) → length b.accounts ≡ length n.accounts → has_key b x.lock ≡ true → Through m last_two
  from_paid b m h at others many known = (
    (t.first, (t.second, tt)),
    record {
      from = t.now.here ∙ ap (λ (a : Standing). held_of a (with_in (account_at n i).held c)) same;
      to = t.now.others j (λ e. able.may.other (sym e)) ∙ h.here ∙ ap (λ (a : Standing). held_of a (with_out (account_at n j).held x)) at;
      others = λ k a b. t.now.others k a ∙ h.others k b ∙ others k b;
    },
  )
    where
      same : account_at m i ≡ account_at n i
      same = h.others i able.may.other ∙ others i able.may.other

      t : TwoTaken m m (call (Get i x.lock)) (signs i byte-from ((account_at n i).held.number + 1)) i (with_in (account_at n i).held c)
      t = get_taken m same (h.many ∙ many) (ap (λ (f : List ℕ → Option (List ℕ)). is_some (f x.lock)) h.keys ∙ known)

  from_known : (b : NodeState) → account_at b j ≡ held_of (account_at n j) (out_on (account_at n j).held x) → ((k : ℕ) → (k ≡ j → ⊥) → account_at b k ≡ account_at n k) →
      length b.accounts ≡ length n.accounts → has_key b x.lock ≡ true → Through b last_four
  from_known b at others many known =
      let t = pay_taken b at many known in
      let r = from_paid b (after_entry (after_entry b (call (Pay j x.lock))) (signs j byte-to ((account_at n j).held.number + 2))) t.now at others many known in
      ((t.first, (t.second, r.0)), r.1)

  from_passed : (m : NodeState) → Holds n m j (out_on (account_at n j).held x) → Through m last_five
  from_passed m h =
      let t = key_taken_lem m anybody key x.lock opens in
      let b : NodeState = after_entry m (message anybody (Key key)) in
      let same : (k : ℕ) → account_at b k ≡ account_at m k = λ k. ap (λ (l : List Standing). get_or l k (opened_of (first_of 0 0 0))) t.same in
      let r = from_known b (same j ∙ h.here) (λ k ne. same k ∙ h.others k ne) (ap (λ (l : List Standing). length l) t.same ∙ h.many) t.known in
      ((t.answered, r.0), r.1)

  pub through : Through n all
  through =
      let t = pass_taken in
      let h = t.now in
      let r = from_passed (after_entry (after_entry n (call (Pass i j x))) (signs j byte-to ((account_at n j).held.number + 1)))
      (record { here = h.here; others = h.others; many = h.many; keys = h.keys }) in
      ((t.first, (t.second, r.0)), r.1)

-- in the world
lifted : (w : World) (list : List Entry) → AllOk (node_of w) list → AllTaken w list
lifted w [] h = tt
lifted w (e ∷ list) h = (h.0, lifted (happens (entry e) w) list h.1)

lifted_node : (w : World) (list : List Entry) → node_of (run (map entry list) w) ≡ after_all (node_of w) list
lifted_node w [] = refl
lifted_node w (e ∷ list) = lifted_node (happens (entry e) w) list

-- what holds at every moment of every run of the world
pub world_payments : (terms : Terms) (ds : List Deposit) (events : List Event) → Payments (node_of (world_after terms ds events))
world_payments terms ds events =
    let r = node_alone terms ds events in
    subst (λ (h : History). Payments h.node) (sym r.1) (no_lock_twice terms ds r.0)

pub world_total : (terms : Terms) (ds : List Deposit) (events : List Event) (k : ℕ) → total_of (held_at (world_after terms ds events) k) ≡ (deposit_at ds k).own + (deposit_at ds k).theirs
world_total terms ds events k =
    let r = node_alone terms ds events in
    subst (λ (h : History). total_of (account_at h.node k).held ≡ (deposit_at ds k).own + (deposit_at ds k).theirs) (sym r.1)
    (total_kept terms ds r.0 k (account_at (alone.node_after terms ds r.0) k).held (inl refl))

able_world : (terms : Terms) (ds : List Deposit) (events : List Event) (i j : ℕ) (c x : Payment) → Fits (deposit_at ds i) → Fits (deposit_at ds j) → Carriable (world_after terms ds events) i j c x →
    Able (node_of (world_after terms ds events)) i j c x
able_world terms ds events i j c x fits-from fits-to h =
    let w : World = world_after terms ds events in
    let p = world_payments terms ds events in
    record {
      may = record {
        ready_from = h.ready_from;
        ready_to = h.ready_to;
        other = h.other;
        stands = h.stands;
        lock = h.lock;
        unrouted = h.unrouted;
        nowhere = λ k y o e. let r = p.routed k y o in none_some (sym h.unrouted ∙ ap (node_of w).route_of (sym e) ∙ r.1);
        covers = h.covered;
        apart = h.apart;
        in_not_past = h.in_not_past;
        out_not_past = h.out_not_past;
      };
      once = p.apart_ins i (held_at w i) (inl refl);
      owned = h.owned;
      room = h.room;
      number_from = h.number_from;
      number_to = h.number_to;
      total_from = omega (arith, world_total terms ds events i);
      total_to = omega (arith, world_total terms ds events j);
    }

gone_through : (w v : World) (i j : ℕ) (c x : Payment) → Able (node_of w) i j c x → Changed (node_of w) (node_of v) i j (with_in (held_at w i) c) (with_out (held_at w j) x) → Untouched w v → GoneThrough w v i j c x
gone_through w v i j c x able h calm =
    let a : held_at v i ≡ with_in (held_at w i) c = ap (λ (s : Standing). s.held) h.from in
    let b : held_at v j ≡ with_out (held_at w j) x = ap (λ (s : Standing). s.held) h.to in
    record {
      from = a;
      to = b;
      grown = ap (λ (s : Content). s.own) a;
      shrunk = omega (arith, ap (λ (s : Content). s.own) b, able.owned);
      in_gone = subst (λ (s : Content). NotAmong c.lock s.ins) (sym a) (gone c.lock (held_at w i).ins able.once);
      out_gone = subst (λ (s : Content). NotAmong x.lock s.outs) (sym b) (new_out (node_of w) i j c x able);
      still_from = ap (λ (s : Standing). s.next) h.from;
      still_to = ap (λ (s : Standing). s.next) h.to;
      others = h.others;
      time = calm.time;
      pages = calm.pages;
      way = calm.way;
    }

pub goes_through : GoesThrough
goes_through terms ds events i j c x key anybody byte-from byte-to fits-from fits-to small-from small-to opens h =
    let w : World = world_after terms ds events in
    let able = able_world terms ds events i j c x fits-from fits-to h in
    let list : List Entry = lines_for w i j x key anybody byte-from byte-to in
    let r = through (node_of w) i j c x able key opens anybody byte-from byte-to small-from small-to in (
      lifted w list r.0,
      gone_through w (run (map entry list) w) i j c x able
          (subst (λ (m : NodeState). Changed (node_of w) m i j (with_in (held_at w i) c) (with_out (held_at w j) x)) (sym (lifted_node w list)) r.1)
          (untouched w list),
    )

-- A step is an event of the world; and how a run begins.
use Rattle.std.proofs.Common.{◌≡◌, ℕ, ◌+◌, ◌≤◌, Bool, true, false, ltb, List, [], ◌∷◌, ◌++◌, length, take, Ok, Err, vec_items, Result, sym, refl, ap, ◌∙◌, append_assoc, arith, length-append}
use Rattle.std.proofs.lemmas.Bool.{cond-true, lt-ltb}
use Rattle.std.proofs.lemmas.List.{append-nil}
use Rattle.refusal.specs.declared.Refusal.{Refusal}
use Rattle.sheet.specs.Contents.{first_of}
use Rattle.account.specs.Accounts.{Standing, opened_of}
use Rattle.schedule.specs.declared.types.Terms.{Terms}
use Rattle.node_state.specs.Nodes.{NodeState, empty_of, with_accounts, with_opened}
use Rattle.outcome.specs.declared.types.Fault.{Fault}
use Rattle.outcome.specs.Acts.{Act}
use Rattle.outcome.specs.Records.{acted_all}
use Rattle.outcome.proofs.Appends.{begun_first}
use Rattle.looking.specs.Looking.{look_of, looked_node}
use Rattle.any_request.specs.declared.types.Request.{Request}
use Rattle.any_request.specs.declared.types.Request.TheVariants.{Message, Asked, Look}
use Rattle.request_told.specs.declared.types.TickShown.{TickShown}
use Rattle.moments.specs.Runs.{Deposit, started_again, opened_all}
use Rattle.promise_told.specs.World.{World, node_of, Event, is_true, looked, looked_in_part, happens, run, world_after, beginning}
use Rattle.promise_told.proofs.Files.{looked_node_lem}
use Rattle.step.specs.Steps.{outcome_by, node_by, StepDone, event_of, cut_of, CanCome, Continues}
use Rattle.step.specs.Starts.{opened_with, OpenedBegins}

-- one event more
run_more : (events : List Event) (e : Event) (w : World) → run (events ++ e ∷ []) w ≡ happens e (run events w)
run_more [] e w = refl
run_more (x ∷ events) e w = run_more events e (happens x w)

node_by_lem : (q : Request TickShown) (w : World) → CanCome w q → node_of (happens (event_of q) w) ≡ node_by (node_of w) q
node_by_lem (Message i m) w can = refl
node_by_lem (Asked c) w can = refl
node_by_lem (Look l) w can =
    ap node_of (cond-true (is_true w (vec_items l.shown)) (looked w (vec_items l.shown)) w can.1)
    ∙ (looked_node_lem w (vec_items l.shown) ∙ ap (λ (t : ℕ). looked_node (node_of w) t (vec_items l.shown)) can.0)

cut_by : (q : Request TickShown) (k : ℕ) (w : World) → CanCome w q → node_of (happens (cut_of q k) w) ≡ started_again (acted_all (take k (outcome_by (node_of w) q).acts) (node_of w))
cut_by (Message i m) k w can = refl
cut_by (Asked c) k w can = refl
cut_by (Look l) k w can =
    ap node_of (cond-true (is_true w (vec_items l.shown)) (looked_in_part w (vec_items l.shown) k) w can.1)
    ∙ ap (λ (t : ℕ). started_again (acted_all (take k (look_of (node_of w) t (vec_items l.shown)).acts) (node_of w))) can.0

taken_on : (q : Request TickShown) (n m : NodeState) → m ≡ node_by n q → (terms : Terms) (ds : List Deposit) (events : List Event) → n ≡ node_of (world_after terms ds events) → CanCome (world_after terms ds events) q →
    m ≡ node_of (world_after terms ds (events ++ event_of q ∷ []))
taken_on q n m new terms ds events from can =
    new ∙ (ap (λ (x : NodeState). node_by x q) from ∙ (sym (node_by_lem q (world_after terms ds events) can) ∙ ap node_of (sym (run_more events (event_of q) (beginning terms ds)))))

cut_on : (q : Request TickShown) (n : NodeState) (k : ℕ) (terms : Terms) (ds : List Deposit) (events : List Event) → n ≡ node_of (world_after terms ds events) → CanCome (world_after terms ds events) q →
    started_again (acted_all (take k (outcome_by n q).acts) n) ≡ node_of (world_after terms ds (events ++ cut_of q k ∷ []))
cut_on q n k terms ds events from can =
    ap (λ (x : NodeState). started_again (acted_all (take k (outcome_by x q).acts) x)) from
    ∙ (sym (cut_by q k (world_after terms ds events) can) ∙ ap node_of (sym (run_more events (cut_of q k) (beginning terms ds))))

pub continues : (q : Request TickShown) (n : NodeState) (log : List Act) (r : Result (Result (Unit {0}) Refusal) Fault) (m : NodeState) (after : List Act) → StepDone q n log r m after → Continues q n log r m after
continues q n log (Ok answer) m after done = λ terms ds events from can. taken_on q n m done.2 terms ds events from can
continues q n log (Err f) m after begun = λ terms ds events from can. (part.0, part.1, cut_on q n part.0 terms ds events from can)
  where
    part : (k : ℕ) × (after ≡ log ++ take k (outcome_by n q).acts)
    part = begun_first log (outcome_by n q).acts after begun

-- accounts are opened one after the other
opened_more : (ds : List Deposit) (n : NodeState) → length n.accounts + length ds ≤ 16 → opened_with ds n ≡ with_accounts n (n.accounts ++ opened_all (length n.accounts) ds)
opened_more [] n l = ap (with_accounts n) (sym (append-nil n.accounts))
opened_more (d ∷ ds) n l =
    ap (λ (p : Bool × NodeState). opened_with ds p.1) room
    ∙ (opened_more ds next (omega (arith, grown)) ∙ ap (with_accounts n) (ap (λ (k : ℕ). next.accounts ++ opened_all k ds) grown ∙ append_assoc n.accounts (first ∷ []) (opened_all (length n.accounts + 1) ds)))
  where
    first : Standing
    first = opened_of (first_of (length n.accounts) d.own d.theirs)

    next : NodeState
    next = with_accounts n (n.accounts ++ first ∷ [])

    grown : length next.accounts ≡ length n.accounts + 1
    grown = length-append n.accounts (first ∷ [])

    room : with_opened n d.own d.theirs ≡ (true, next)
    room = cond-true (ltb (length n.accounts) 16) (true, next) (false, n) (lt-ltb (length n.accounts) 16 (omega arith))

pub opened_begins : OpenedBegins
opened_begins terms ds l = opened_more ds (empty_of terms) (omega arith)

-- The world of a run in which the node may do otherwise than the rules say: its conduct is a parameter. Assumes nothing.
use Rattle.std.specs.Prelude.{◌≡◌, ℕ, ◌+◌, cond, List, [], ◌∷◌, take}
use Rattle.std.specs.List.{slice_get}
use Rattle.schedule.specs.declared.types.Terms.{Terms}
use Rattle.node_state.specs.Nodes.{NodeState}
use Rattle.outcome.specs.Acts.{Act, recorded, synced, sent_sheet, sent_signature, shown_sheet, shown_key}
use Rattle.outcome.specs.Records.{written, acted_all}
use Rattle.outcome.specs.Outcomes.{Outcome}
use Rattle.looking.specs.declared.types.Shown.{Shown}
use Rattle.looking.specs.Looking.{is_refused, looked_node}
use Rattle.moments.specs.Runs.{Deposit, Entry, outcome_of, started_again, after_acts, with_node}
use Rattle.promise_told.specs.World.{World, node_of, terms_of, key_in, is_true, Event, tick, entry, looks, shows, reveals, arrives, restart, entry_cut, look_cut, may_tick, ticked, acted, with_due, look_acts, shown, arrived, beginning, world_after}

-- `outcome`: what an entry comes to; `seen`: the node after a look at a tick; `started`: what a start makes of the node that
-- it finds in the file; `kept`: of that, what the file has for certain once the node has started, where before it had
-- `certain`.
pub record Conduct : Type 0 where
  pub outcome : NodeState → Entry → Outcome
  pub seen : NodeState → ℕ → List Shown → NodeState
  pub started : (found : NodeState) → NodeState
  pub kept : (certain found : NodeState) → NodeState

-- The node that the rules make: what the contracts of the code cite, and a start that syncs what it finds.
abbrev pub by_the_rules : Conduct
by_the_rules = record { outcome = outcome_of; seen = looked_node; started = started_again; kept = λ certain found. found }

-- The world, and the node that the file has for certain: that of the last sync.
pub record Ran : Type 0 where
  pub world : World
  pub file : NodeState

abbrev pub with_world : Ran → World → Ran
with_world r w = record { world = w; file = r.file }

-- What the file has for certain after these acts of the node n.
abbrev pub synced_by : List Act → (n file : NodeState) → NodeState
synced_by [] n file = file
synced_by (synced ∷ others) n file = synced_by others n n
synced_by (recorded r ∷ others) n file = synced_by others (written r n) file
synced_by (sent_sheet i s ∷ others) n file = synced_by others n file
synced_by (sent_signature i number ∷ others) n file = synced_by others n file
synced_by (shown_sheet i s ∷ others) n file = synced_by others n file
synced_by (shown_key i key ∷ others) n file = synced_by others n file

-- An entry of which these acts are done.
abbrev pub entered : Ran → Entry → List Act → Ran
entered r e acts =
    record { world = acted r.world acts (after_acts e acts r.world.history); file = synced_by acts (node_of r.world) r.file }

abbrev pub looked_by : Conduct → World → List Shown → World
looked_by c w told =
    cond (is_refused (node_of w) w.now) w
    (with_due (acted w (look_acts w told) (with_node w.history (c.seen (node_of w) w.now told))) (w.now + (terms_of w).look))

-- The node starts, and finds this in its file, of which the first part was certain.
abbrev pub starts_with : Conduct → (certain found : NodeState) → World → Ran
starts_with c certain found w =
    record {
      world =
          record {
            history = with_node w.history (c.started found);
            pages = w.pages;
            coming = w.coming;
            now = w.now;
            due = w.due;
            signed = w.signed;
          };
      file = c.kept certain found;
    }

-- The program is killed within an entry or a look, and the machine runs on: all that was recorded is found.
abbrev pub cut_off : Conduct → NodeState → World → Ran
cut_off c certain w = starts_with c certain (node_of w) w

abbrev pub looked_in_part : World → List Shown → ℕ → World
looked_in_part w told k =
    acted w (take k (look_acts w told)) (with_node w.history (acted_all (take k (look_acts w told)) (node_of w)))

-- What becomes of the world, as in World.antt but for the conduct. A stop between two entries is a power cut: what was not
-- synced is gone.
abbrev pub happens_by : Conduct → Event → Ran → Ran
happens_by c tick r = with_world r (cond (may_tick r.world) (ticked r.world) r.world)
happens_by c (entry e) r = entered r e (c.outcome (node_of r.world) e).acts
happens_by c (looks told) r =
    cond (is_true r.world told)
    (record { world = looked_by c r.world told; file = synced_by (look_acts r.world told) (node_of r.world) r.file }) r
happens_by c (shows m) r = with_world r (shown (slice_get r.world.signed m) r.world)
happens_by c (reveals i key) r = with_world r (key_in i key r.world)
happens_by c (arrives m) r = with_world r (arrived m (slice_get r.world.coming m) r.world)
happens_by c restart r = starts_with c r.file r.file r.world
happens_by c (entry_cut e k) r = cut_off c r.file (entered r e (take k (c.outcome (node_of r.world) e).acts)).world
happens_by c (look_cut told k) r = cond (is_true r.world told) (cut_off c r.file (looked_in_part r.world told k)) r

abbrev pub run_by : Conduct → List Event → Ran → Ran
run_by c [] r = r
run_by c (e ∷ events) r = run_by c events (happens_by c e r)

-- The first start finds the first sheets, which are synced.
abbrev pub beginning_by : Conduct → Terms → List Deposit → Ran
beginning_by c terms ds = starts_with c (node_of (beginning terms ds)) (node_of (beginning terms ds)) (beginning terms ds)

abbrev pub world_by : Conduct → Terms → List Deposit → List Event → World
world_by c terms ds events = (run_by c events (beginning_by c terms ds)).world

-- By the rules this is the world of the promise: so a variant differs from the node by what its conduct says, and by nothing else.
abbrev pub SameWorld : Type 0
SameWorld = (terms : Terms) (ds : List Deposit) (events : List Event) → world_by by_the_rules terms ds events ≡ world_after terms ds events

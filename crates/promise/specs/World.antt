-- The world of a run: the node, the register, what is between them, and time; and what can happen in it. Assumes nothing.
use Rattle.std.specs.Prelude.{ℕ, zero, suc, ◌+◌, Bool, true, cond, ◌&&◌, List, [], ◌∷◌, ◌++◌, map, length, take, drop, Some, None, Option, ◌==◌, nat_lt}
use Rattle.std.specs.List.{slice_get}
use Rattle.sheet.specs.Contents.{Content, first_of}
use Rattle.schedule.specs.declared.types.Terms.{Terms}
use Rattle.node_state.specs.Nodes.{NodeState}
use Rattle.outcome.specs.Acts.{Record, signed_in, both_in, passed_on, key_is, Act, recorded, synced, sent_sheet, sent_signature, shown_sheet, shown_key}
use Rattle.outcome.specs.Records.{acted_all}
use Rattle.looking.specs.declared.types.Shown.{Shown}
use Rattle.looking.specs.declared.types.Shown.TheVariants.{Dispute, Key}
use Rattle.looking.specs.Looking.{is_refused, look_of, looked_node}
use Rattle.register.specs.Register.{Phase, quiet, disputed, ended, Page, blank, sheet_shown, key_shown, turned_to}
use Rattle.moments.specs.Runs.{Deposit, Entry, outcome_of, started_again, History, after_acts, with_node, start_of}

-- What the node has sent to the register and isn't in it yet, with the tick by which it is.
pub data Coming : Type 0 where
  sheet_for : ℕ → Content → ℕ → Coming
  key_for : ℕ → List ℕ → ℕ → Coming

-- A sheet of an account that the node signed at some time, or sheet 0.
pub record Signed : Type 0 where
  pub account : ℕ
  pub sheet : Content

-- `due`: the tick of the next look at the latest; `signed`: all that was ever signed.
pub record World : Type 0 where
  pub history : History
  pub pages : ℕ → Page
  pub coming : List Coming
  pub now : ℕ
  pub due : ℕ
  pub signed : List Signed

abbrev pub node_of : World → NodeState
node_of w = w.history.node

abbrev pub terms_of : World → Terms
terms_of w = w.history.node.terms

-- What of these acts goes to the register, to be there by a tick.
abbrev pub sent_off : ℕ → List Act → List Coming
sent_off by [] = []
sent_off by (shown_sheet i s ∷ others) = sheet_for i s by ∷ sent_off by others
sent_off by (shown_key i key ∷ others) = key_for i key by ∷ sent_off by others
sent_off by (recorded r ∷ others) = sent_off by others
sent_off by (synced ∷ others) = sent_off by others
sent_off by (sent_sheet i s ∷ others) = sent_off by others
sent_off by (sent_signature i number ∷ others) = sent_off by others

-- What these acts sign. A sheet counts as signed once it is recorded, though its signature may not have left.
abbrev pub signed_with : Record → List Signed → List Signed
signed_with (signed_in i s) others = record { account = i; sheet = s } ∷ others
signed_with (both_in i s) others = others
signed_with (passed_on lock i j) others = others
signed_with (key_is key) others = others

abbrev pub signed_by : List Act → List Signed
signed_by [] = []
signed_by (recorded r ∷ others) = signed_with r (signed_by others)
signed_by (synced ∷ others) = signed_by others
signed_by (sent_sheet i s ∷ others) = signed_by others
signed_by (sent_signature i number ∷ others) = signed_by others
signed_by (shown_sheet i s ∷ others) = signed_by others
signed_by (shown_key i key ∷ others) = signed_by others

-- All that the register shows of the first so many accounts.
abbrev pub dispute_of : ℕ → Phase → List Shown
dispute_of i quiet = []
dispute_of i (disputed s until) = Dispute i s.number until ∷ []
dispute_of i (ended s until) = Dispute i s.number until ∷ []

abbrev pub picture : ℕ → (ℕ → Page) → List Shown
picture zero pages = []
picture (suc i) pages = picture i pages ++ dispute_of i (pages i).phase ++ map (λ k. Key i k.key k.tick) (pages i).keys

abbrev pub picture_of : World → List Shown
picture_of w = picture (length (node_of w).accounts) w.pages

-- One account's page is changed.
abbrev pub on_page : ℕ → (Page → Page) → (ℕ → Page) → ℕ → Page
on_page i f pages k = cond (k == i) (f (pages k)) (pages k)

abbrev pub with_pages : World → (ℕ → Page) → World
with_pages w pages = record { history = w.history; pages = pages; coming = w.coming; now = w.now; due = w.due; signed = w.signed }

abbrev pub with_coming : World → List Coming → World
with_coming w list = record { history = w.history; pages = w.pages; coming = list; now = w.now; due = w.due; signed = w.signed }

-- A sheet, or a key, is in the register now.
abbrev pub sheet_in : ℕ → Content → World → World
sheet_in i s w = with_pages w (on_page i (sheet_shown (terms_of w).window w.now s) w.pages)

abbrev pub key_in : ℕ → List ℕ → World → World
key_in i key w = with_pages w (on_page i (key_shown w.now key) w.pages)

-- What can happen. `tick`: time goes on by one; `entry`: a message or a call; `looks`: the node looks; `shows m`: a neighbour
-- shows the sheet that stands at place m among all that was ever signed; `reveals i key`: anybody shows a key for account i;
-- `arrives m`: what stands at place m among what is on its way comes in; `restart`: the node stops and starts again;
-- `entry_cut e k`, `look_cut k`: it stops after the first k acts of an entry or a look, and starts again.
pub data Event : Type 0 where
  tick : Event
  entry : Entry → Event
  looks : Event
  shows : ℕ → Event
  reveals : ℕ → List ℕ → Event
  arrives : ℕ → Event
  restart : Event
  entry_cut : Entry → ℕ → Event
  look_cut : ℕ → Event

-- Nothing on its way has to be in the register by now.
abbrev pub due_of : Coming → ℕ
due_of (sheet_for i s by) = by
due_of (key_for i key by) = by

abbrev pub none_due : ℕ → List Coming → Bool
none_due now [] = true
none_due now (x ∷ others) = nat_lt now (due_of x) && none_due now others

-- The two exclusions about time, and the only ones: no tick passes while the node has to look, or while something on its
-- way has to come in.
abbrev pub may_tick : World → Bool
may_tick w = nat_lt w.now w.due && none_due w.now w.coming

abbrev pub ticked : World → World
ticked w =
    record { history = w.history; pages = λ k. turned_to (w.now + 1) (w.pages k); coming = w.coming; now = w.now + 1; due = w.due; signed = w.signed }

-- The history is this from now on, after these acts.
abbrev pub acted : World → List Act → History → World
acted w acts h =
    record {
      history = h;
      pages = w.pages;
      coming = w.coming ++ sent_off (w.now + (terms_of w).delay) acts;
      now = w.now;
      due = w.due;
      signed = w.signed ++ signed_by acts;
    }

-- A look that is taken sets the tick of the next one.
abbrev pub with_due : World → ℕ → World
with_due w due = record { history = w.history; pages = w.pages; coming = w.coming; now = w.now; due = due; signed = w.signed }

abbrev pub look_acts : World → List Act
look_acts w = (look_of (node_of w) w.now (picture_of w)).acts

abbrev pub looked : World → World
looked w =
    cond (is_refused (node_of w) w.now) w
    (with_due (acted w (look_acts w) (with_node w.history (looked_node (node_of w) w.now (picture_of w)))) (w.now + (terms_of w).look))

-- A neighbour can only show what the node has signed: what isn't there can't be shown.
abbrev pub shown : Option Signed → World → World
shown None w = w
shown (Some x) w = sheet_in x.account x.sheet w

abbrev pub came_in : Coming → World → World
came_in (sheet_for i s by) w = sheet_in i s w
came_in (key_for i key by) w = key_in i key w

abbrev pub arrived : ℕ → Option Coming → World → World
arrived m None w = w
arrived m (Some x) w = came_in x (with_coming w (take m w.coming ++ drop (m + 1) w.coming))

-- A stop and a start: what isn't in the file is gone; what is on its way to the register stays so.
abbrev pub restarted : World → World
restarted w =
    record {
      history = with_node w.history (started_again (node_of w));
      pages = w.pages;
      coming = w.coming;
      now = w.now;
      due = w.due;
      signed = w.signed;
    }

-- What becomes of the world; what can't happen changes nothing.
abbrev pub happens : Event → World → World
happens tick w = cond (may_tick w) (ticked w) w
happens (entry e) w = acted w (outcome_of (node_of w) e).acts (after_acts e (outcome_of (node_of w) e).acts w.history)
happens looks w = looked w
happens (shows m) w = shown (slice_get w.signed m) w
happens (reveals i key) w = key_in i key w
happens (arrives m) w = arrived m (slice_get w.coming m) w
happens restart w = restarted w
happens (entry_cut e k) w =
    restarted (acted w (take k (outcome_of (node_of w) e).acts) (after_acts e (take k (outcome_of (node_of w) e).acts) w.history))
happens (look_cut k) w =
    restarted (acted w (take k (look_acts w)) (with_node w.history (acted_all (take k (look_acts w)) (node_of w))))

abbrev pub run : List Event → World → World
run [] w = w
run (e ∷ events) w = run events (happens e w)

-- Sheet 0 of each account was signed by both.
abbrev pub first_signed : ℕ → List Deposit → List Signed
first_signed i [] = []
first_signed i (d ∷ others) = record { account = i; sheet = first_of i d.own d.theirs } ∷ first_signed (i + 1) others

-- The beginning, at tick 0: the deposits, and nothing in the register or on its way. The first look is due within `look`.
abbrev pub beginning : Terms → List Deposit → World
beginning terms ds =
    record { history = start_of terms ds; pages = λ k. blank; coming = []; now = 0; due = terms.look; signed = first_signed 0 ds }

abbrev pub world_after : Terms → List Deposit → List Event → World
world_after terms ds events = run events (beginning terms ds)

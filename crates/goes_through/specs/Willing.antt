-- A payment goes through a node that can carry it, where its neighbours sign: what "can carry" means, the lines that are
-- given to the node, and what it has afterwards. Assumes nothing.
use Rattle.std.specs.Prelude.{◌≡◌, ℕ, ◌+◌, ◌-◌, ◌<◌, ◌≤◌, List, [], ◌∷◌, map, length, None, Ok, ◌≢◌}
use Rattle.digest.specs.Sha256.{sha256}
use Rattle.sheet.specs.declared.types.Payment.{Payment}
use Rattle.sheet.specs.Contents.{Content, without}
use Rattle.change.specs.Changes.{most}
use Rattle.change.specs.Follows.{NotAmong}
use Rattle.schedule.specs.declared.types.Terms.{Terms}
use Rattle.node_state.specs.Nodes.{account_at}
use Rattle.judgement.specs.Tests.{looked_at}
use Rattle.rules.specs.declared.types.Message.TheVariants.{Signed, Key}
use Rattle.rules.specs.declared.types.Call.TheVariants.{Pass, Pay, Get}
use Rattle.moments.specs.Runs.{Deposit, deposit_at, Entry, message, call, outcome_of}
use Rattle.moments.specs.Moments.{Stands}
use Rattle.moments.specs.Moves.{Ready}
use Rattle.promise_told.specs.World.{World, node_of, terms_of, Event, entry, happens, run, world_after}

-- The held sheet of an account.
abbrev pub held_at : World → ℕ → Content
held_at w k = (account_at (node_of w) k).held

-- The node can carry a payment that is in account i as c on to account j as x.
pub record Carriable (w : World) (i j : ℕ) (c x : Payment) : Type 0 where
  -- both accounts are there and not frozen, and no next is under way
  pub ready_from : Ready (node_of w) i
  pub ready_to : Ready (node_of w) j
  -- they are two
  pub other : i ≡ j → ⊥
  -- c is an in on held of i, and x has its lock
  pub stands : Stands c (held_at w i).ins
  pub lock : c.lock ≡ x.lock
  -- the lock was never passed on (so it is in no out that may count)
  pub unrouted : (node_of w).route_of x.lock ≡ None
  -- x is no more than c, nor than the node's own in j
  pub covered : x.amount ≤ c.amount
  pub owned : x.amount ≤ (held_at w j).own
  -- there is room for one out more
  pub room : length (held_at w j).outs < 32
  -- x ends before c by the gap
  pub apart : x.end + (terms_of w).gap ≤ c.end
  -- neither end is past
  pub in_not_past : looked_at (account_at (node_of w) i) ≤ c.end
  pub out_not_past : looked_at (account_at (node_of w) j) ≤ x.end
  -- one sheet more in i, and two more in j, are within the limit
  pub number_from : (held_at w i).number + 1 ≤ most
  pub number_to : (held_at w j).number + 2 ≤ most

-- The neighbour of account k signs the sheet with this number. `byte` is the neighbour's own number for the account.
abbrev pub signs : (k byte number : ℕ) → Entry
signs k byte number = message k (Signed (record { account = byte; number = number }))

-- What the node is given, line by line. The owner passes the in on; the neighbour of j signs; the key comes, from anybody;
-- the owner pays the out; the neighbour of j signs; the owner gets the in; the neighbour of i signs.
abbrev pub lines_for : World → (i j : ℕ) → (x : Payment) → (key : List ℕ) → (anybody byte-from byte-to : ℕ) → List Entry
lines_for w i j x key anybody byte-from byte-to =
    call (Pass i j x)
    ∷ signs j byte-to ((held_at w j).number + 1)
    ∷ message anybody (Key key)
    ∷ call (Pay j x.lock)
    ∷ signs j byte-to ((held_at w j).number + 2)
    ∷ call (Get i x.lock)
    ∷ signs i byte-from ((held_at w i).number + 1)
    ∷ []

-- One after the other, each of these is answered with Ok.
abbrev pub AllTaken : World → List Entry → Type 0
AllTaken w [] = Unit {0}
AllTaken w (e ∷ others) = ((outcome_of (node_of w) e).answer ≡ Ok tt) × AllTaken (happens (entry e) w) others

-- What the two accounts hold then: in i the in is gone and its amount is the node's own; in j the out has come and gone, and
-- its amount has gone from the node's own to the neighbour's.
abbrev pub with_in : Content → Payment → Content
with_in s c =
    record { account = s.account; number = s.number + 1; own = s.own + c.amount; theirs = s.theirs; ins = without c.lock s.ins; outs = s.outs }

abbrev pub with_out : Content → Payment → Content
with_out s x =
    record { account = s.account; number = s.number + 2; own = s.own - x.amount; theirs = s.theirs + x.amount; ins = s.ins; outs = s.outs }

-- The world v after it, from the world w before it.
pub record GoneThrough (w v : World) (i j : ℕ) (c x : Payment) : Type 0 where
  -- the sheets that the two accounts hold
  pub from : held_at v i ≡ with_in (held_at w i) c
  pub to : held_at v j ≡ with_out (held_at w j) x
  -- so own has grown by the in and shrunk by the out
  pub grown : (held_at v i).own ≡ (held_at w i).own + c.amount
  pub shrunk : (held_at v j).own + x.amount ≡ (held_at w j).own
  -- the lock is in no in there any more, and in no out
  pub in_gone : NotAmong c.lock (held_at v i).ins
  pub out_gone : NotAmong x.lock (held_at v j).outs
  -- nothing is under way
  pub still_from : (account_at (node_of v) i).next ≡ None
  pub still_to : (account_at (node_of v) j).next ≡ None
  -- the other accounts are as they were
  pub others : (k : ℕ) → (k ≢ i) → (k ≢ j) → account_at (node_of v) k ≡ account_at (node_of w) k
  -- it took no time, and nothing went to the register
  pub time : v.now ≡ w.now
  pub pages : v.pages ≡ w.pages
  pub way : v.coming ≡ w.coming

-- The two deposits of an account together are within the limit.
abbrev pub Fits : Deposit → Type 0
Fits d = d.own + d.theirs ≤ most

-- Whatever happened before: a payment that the node can carry goes through, where its neighbours sign and the key comes.
-- Whether the node had the key before is of no matter.
abbrev pub GoesThrough : Type 0
GoesThrough =
    (terms : Terms) (ds : List Deposit) (events : List Event) (i j : ℕ) (c x : Payment) (key : List ℕ) (anybody byte-from byte-to : ℕ) →
    Fits (deposit_at ds i) → Fits (deposit_at ds j) → byte-from ≤ 15 → byte-to ≤ 15 → sha256 key ≡ x.lock →
    Carriable (world_after terms ds events) i j c x →
    AllTaken (world_after terms ds events) (lines_for (world_after terms ds events) i j x key anybody byte-from byte-to)
    × GoneThrough (world_after terms ds events)
    (run (map entry (lines_for (world_after terms ds events) i j x key anybody byte-from byte-to)) (world_after terms ds events)) i j c x

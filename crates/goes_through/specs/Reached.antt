-- From the deposits on, a world is reached in which the node can carry a payment: a look, and an offer of a neighbour, do it.
-- And the whole run, from the first look to the last signature. Assumes nothing.
use Rattle.std.specs.Prelude.{◌≡◌, ℕ, ◌+◌, ◌-◌, ◌<◌, ◌≤◌, List, [], ◌∷◌, ◌++◌, map, length, replicate, None, refl}
use Rattle.std.proofs.Common.{arith}
use Rattle.digest.specs.Sha256.{sha256}
use Rattle.sheet.specs.declared.types.Payment.{Payment}
use Rattle.sheet.specs.declared.types.Sheet.{Sheet}
use Rattle.schedule.specs.declared.types.Terms.{Terms}
use Rattle.node_state.specs.Nodes.{account_at}
use Rattle.rules.specs.declared.types.Message.TheVariants.{ProposedSigned, Key}
use Rattle.rules.specs.declared.types.Call.TheVariants.{Pass, Pay, Get}
use Rattle.moments.specs.Runs.{Deposit, deposit_at, message, call}
use Rattle.promise_told.specs.World.{World, node_of, Event, looks, entry, world_after}
use Rattle.goes_through.specs.Willing.{held_at, Carriable, signs, Fits}

-- Two accounts whose deposits are enough for the in c and the out x.
pub record Suited (terms : Terms) (ds : List Deposit) (i j : ℕ) (c x : Payment) : Type 0 where
  -- there are two accounts i and j
  pub there_from : i < length ds
  pub there_to : j < length ds
  pub other : i ≡ j → ⊥
  -- the deposits of i are within the limit; the neighbour's covers c, and the node's own in j covers x
  pub fits : Fits (deposit_at ds i)
  pub offers : c.amount ≤ (deposit_at ds i).theirs
  pub owned : x.amount ≤ (deposit_at ds j).own
  -- x is for the same lock, is no more than c, and ends before it by the gap
  pub lock : c.lock ≡ x.lock
  pub covered : x.amount ≤ c.amount
  pub apart : x.end + terms.gap ≤ c.end

-- What the neighbour of an account with these deposits offers, as it writes it: sheet 1, with c as its only out.
-- What stands past the counts is of no matter.
abbrev pub offer : (byte : ℕ) → Deposit → Payment → Sheet
offer byte d c =
    record {
      account = byte;
      number = 1;
      own = d.theirs - c.amount;
      theirs = d.own;
      ins = replicate 32 c;
      in_count = 0;
      outs = replicate 32 c;
      out_count = 1;
      few_ins = omega arith;
      few_outs = omega arith;
      whole_ins = refl;
      whole_outs = refl;
    }

-- At tick 0 the node looks, and the register shows nothing; then the neighbour of account i offers c, with its signature.
abbrev pub offering : List Deposit → (i byte : ℕ) → Payment → List Event
offering ds i byte c = looks [] ∷ entry (message i (ProposedSigned (offer byte (deposit_at ds i) c) (record { account = byte; number = 1 }))) ∷ []

-- Then the node can carry c on as x, whatever the terms and the other accounts.
abbrev pub IsReached : Type 0
IsReached =
    (terms : Terms) (ds : List Deposit) (i j : ℕ) (c x : Payment) (byte : ℕ) → byte ≤ 15 → Suited terms ds i j c x →
    Carriable (world_after terms ds (offering ds i byte c)) i j c x

-- The whole run: the look and the offer, and then the lines by which the payment goes through.
abbrev pub whole_run : List Deposit → (i j : ℕ) → (c x : Payment) → (key : List ℕ) → (anybody byte-from byte-to : ℕ) → List Event
whole_run ds i j c x key anybody byte-from byte-to =
    offering ds i byte-from c ++
    map entry
    (call (Pass i j x)
    ∷ signs j byte-to 1
    ∷ message anybody (Key key)
    ∷ call (Pay j x.lock)
    ∷ signs j byte-to 2
    ∷ call (Get i x.lock)
    ∷ signs i byte-from 2
    ∷ [])

-- What the node holds then: the deposits, moved by the in and by the out.
pub record Earned (ds : List Deposit) (w : World) (i j : ℕ) (c x : Payment) : Type 0 where
  pub from : held_at w i ≡ record { account = i; number = 2; own = (deposit_at ds i).own + c.amount; theirs = (deposit_at ds i).theirs - c.amount; ins = []; outs = [] }
  pub to : held_at w j ≡ record { account = j; number = 2; own = (deposit_at ds j).own - x.amount; theirs = (deposit_at ds j).theirs + x.amount; ins = []; outs = [] }
  -- nothing is under way
  pub still_from : (account_at (node_of w) i).next ≡ None
  pub still_to : (account_at (node_of w) j).next ≡ None

-- From any deposits that are enough, the whole run comes to that.
abbrev pub FromTheStart : Type 0
FromTheStart =
    (terms : Terms) (ds : List Deposit) (i j : ℕ) (c x : Payment) (key : List ℕ) (anybody byte-from byte-to : ℕ) →
    Fits (deposit_at ds j) → byte-from ≤ 15 → byte-to ≤ 15 → sha256 key ≡ x.lock → Suited terms ds i j c x →
    Earned ds (world_after terms ds (whole_run ds i j c x key anybody byte-from byte-to)) i j c x

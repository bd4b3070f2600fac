-- One run, to see that the theorems speak of something: a payment of 5 goes through, and the node keeps 1 of it. Assumes nothing.
use Rattle.std.specs.Prelude.{◌≡◌, ℕ, false, List, [], ◌∷◌, replicate, None, refl}
use Rattle.std.proofs.Common.{arith}
use Rattle.digest.specs.Sha256.{sha256}
use Rattle.sheet.specs.declared.types.Payment.{Payment}
use Rattle.sheet.specs.declared.types.Sheet.{Sheet}
use Rattle.schedule.specs.declared.types.Terms.{Terms}
use Rattle.node_state.specs.Nodes.{NodeState, account_at}
use Rattle.rules.specs.declared.types.Message.TheVariants.{ProposedSigned, Signed, Key}
use Rattle.rules.specs.declared.types.Call.TheVariants.{Pass, Pay, Get}
use Rattle.moments.specs.Runs.{Deposit, message, call, Event, taken, looked, restarted, node_after}

abbrev pub example_key : List ℕ
example_key = replicate 32 7

-- What stands past a count, of no matter.
abbrev pub nothing : Payment
nothing = record { lock = replicate 32 0; amount = 0; end = 0 }

-- What the neighbour of account 0 offers, as it writes it: 5 of its 10, in one out.
abbrev pub offer : Sheet
offer =
    record {
      account = 3;
      number = 1;
      own = 5;
      theirs = 10;
      ins = replicate 32 nothing;
      in_count = 0;
      outs = record { lock = sha256 example_key; amount = 5; end = 100 } ∷ replicate 31 nothing;
      out_count = 1;
      few_ins = omega arith;
      few_outs = omega arith;
      whole_ins = refl;
      whole_outs = refl;
    }

abbrev pub example_terms : Terms
example_terms = record { gap = 20; window = 10; delay = 1; look = 2 }

abbrev pub example_deposits : List Deposit
example_deposits = record { own = 10; theirs = 10 } ∷ record { own = 10; theirs = 10 } ∷ []

-- A look; the offer, with its signature; passing it on; a stop, and a look; the other neighbour's signature; the key; paying,
-- getting, and the signatures for both.
abbrev pub example_run : List Event
example_run =
    looked 1 (λ k. false) (λ k. None)
    ∷ taken (message 0 (ProposedSigned offer (record { account = 3; number = 1 })))
    ∷ taken (call (Pass 0 1 (record { lock = sha256 example_key; amount = 4; end = 80 })))
    ∷ restarted
    ∷ looked 2 (λ k. false) (λ k. None)
    ∷ taken (message 1 (Signed (record { account = 0; number = 1 })))
    ∷ taken (message 0 (Key example_key))
    ∷ taken (call (Pay 1 (sha256 example_key)))
    ∷ taken (message 1 (Signed (record { account = 0; number = 2 })))
    ∷ taken (call (Get 0 (sha256 example_key)))
    ∷ taken (message 0 (Signed (record { account = 3; number = 2 })))
    ∷ []

-- Own has grown by 5 in account 0 and shrunk by 4 in account 1; nothing is under way.
pub record GoneThrough (n : NodeState) : Type 0 where
  pub first : (account_at n 0).held ≡ record { account = 0; number = 2; own = 15; theirs = 5; ins = []; outs = [] }
  pub second : (account_at n 1).held ≡ record { account = 1; number = 2; own = 6; theirs = 14; ins = []; outs = [] }
  pub first_still : (account_at n 0).next ≡ None
  pub second_still : (account_at n 1).next ≡ None

abbrev pub GoesThroughOnce : Type 0
GoesThroughOnce = GoneThrough (node_after example_terms example_deposits example_run)

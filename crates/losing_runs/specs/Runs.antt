-- The runs that lose: what happens, tick by tick, from the deposits on. Their numbers are those of docs/DECISIONS.md, "Runs that
-- lose". Run 8 is not here: in it the node holds a sheet that its neighbour never signed, and this world takes what the node
-- holds to be signed by both. Assumes nothing.
use Rattle.std.specs.Prelude.{ℕ, zero, suc, ◌<◌, ◌≤◌, List, [], ◌∷◌, ◌++◌, length, replicate, refl}
use Rattle.std.proofs.Common.{arith}
use Rattle.sheet.specs.declared.types.Payment.{Payment}
use Rattle.sheet.specs.declared.types.Sheet.{Sheet}
use Rattle.schedule.specs.declared.types.Terms.{Terms}
use Rattle.rules.specs.declared.types.Message.TheVariants.{Proposed, ProposedSigned, Signed, Key}
use Rattle.rules.specs.declared.types.Call.TheVariants.{Pass, Pay, Get, GiveUp}
use Rattle.looking.specs.declared.types.Shown.{Shown}
use Rattle.looking.specs.declared.types.Shown.TheVariants.{Dispute}
use Rattle.looking.specs.declared.types.Shown.TheVariants as statement
use Rattle.moments.specs.Runs.{Deposit, message, call}
use Rattle.moments.specs.Moments.{sum_to, put_in}
use Rattle.promise_told.specs.World.{world_after, Event, tick, entry, looks, shows, reveals, arrives, restart, entry_cut}
use Rattle.promise_told.specs.Main.{Holds, Settled, payout}
use Rattle.losing_runs.specs.Conduct.{Conduct, world_by}

-- The terms of all runs, and the deposits: two accounts, 1 of the node and 1 of the neighbour in each.
abbrev pub terms : Terms
terms = record { gap = 9; window = 3; delay = 1; look = 1 }

abbrev pub deposits : List Deposit
deposits = record { own = 1; theirs = 1 } ∷ record { own = 1; theirs = 1 } ∷ []

-- The node loses by these events: every account is settled, and it has less than it put in.
pub record Loses (c : Conduct) (events : List Event) : Type 0 where
  pub holds : Holds terms
  pub settled : (k : ℕ) → k < length deposits → Settled (world_by c terms deposits events) k
  pub less : sum_to (length deposits) (payout (world_by c terms deposits events)) < put_in deposits

-- The node of the rules doesn't: every account is settled, and it has at least what it put in.
pub record Keeps (events : List Event) : Type 0 where
  pub settled : (k : ℕ) → k < length deposits → Settled (world_after terms deposits events) k
  pub enough : put_in deposits ≤ sum_to (length deposits) (payout (world_after terms deposits events))

-- The neighbours have the key from the start; the lock is its SHA-256.
abbrev pub key : List ℕ
key = replicate 32 7

abbrev pub lock : List ℕ
lock =
    75 ∷ 176 ∷ 111 ∷ 142 ∷ 78 ∷ 58 ∷ 119 ∷ 21 ∷ 210 ∷ 1 ∷ 213 ∷ 115 ∷ 208 ∷ 170 ∷ 66 ∷ 55
    ∷ 98 ∷ 229 ∷ 93 ∷ 171 ∷ 214 ∷ 26 ∷ 44 ∷ 2 ∷ 39 ∷ 143 ∷ 165 ∷ 108 ∷ 198 ∷ 210 ∷ 148 ∷ 224 ∷ []

-- What stands past a count, of no matter.
abbrev pub nothing : Payment
nothing = record { lock = []; amount = 0; end = 0 }

-- All payments are of 1.
abbrev pub up_to : ℕ → Payment
up_to end = record { lock = lock; amount = 1; end = end }

-- Neighbour 0 offers an in with this end and signs it: sheet 1 of account 0, as it writes it.
abbrev pub offer : ℕ → Sheet
offer end =
    record {
      account = 0;
      number = 1;
      own = 0;
      theirs = 1;
      ins = replicate 32 nothing;
      in_count = 0;
      outs = up_to end ∷ replicate 31 nothing;
      out_count = 1;
      few_ins = omega arith;
      few_outs = omega arith;
      whole_ins = refl;
      whole_outs = refl;
    }

abbrev pub offered : ℕ → Event
offered end = entry (message 0 (ProposedSigned (offer end) (record { account = 0; number = 1 })))

-- The owner has it passed on to account 1, with this end.
abbrev pub passed_on : ℕ → Event
passed_on end = entry (call (Pass 0 1 (up_to end)))

-- Neighbour 1 returns the out: sheet 2 of account 1.
abbrev pub return : Sheet
return =
    record {
      account = 0;
      number = 2;
      own = 1;
      theirs = 1;
      ins = replicate 32 nothing;
      in_count = 0;
      outs = replicate 32 nothing;
      out_count = 0;
      few_ins = omega arith;
      few_outs = omega arith;
      whole_ins = refl;
      whole_outs = refl;
    }

abbrev pub returned_alone : Event
returned_alone = entry (message 1 (Proposed return))

abbrev pub returned_signed : Event
returned_signed = entry (message 1 (ProposedSigned return (record { account = 0; number = 2 })))

-- The neighbour of an account signs back the sheet with a number.
abbrev pub signed_back : (account number : ℕ) → Event
signed_back i number = entry (message i (Signed (record { account = 0; number = number })))

-- The owner has the in at 0 given up.
abbrev pub given_up : Event
given_up = entry (call (GiveUp 0 lock))

-- The owner has the out at 1 paid.
abbrev pub paid : Event
paid = entry (call (Pay 1 lock))

-- The owner has the in at 0 got.
abbrev pub got : Event
got = entry (call (Get 0 lock))

-- So many ticks more, and at each a look that is told this.
abbrev pub looking : ℕ → List Shown → List Event
looking zero told = []
looking (suc many) told = tick ∷ looks told ∷ looking many told

-- The key is shown for account 1 at the last tick at which it counts, after the node has looked.
abbrev pub key_at_last : List Event
key_at_last = reveals 1 key ∷ tick ∷ []

-- In all runs places 0 and 1 among what was signed are sheet 0 of each account; 2 is the offer, 3 the sheet with the out.

-- Run 1. Opening a dispute doesn't count as seeing one.
abbrev pub opening_unseen_run : List Event
opening_unseen_run =
    looks []
    ∷ offered 9
    ∷ passed_on 0
    ∷ signed_back 1 1
    -- tick 1: the out's end is past, so the node sends sheet 1 of account 1, to open a dispute
    ∷ tick
    ∷ looks []
    -- neighbour 1 shows sheet 0 first: a dispute until 4
    ∷ shows 1
    ∷ returned_signed
    ∷ given_up
    ∷ signed_back 0 2
    -- tick 2: held is sheet 2, but sheet 1 is on its way, so the node sends nothing; then sheet 1 comes in
    ∷ tick
    ∷ looks (Dispute 1 0 4 ∷ [])
    ∷ arrives 0
    -- tick 3: the node sends sheet 2
    ∷ tick
    ∷ looks (Dispute 1 1 4 ∷ [])
    -- tick 4: the dispute has ended before that comes in
    ∷ tick
    ∷ arrives 0
    ∷ looks (Dispute 1 1 4 ∷ [])
    -- tick 5: the key counts until now
    ∷ tick
    ∷ looks (Dispute 1 1 4 ∷ [])
    ∷ key_at_last

-- Run 2. Passing on looks only at the in's end.
abbrev pub passed_late_run : List Event
passed_late_run =
    looks []
    -- up to tick 5: neighbour 0 offers, and shows that sheet: a dispute until 8, so the in's key counts until 9
    ∷ looking 5 []
    ++ offered 9
    ∷ shows 2
    -- tick 6: neighbour 1 shows the sheet with the out: a dispute until 9, so the out's key counts until 10
    ∷ tick
    ∷ passed_on 0
    ∷ shows 3
    ∷ looks (Dispute 0 1 8 ∷ Dispute 1 1 9 ∷ [])
    -- up to tick 10
    ∷ looking 4 (Dispute 0 1 8 ∷ Dispute 1 1 9 ∷ [])
    ++ key_at_last

-- Run 3. After a start the node signs before it has looked.
abbrev pub signed_unlooked_run : List Event
signed_unlooked_run =
    looks []
    -- both neighbours show sheet 0: disputes until 3
    ∷ shows 0
    ∷ shows 1
    ∷ tick
    ∷ looks (Dispute 0 0 3 ∷ Dispute 1 0 3 ∷ [])
    -- tick 2: the node stops and starts; neighbour 1 shows the sheet with the out
    ∷ tick
    ∷ restart
    ∷ offered 12
    ∷ passed_on 3
    ∷ shows 3
    -- the node sends sheet 1 of account 0
    ∷ looks (Dispute 0 0 3 ∷ Dispute 1 1 3 ∷ [])
    -- tick 3: both disputes have ended before that comes in
    ∷ tick
    ∷ arrives 0
    ∷ looks (Dispute 0 0 3 ∷ Dispute 1 1 3 ∷ [])
    -- tick 4: the key counts until now
    ∷ tick
    ∷ looks (Dispute 0 0 3 ∷ Dispute 1 1 3 ∷ [])
    ∷ key_at_last

-- Run 3b. The same, only where the file is new, and a file with nothing but first sheets is taken for a new one.
abbrev pub new_file_unlooked_run : List Event
new_file_unlooked_run =
    looks []
    -- neighbour 0 shows sheet 0: a dispute until 3
    ∷ shows 0
    ∷ tick
    ∷ looks (Dispute 0 0 3 ∷ [])
    -- tick 2: the node stops and starts, and the payment goes through
    ∷ tick
    ∷ restart
    ∷ offered 12
    ∷ passed_on 3
    ∷ signed_back 1 1
    ∷ entry (message 1 (Key key))
    ∷ paid
    ∷ signed_back 1 2
    -- the node sends sheet 1 of account 0
    ∷ looks (Dispute 0 0 3 ∷ [])
    -- tick 3: the dispute has ended before that comes in
    ∷ tick
    ∷ []

-- Run 4. A signature back is taken in an account with a dispute that was seen.
abbrev pub signed_in_dispute_run : List Event
signed_in_dispute_run =
    looks []
    -- neighbour 1 shows sheet 0: a dispute until 3
    ∷ shows 1
    ∷ offered 9
    ∷ passed_on 0
    ∷ signed_back 1 1
    ∷ returned_alone
    -- tick 1: the node sends sheet 1 of account 1; then sheet 2 is signed back
    ∷ tick
    ∷ looks (Dispute 1 0 3 ∷ [])
    ∷ signed_back 1 2
    ∷ given_up
    ∷ signed_back 0 2
    -- tick 2: sheet 1 is on its way, so the node sends nothing; then sheet 1 comes in
    ∷ tick
    ∷ looks (Dispute 1 0 3 ∷ [])
    ∷ arrives 0
    -- tick 3: the dispute has ended
    ∷ tick
    ∷ looks (Dispute 1 1 3 ∷ [])
    -- tick 4: the key counts until now
    ∷ tick
    ∷ looks (Dispute 1 1 3 ∷ [])
    ∷ key_at_last

-- At tick 0 neighbour 1 shows the sheet with the out, a dispute until 3, and at tick 4 its key.
abbrev pub out_taken : List Event
out_taken = shows 3 ∷ looking 4 (Dispute 1 1 3 ∷ []) ++ key_at_last

-- Run 5. The sheet is recorded before the lock passed on, and the node stops between the two records.
abbrev pub sheet_first_run : List Event
sheet_first_run = looks [] ∷ offered 9 ∷ entry_cut (call (Pass 0 1 (up_to 0))) 1 ∷ looks [] ∷ given_up ∷ signed_back 0 2 ∷ out_taken

-- Run 6. A signature back isn't synced.
abbrev pub back_unsynced_run : List Event
back_unsynced_run =
    looks []
    ∷ offered 9
    ∷ passed_on 0
    ∷ signed_back 1 1
    ∷ returned_alone
    ∷ signed_back 1 2
    -- neighbour 0 shows sheet 1: a dispute until 3
    ∷ shows 2
    ∷ looking 9 (Dispute 0 1 3 ∷ [])
    -- tick 10: the in is over, and its key wasn't shown; the power fails, the node starts, and opens a dispute with sheet 1 of
    -- account 1, until 13
    ++ tick
    ∷ restart
    ∷ looks (Dispute 0 1 3 ∷ [])
    ∷ arrives 0
    -- up to tick 14: the out's key counts until then
    ∷ looking 4 (Dispute 0 1 3 ∷ Dispute 1 1 13 ∷ [])
    ++ key_at_last

-- Run 7. Giving up looks only at the last sheet that the node has signed: the return, which neighbour 1 never signs.
abbrev pub given_up_by_last_run : List Event
given_up_by_last_run = looks [] ∷ offered 9 ∷ passed_on 0 ∷ signed_back 1 1 ∷ returned_alone ∷ given_up ∷ signed_back 0 2 ∷ out_taken

-- Run 7. Giving up looks only at held: the sheet with the out isn't signed back.
abbrev pub given_up_by_held_run : List Event
given_up_by_held_run = looks [] ∷ offered 9 ∷ passed_on 0 ∷ given_up ∷ signed_back 0 2 ∷ out_taken

-- Run 9. A start doesn't sync what it finds. The node is killed once both records are written, and not synced; it starts, and sends
-- the sheet that it finds; then the power fails.
abbrev pub start_unsynced_run : List Event
start_unsynced_run =
    looks [] ∷ offered 9 ∷ entry_cut (call (Pass 0 1 (up_to 0))) 2 ∷ restart ∷ looks [] ∷ given_up ∷ signed_back 0 2 ∷ out_taken

-- What comes after these events where the node keeps the rules, until all is settled. (A look that tells what isn't so doesn't
-- happen, and no tick passes without a look.)

-- The node learns the key from the register, where it was shown at this tick, and gets the in.
abbrev pub key_learned : (until at : ℕ) → List Event
key_learned until at = looks (Dispute 1 1 until ∷ statement.Key 1 key at ∷ []) ∷ got ∷ signed_back 0 2 ∷ []

-- It has not passed on, learns the key, and shows it for account 0, where it is in at tick 6.
abbrev pub key_in_time : List Event
key_in_time =
    looks (Dispute 0 1 8 ∷ statement.Key 1 key 6 ∷ [])
    ∷ arrives 0
    ∷ looking 3 (Dispute 0 1 8 ∷ statement.Key 0 key 6 ∷ statement.Key 1 key 6 ∷ [])
    ++ tick
    ∷ []

-- It has signed nothing in the two disputes, which end.
abbrev pub both_end : List Event
both_end = looks (Dispute 0 0 3 ∷ Dispute 1 0 3 ∷ statement.Key 1 key 2 ∷ []) ∷ tick ∷ []

-- It has signed no sheet with an out; the sheet that was shown is the one without the in.
abbrev pub no_out : List Event
no_out =
    looks (Dispute 0 2 3 ∷ statement.Key 1 key 1 ∷ [])
    ∷ looking 1 (Dispute 0 2 3 ∷ statement.Key 1 key 1 ∷ [])
    ++ tick
    ∷ []

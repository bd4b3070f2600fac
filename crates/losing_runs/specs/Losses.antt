-- Why the rules are as they are: a node that leaves one of them out loses by a run. By the same events the node that keeps
-- them has, once all is settled, at least what it put in. Assumes nothing.
use Rattle.std.specs.Prelude.{◌++◌}
use Rattle.losing_runs.specs.Variants.{opening_unseen, signed_in_dispute, passed_late, signed_unlooked, new_file_unlooked, sheet_first, back_unsynced, given_up_by_last, given_up_by_held, start_unsynced}
use Rattle.losing_runs.specs.Runs.{Loses, Keeps, opening_unseen_run, signed_in_dispute_run, passed_late_run, signed_unlooked_run, new_file_unlooked_run, sheet_first_run, back_unsynced_run, given_up_by_last_run, given_up_by_held_run, start_unsynced_run, key_learned, key_in_time, both_end, no_out}

-- Run 1. Opening a dispute counts as seeing one.
abbrev pub OpeningUnseenLoses : Type 0
OpeningUnseenLoses = Loses opening_unseen opening_unseen_run

abbrev pub OpeningUnseenKept : Type 0
OpeningUnseenKept = Keeps (opening_unseen_run ++ key_learned 4 5)

-- Run 2. The out's end must not be past.
abbrev pub PassedLateLoses : Type 0
PassedLateLoses = Loses passed_late passed_late_run

abbrev pub PassedLateKept : Type 0
PassedLateKept = Keeps (passed_late_run ++ key_in_time)

-- Run 3. A look after each start.
abbrev pub SignedUnlookedLoses : Type 0
SignedUnlookedLoses = Loses signed_unlooked signed_unlooked_run

abbrev pub SignedUnlookedKept : Type 0
SignedUnlookedKept = Keeps (signed_unlooked_run ++ both_end)

-- Run 3b. A look after a start with a new file too.
abbrev pub NewFileUnlookedLoses : Type 0
NewFileUnlookedLoses = Loses new_file_unlooked new_file_unlooked_run

abbrev pub NewFileUnlookedKept : Type 0
NewFileUnlookedKept = Keeps new_file_unlooked_run

-- Run 4. No signature back in a dispute.
abbrev pub SignedInDisputeLoses : Type 0
SignedInDisputeLoses = Loses signed_in_dispute signed_in_dispute_run

abbrev pub SignedInDisputeKept : Type 0
SignedInDisputeKept = Keeps (signed_in_dispute_run ++ key_learned 3 4)

-- Run 5. The lock passed on is recorded before the sheet.
abbrev pub SheetFirstLoses : Type 0
SheetFirstLoses = Loses sheet_first sheet_first_run

abbrev pub SheetFirstKept : Type 0
SheetFirstKept = Keeps (sheet_first_run ++ no_out)

-- Run 6. A signature back is synced.
abbrev pub BackUnsyncedLoses : Type 0
BackUnsyncedLoses = Loses back_unsynced back_unsynced_run

abbrev pub BackUnsyncedKept : Type 0
BackUnsyncedKept = Keeps back_unsynced_run

-- Run 7. Giving up looks at held.
abbrev pub GivenUpByLastLoses : Type 0
GivenUpByLastLoses = Loses given_up_by_last given_up_by_last_run

abbrev pub GivenUpByLastKept : Type 0
GivenUpByLastKept = Keeps (given_up_by_last_run ++ key_learned 3 4)

-- Run 7. Giving up looks at next.
abbrev pub GivenUpByHeldLoses : Type 0
GivenUpByHeldLoses = Loses given_up_by_held given_up_by_held_run

abbrev pub GivenUpByHeldKept : Type 0
GivenUpByHeldKept = Keeps (given_up_by_held_run ++ key_learned 3 4)

-- Run 9. A start syncs what it finds.
abbrev pub StartUnsyncedLoses : Type 0
StartUnsyncedLoses = Loses start_unsynced start_unsynced_run

abbrev pub StartUnsyncedKept : Type 0
StartUnsyncedKept = Keeps (start_unsynced_run ++ key_learned 3 4)

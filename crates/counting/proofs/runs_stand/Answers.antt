use Rattle.counting.proofs.Runs.{runs_orderly, not_below, not_negative}
use Rattle.counting.proofs.runs_stand.Goals as goal

pub returns : goal.returns
returns c = record { orderly = runs_orderly; enough = not_below; difference = not_negative }

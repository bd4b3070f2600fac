use Rattle.moments.proofs.Replays.{stands_by, cut_off_lem}
use Rattle.moments.proofs.replay_stands.Goals as goal

pub returns : goal.returns
returns c = record { records = stands_by; within = cut_off_lem }

use Rattle.std.proofs.Common.{map, drop}
use Rattle.outcome.specs.Acts.{shown_key}
use Rattle.looking.proofs.Doing.{Left}
use Rattle.looking.proofs.showing.show_keys.Given as goal

abbrev pub invariant-loop-key : goal.invariant-loop-key
invariant-loop-key g l =
    Left (g.O.Outside.log l.initial.outside) (map (shown_key l.i) l.keys) (g.O.Outside.log l.outside) (map (shown_key l.i) (drop l.key-index l.keys))

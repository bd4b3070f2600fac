use Rattle.std.proofs.Common.{◌≡◌, length, take, drop}
use Rattle.std.specs.List.{concat}
use Rattle.lines.specs.Lines.{hex_read}
use Rattle.lines.proofs.Pairs.{bytes_then}
use Rattle.lines.proofs.hex_into.Given as goal

-- the bytes so far and what the other pairs write are the whole
abbrev pub invariant-loop-i : goal.invariant-loop-i
invariant-loop-i l =
    (hex_read (concat l.pairs) ≡ bytes_then (take l.i l.out) (hex_read (concat (drop l.i l.pairs)))) × (length l.out ≡ length l.pairs)

use Rattle.std.proofs.Common.{◌≡◌, min, take, drop}
use Rattle.std.specs.Str.{all_ascii_digits}
use Rattle.lines.specs.Lines.{decimal}
use Rattle.lines.proofs.number.Given as goal

-- only digits were passed, and their value, if not too large, is known
abbrev pub invariant-loop-b : goal.invariant-loop-b
invariant-loop-b l =
    (all_ascii_digits (drop l.b-index l.word) ≡ all_ascii_digits l.word)
    × (l.value ≡ min (decimal (take l.b-index l.word)) 4294967296)

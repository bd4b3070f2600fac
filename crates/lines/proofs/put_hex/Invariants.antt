use Rattle.std.proofs.Common.{◌≡◌, ◌+◌, ◌*◌, ◌++◌, take, vec_items, vec_len, vec_capacity}
use Rattle.lines.specs.Lines.{hex_written}
use Rattle.lines.proofs.put_hex.Given as goal

-- the digits of the bytes so far stand there, and the room is as it was
abbrev pub invariant-loop-b : goal.invariant-loop-b
invariant-loop-b l =
    (vec_items l.out ≡ vec_items l.initial.out ++ hex_written (take l.b-index l.bytes))
    × (vec_len l.out ≡ vec_len l.initial.out + 2 * l.b-index)
    × (vec_capacity l.out ≡ vec_capacity l.initial.out)

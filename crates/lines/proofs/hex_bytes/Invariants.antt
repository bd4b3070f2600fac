use Rattle.std.proofs.Common.{◌≡◌, length, drop, vec_items, vec_len, vec_capacity}
use Rattle.std.specs.List.{concat}
use Rattle.lines.specs.Lines.{hex_read}
use Rattle.lines.proofs.Pairs.{bytes_then}
use Rattle.lines.proofs.hex_bytes.Given as goal

-- the bytes so far and what the other pairs write are the whole, and there is room for all
abbrev pub invariant-loop-pair : goal.invariant-loop-pair
invariant-loop-pair l =
    (hex_read (concat l.pairs) ≡ bytes_then (vec_items l.out) (hex_read (concat (drop l.pair-index l.pairs))))
    × (vec_len l.out ≡ l.pair-index)
    × (vec_capacity l.out ≡ length l.pairs)

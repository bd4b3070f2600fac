use Rattle.std.proofs.Common.{◌≡◌, length, vec_items}
use Rattle.lines.specs.Lines.{words}
use Rattle.request_told.specs.Looks.{words_show}
use Rattle.request_told.proofs.Statements.{all_then}
use Rattle.request_told.proofs.looks.read_shown.Given as goal

-- the statements so far and those of the other words are the whole
abbrev pub invariant-loop-word : goal.invariant-loop-word
invariant-loop-word l = words_show (words l.line) ≡ all_then (vec_items l.shown) (words_show (words l.rest))

abbrev pub decreases-loop-word : goal.decreases-loop-word
decreases-loop-word l = length l.rest

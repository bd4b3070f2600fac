use Rattle.std.proofs.Common.{◌≡◌, ◌+◌, length, drop}
use Rattle.lines.specs.Lines.{parts}
use Rattle.terms.specs.Reading.{all_say, empty}
use Rattle.terms.proofs.drafts.draft_of.Given as goal

abbrev pub invariant-loop-i : goal.invariant-loop-i
invariant-loop-i l = all_say l.draft (1 + length l.yielded) (drop (length l.yielded) (parts 10 l.text)) ≡ all_say empty 1 (parts 10 l.text)

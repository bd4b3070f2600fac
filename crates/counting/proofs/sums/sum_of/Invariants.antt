use Rattle.std.proofs.Common.{◌≡◌, ℕ, ◌*◌, ◌≤◌, map, take, sum_by}
use Rattle.std.specs.Fn.{FnReturnsAt}
use Rattle.sheet.specs.Contents.{Content, content_of}
use Rattle.counting.proofs.sums.sum_of.Given as goal

abbrev pub invariant-loop-sheet : goal.invariant-loop-sheet
invariant-loop-sheet g l =
    ((w : Content → ℕ) → ((s : _) (n : ℕ) → FnReturnsAt g.F.Fn l.each s n → n ≡ w (content_of s)) → l.sum ≡ sum_by w (map content_of (take l.sheet-index l.sheets)))
    × (l.sum ≤ 279172874175 * l.sheet-index)

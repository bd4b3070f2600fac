use Rattle.std.proofs.Common.{refl, arith}
use Rattle.std.proofs.iter.Next.{says_at}
use Rattle.counting.proofs.Steps.{sheets_step}
use Rattle.counting.proofs.sums.sum_of.Goals as goal

pub overflow_add-sum : goal.overflow_add-sum
overflow_add-sum g c =
    let small = c.requires.small _ c.each-sum.result (says_at g.F.Fn c.each-sum.ensures refl) in
    omega (arith, c.loop-sheet.invariant.1, small, c.requires.few, c.loop-sheet-test.true)

pub loop-sheet-preserved : goal.loop-sheet-preserved
loop-sheet-preserved g c =
    let said = says_at g.F.Fn c.each-sum.ensures refl in (
      λ w h. sheets_step w c.args.sheets.now c.loop-sheet.sheet-index c.sheet-item.result c.loop-sheet.sum c.each-sum.result c.loop-sheet-test.true c.sheet-item.is (h _ c.each-sum.result said) (c.loop-sheet.invariant.0 w h),
      omega (arith, c.loop-sheet.invariant.1, c.requires.small _ c.each-sum.result said),
    )

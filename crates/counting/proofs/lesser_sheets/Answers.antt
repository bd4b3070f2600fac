use Rattle.std.proofs.Common.{ap, ◌∙◌, arith, length-set}
use Rattle.sheet.specs.Contents.{first_of}
use Rattle.account.specs.Accounts.{opened_of}
use Rattle.node_state.specs.Nodes.{state_of}
use Rattle.counting.specs.Orders.{lesser}
use Rattle.counting.proofs.Steps.{lessers_step, lessers_end}
use Rattle.counting.proofs.lesser_sheets.Goals as goal

pub loop-i-preserved : goal.loop-i-preserved
loop-i-preserved c =
    (lessers_step c.loop-i.sheets (state_of c.args.node.now).accounts c.loop-i.i c.lesser_sheet-sheet.result.now (opened_of (first_of 0 0 0)) (omega (arith, c.loop-i.invariant.1, c.loop-i-test.true, c.many-i-end.ensures.few)) (omega (arith, c.loop-i-test.true, c.many-i-end.ensures.value)) (c.lesser_sheet-sheet.ensures ∙ ap lesser c.account-account.ensures) c.loop-i.invariant.0, length-set c.loop-i.sheets c.loop-i.i c.lesser_sheet-sheet.result.now ∙ c.loop-i.invariant.1)

pub returns : goal.returns
returns c =
    record { value = lessers_end c.loop-i.sheets (state_of c.args.node.now).accounts c.loop-i.i (omega (arith, c.loop-i-test.false, c.loop-i.auto.i-end, c.many-i-end.ensures.value)) c.loop-i.invariant.0; whole = c.loop-i.invariant.1 }

use Rattle.std.proofs.Common.{◌+◌, ◌*◌, arith}
use Rattle.digest.proofs.Steps.{rounds_none, rounds_all}
use Rattle.digest.proofs.compress.compress.Goals as goal

pub loop-i-init : goal.loop-i-init
loop-i-init c =
    c.first_rounds-v-2.ensures c.args.s 16 (omega arith)
    (c.first_rounds-v.ensures c.args.s 8 (omega arith) (rounds_none c.args.s c.args.block.now _))

pub loop-i-preserved : goal.loop-i-preserved
loop-i-preserved c =
    c.later_rounds-v.ensures c.args.block.now c.args.s (8 * (c.loop-i.i + 1)) (omega arith) c.loop-i.invariant

pub returns : goal.returns
returns c =
    rounds_all c.args.s c.args.block.now (8 * c.loop-i.i) c.loop-i.v c.added.result c.loop-i.w
    (omega (arith, c.loop-i.auto.i-end (omega arith))) c.loop-i.invariant c.added.ensures

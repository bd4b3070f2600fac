use Rattle.std.proofs.Common.{sym, arith, ◌∙◌, length-set}
use Rattle.std.proofs.lemmas.List.{take_more_set}
use Rattle.lines.proofs.Pairs.{none_before, pair_more}
use Rattle.lines.proofs.hex_into.Goals as goal

pub loop-i-init : goal.loop-i-init
loop-i-init c = (none_before _, omega arith)

pub loop-i-preserved : goal.loop-i-preserved
loop-i-preserved c = (
  pair_more c.args.pairs.now _ c.loop-i.i c.loop-i.invariant.0 _ _ _ c.loop-i-test.true (c.told-pairs c.loop-i.i c.loop-i-test.true) (sym c.in_ok-out.was ∙ c.hex_byte.ensures) (take_more_set c.loop-i.out c.loop-i.i c.in_ok-out.field-0 (omega arith)),
  length-set _ _ _ ∙ c.loop-i.invariant.1,
)

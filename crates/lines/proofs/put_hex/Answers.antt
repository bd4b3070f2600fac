use Rattle.std.proofs.Common.{◌++◌, vec_items, ap, ◌∙◌, arith}
use Rattle.std.proofs.lemmas.List.{take_all}
use Rattle.lines.specs.Lines.{hex_written}
use Rattle.lines.proofs.Pairs.{written_more}
use Rattle.lines.proofs.put_hex.Goals as goal

pub loop-b-preserved : goal.loop-b-preserved
loop-b-preserved c = (
  written_more (vec_items c.args.out.now) c.args.bytes.now _ _ _ c.loop-b.b-index _ _ c.loop-b-test.true c.loop-b.invariant.0 c.hex_code.ensures c.push_reserved.ensures.items c.hex_code-in-loop-b.ensures c.push_reserved-in-loop-b.ensures.items,
  omega arith,
  omega arith,
)

pub returns : goal.returns
returns c =
    c.loop-b.invariant.0 ∙ ap (λ bs. vec_items c.args.out.now ++ hex_written bs) (take_all c.loop-b.b-index c.args.bytes.now c.loop-b-test.false)

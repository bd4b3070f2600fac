use Rattle.std.proofs.Common.{◌≡◌, ◌/◌, ◌%◌, [], length, vec_items, sym, ◌∙◌, arith}
use Rattle.std.proofs.lemmas.Bool.{eqb-false, eqb-true}
use Rattle.lines.proofs.Pairs.{pair_none, pair_more, pair_all, pair_two, hex_odd, pairs_read}
use Rattle.lines.proofs.hex_bytes.Goals as goal

pub returns-then-not-is_empty : goal.returns-then-not-is_empty
returns-then-not-is_empty c =
    sym (hex_odd c.args.word.now (length c.args.word.now / 2) (omega (arith, eqb-false _ 0 (sym c.is_empty.ensures ∙ c.if-not-is_empty.true))))

pub returns-in_default : goal.returns-in_default
returns-in_default c =
    let even : length c.args.word.now % 2 ≡ 0 = omega (arith, eqb-true _ 0 (sym c.is_empty.ensures ∙ c.if-not-is_empty.false)) in
    let two = pair_two c.args.word.now c.as_chunks.result.0.now c.loop-pair.pair-index [] c.as_chunks.ensures.front (omega arith) in
    pair_none c.as_chunks.result.0.now (vec_items c.loop-pair.out) c.loop-pair.pair-index c.loop-pair.invariant.0 [] c.loop-pair-test.true two c.in_default.ensures
    ∙ pairs_read c.args.word.now _ c.as_chunks.ensures.front even

pub loop-pair-preserved : goal.loop-pair-preserved
loop-pair-preserved c =
    let two = pair_two c.args.word.now c.as_chunks.result.0.now c.loop-pair.pair-index [] c.as_chunks.ensures.front (omega arith) in (
      pair_more c.as_chunks.result.0.now (vec_items c.loop-pair.out) c.loop-pair.pair-index c.loop-pair.invariant.0 [] _ _ c.loop-pair-test.true two c.in-Some.ensures c.push_reserved.ensures.items,
      omega arith,
      omega arith,
    )

pub returns : goal.returns
returns c =
    let even : length c.args.word.now % 2 ≡ 0 = omega (arith, eqb-true _ 0 (sym c.is_empty.ensures ∙ c.if-not-is_empty.false)) in
    pair_all c.as_chunks.result.0.now (vec_items c.loop-pair.out) c.loop-pair.pair-index c.loop-pair.invariant.0 c.loop-pair-test.false
    ∙ pairs_read c.args.word.now _ c.as_chunks.ensures.front even

use Rattle.std.proofs.Common.{◌++◌, get_or, take, vec_items, sym, ap, ◌∙◌}
use Rattle.std.proofs.lemmas.List.{take_all, take_more, flat_map_more}
use Rattle.picture.specs.Escape.{escaped_byte, escaped}
use Rattle.picture.proofs.escape.push_escaped.Goals as goal

pub loop-b-preserved : goal.loop-b-preserved
loop-b-preserved c = (
    c.in_ok-push_byte.ensures ∙ ap (λ bs. bs ++ escaped_byte (get_or c.args.text.now c.loop-b.b-index 0)) c.loop-b.invariant
    ∙ flat_map_more escaped_byte (vec_items c.args.out.now) (take c.loop-b.b-index c.args.text.now) _
    ∙ ap (λ bs. vec_items c.args.out.now ++ escaped bs) (sym (take_more c.args.text.now c.loop-b.b-index 0 c.loop-b-test.true))
    )

pub returns : goal.returns
returns c = c.loop-b.invariant ∙ ap (λ bs. vec_items c.args.out.now ++ escaped bs) (take_all c.loop-b.b-index c.args.text.now c.loop-b-test.false)

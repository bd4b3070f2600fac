use Rattle.std.proofs.Common.{length, Err, refl, ap, ◌∙◌, arith}
use Rattle.std.proofs.lemmas.Result.{err_from_is_err_and}
use Rattle.journal.specs.Records.{whole_part}
use Rattle.journal.specs.Readings.{reach}
use Rattle.journal.proofs.Reaching.{was_whole, reach_past, reach_damaged}
use Rattle.journal.proofs.reading.whole_part.Goals as goal

pub loop-got-init : goal.loop-got-init
unfolding whole_part
loop-got-init c = (omega arith, (length c.args.bytes.now, omega arith, refl))

pub returns-in_err-got-clause-value : goal.returns-in_err-got-clause-value
returns-in_err-got-clause-value c =
    let p = err_from_is_err_and c.from_residual.result c.from_residual.ensures.1 in
    ap reach (p.1 ∙ ap (λ y. Err y) p.2) ∙ ap (λ k. Err k) c.in_err-got.ensures.place ∙ reach_damaged c.args.bytes.now c.loop-got.at _ c.loop-got.invariant.1 c.in_err-got.ensures.value

pub loop-got-preserved : goal.loop-got-preserved
loop-got-preserved c =
    reach_past c.args.bytes.now c.loop-got.at _ c.in-Some.got c.loop-got.invariant.1
    (was_whole c.args.bytes.now c.loop-got.at c.in_ok-got.field-0 c.in-Some.got c.in-Some.is c.in_ok-got.ensures.value c.in_ok-got.ensures.within c.in_ok-got.ensures.some)

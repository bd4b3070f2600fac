use Rattle.std.proofs.Common.{◌+◌, not, ◌||◌, length, Err, sym, refl, ap, ◌∙◌, subst, arith}
use Rattle.std.proofs.lemmas.Result.{err_from_is_err_and}
use Rattle.node_state.specs.Nodes.{state_of}
use Rattle.journal.specs.Readings.{record_of}
use Rattle.journal.proofs.Reaching.{was_whole}
use Rattle.replay.specs.Starts.{progress_of, GoneThrough}
use Rattle.replay.proofs.Turns.{Goes, is_damaged, goes_on, not_taken}
use Rattle.replay.proofs.replaying.go_through.Goals as goal

pub loop-node-init : goal.loop-node-init
unfolding progress_of
loop-node-init c = (omega arith, (length c.args.bytes.now, omega arith, refl))

pub returns-in_err-got-clause-value : goal.returns-in_err-got-clause-value
returns-in_err-got-clause-value c =
    let p = err_from_is_err_and c.from_residual.result c.from_residual.ensures.1 in
    subst (GoneThrough (state_of c.args.start) c.args.bytes.now) (sym (p.1 ∙ ap (λ y. Err y) p.2))
    (is_damaged c.args.bytes.now c.loop-node.whole c.loop-node.others (state_of c.loop-node.node) _ c.loop-node.invariant.1 c.in_err-got.ensures.value ∙ ap (λ k. Err k) (sym c.in_err-got.ensures.place))

pub returns-in_err-take_record-clause-value : goal.returns-in_err-take_record-clause-value
returns-in_err-take_record-clause-value c =
    let p = err_from_is_err_and c.from_residual-in_err-take_record.result c.from_residual-in_err-take_record.ensures.1 in
    let read = was_whole c.args.bytes.now c.loop-node.whole c.in_ok-got.field-0 c.in-Some.got c.in-Some.is c.in_ok-got.ensures.value c.in_ok-got.ensures.within c.in_ok-got.ensures.some in
    subst (GoneThrough (state_of c.args.start) c.args.bytes.now) (sym (p.1 ∙ ap (λ y. Err y) p.2))
    (not_taken c.args.bytes.now c.loop-node.whole c.loop-node.others (state_of c.loop-node.node) _ c.loop-node.invariant.1 (record_of c.in-Some.got.record) c.in-Some.got.used read.0 read.1 read.2
    (state_of c.args.start) c.in_err-take_record.field-0.0 (state_of c.take_record.new.node) refl c.in_err-take_record.ensures)

pub loop-node-preserved : goal.loop-node-preserved
loop-node-preserved c =
    let read = was_whole c.args.bytes.now c.loop-node.whole c.in_ok-got.field-0 c.in-Some.got c.in-Some.is c.in_ok-got.ensures.value c.in_ok-got.ensures.within c.in_ok-got.ensures.some in (
      read.1,
      subst (λ b. Goes c.args.bytes.now (c.loop-node.whole + c.in-Some.got.used) (c.loop-node.others || not b) (state_of c.take_record.new.node) (progress_of (state_of c.args.start) c.args.bytes.now)) (sym c.is_first.ensures)
          (goes_on c.args.bytes.now c.loop-node.whole c.loop-node.others (state_of c.loop-node.node) _ c.loop-node.invariant.1 (record_of c.in-Some.got.record) c.in-Some.got.used read.0 read.1 read.2
          (state_of c.take_record.new.node) c.in_ok-take_record.ensures.0 c.in_ok-take_record.ensures.1),
    )

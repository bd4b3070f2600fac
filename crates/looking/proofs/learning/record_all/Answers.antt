use Rattle.node_state.specs.Nodes.{state_of}
use Rattle.looking.specs.declared.types.Shown.TheVariants.{Dispute}
use Rattle.looking.proofs.Doing.{recorded_failed}
use Rattle.looking.proofs.Learnings.{record_failed, record_more, state_more, some_more, record_done, state_done, some_done}
use Rattle.looking.proofs.learning.record_all.Goals as goal

pub returns-in_err-some : goal.returns-in_err-some
returns-in_err-some g c =
    recorded_failed _ _ _ _ _ c.from_residual.result c.from_residual.ensures.0
    (record_failed (state_of c.args.node.now) (state_of c.loop-statement.node) (state_of c.record_new.new.node) c.args.shown.now c.loop-statement.statement-index (Dispute 0 0 0) c.loop-statement-test.true _ _ c.loop-statement.invariant.0 _ c.in_err-some.ensures)

pub loop-statement-preserved : goal.loop-statement-preserved
loop-statement-preserved g c =
    let k = c.in_ok-some.ensures in (
      record_more (state_of c.args.node.now) (state_of c.loop-statement.node) (state_of c.record_new.new.node) c.args.shown.now c.loop-statement.statement-index (Dispute 0 0 0) c.loop-statement-test.true _ _ c.loop-statement.invariant.0 k.2 (g.O.Outside.log c.record_new.new.outside) k.1,
      state_more (state_of c.args.node.now) (state_of c.loop-statement.node) (state_of c.record_new.new.node) c.args.shown.now c.loop-statement.statement-index (Dispute 0 0 0) c.loop-statement-test.true _ _ c.loop-statement.invariant.0 k.2 c.loop-statement.invariant.1,
      some_more (state_of c.args.node.now) (state_of c.loop-statement.node) (state_of c.record_new.new.node) c.args.shown.now c.loop-statement.statement-index (Dispute 0 0 0) c.loop-statement-test.true _ _ c.loop-statement.invariant.0 k.2 c.loop-statement.some c.in_ok-some.field-0 k.0 c.loop-statement.invariant.2,
    )

pub returns : goal.returns
returns g c = (
  some_done (state_of c.args.node.now) (state_of c.loop-statement.node) c.args.shown.now c.loop-statement.statement-index c.loop-statement-test.false c.loop-statement.some c.loop-statement.invariant.2,
  record_done (state_of c.args.node.now) (state_of c.loop-statement.node) c.args.shown.now c.loop-statement.statement-index c.loop-statement-test.false _ _ c.loop-statement.invariant.0,
  state_done (state_of c.args.node.now) (state_of c.loop-statement.node) c.args.shown.now c.loop-statement.statement-index c.loop-statement-test.false c.loop-statement.invariant.1,
)

use Rattle.outcome.specs.Acts.{shown_key}
use Rattle.looking.proofs.Doing.{left_stopped, each_more, each_done, did_failed}
use Rattle.looking.proofs.showing.show_keys.Goals as goal

pub returns-in_err-show_key : goal.returns-in_err-show_key
returns-in_err-show_key g c =
    did_failed _ _ _ c.from_residual.result c.from_residual.ensures.0 (left_stopped _ _ _ _ _ c.loop-key.invariant c.in_err-show_key.ensures)

pub loop-key-preserved : goal.loop-key-preserved
loop-key-preserved g c =
    each_more (shown_key c.args.i) c.args.keys.now _ _ _ c.loop-key.key-index _ _ c.loop-key-test.true c.loop-key.invariant c.in_ok-show_key.ensures

pub returns : goal.returns
returns g c =
    each_done (shown_key c.args.i) c.args.keys.now _ _ _ c.loop-key.key-index c.loop-key-test.false c.loop-key.invariant

use Rattle.node_state.specs.Nodes.{state_of}
use Rattle.looking.proofs.Wholes.{learn_failed, show_failed, look_taken_lem}
use Rattle.looking.proofs.take.Goals as goal

pub returns-in_err-learn : goal.returns-in_err-learn
returns-in_err-learn g c =
    learn_failed (state_of c.args.node.now) c.args.tick c.args.shown.now _ _ _ c.from_residual.result c.from_residual.ensures.0 c.in_err-learn.ensures

pub returns-in_err-show_all : goal.returns-in_err-show_all
returns-in_err-show_all g c =
    show_failed (state_of c.args.node.now) c.args.tick c.args.shown.now _ (state_of c.learn.new.node) _ c.in_ok-learn.ensures.0 c.in_ok-learn.ensures.1 _ _ c.from_residual-in_err-show_all.result c.from_residual-in_err-show_all.ensures.0 c.in_err-show_all.ensures

pub returns : goal.returns
returns g c =
    look_taken_lem (state_of c.args.node.now) c.args.tick c.args.shown.now _ (state_of c.learn.new.node) _ c.in_ok-learn.ensures.0 c.in_ok-learn.ensures.1 _ _ c.in_ok-show_all.ensures c.note_look.ensures

use Rattle.std.proofs.Common.{◌∙◌}
use Rattle.node_state.specs.Nodes.{state_of}
use Rattle.looking.specs.Looking.{new_keys}
use Rattle.looking.proofs.Doing.{became_failed}
use Rattle.looking.proofs.Learnings.{keys_failed, sync_failed, sync_done, synced_state}
use Rattle.looking.proofs.learning.learn.Goals as goal

pub returns-in_err-record_all : goal.returns-in_err-record_all
returns-in_err-record_all g c =
    became_failed _ _ _ _ _ c.from_residual.result c.from_residual.ensures.0
    (keys_failed (new_keys (state_of c.args.node.now) c.args.shown.now) _ _ c.in_err-record_all.ensures)

pub returns-in_err-sync : goal.returns-in_err-sync
returns-in_err-sync g c =
    became_failed _ _ _ _ _ c.from_residual-in_err-sync.result c.from_residual-in_err-sync.ensures.0
    (sync_failed (new_keys (state_of c.args.node.now) c.args.shown.now) _ _ _ c.in_ok-record_all.ensures.1 (cc (c.in_ok-record_all.ensures.0)) c.in_err-sync.ensures)

pub returns : goal.returns
returns g c = (
  sync_done (new_keys (state_of c.args.node.now) c.args.shown.now) _ _ _ c.in_ok-record_all.ensures.1 (cc (c.in_ok-record_all.ensures.0)) c.in_ok-sync.ensures,
  c.in_ok-record_all.ensures.2 ∙ synced_state (new_keys (state_of c.args.node.now) c.args.shown.now) (state_of c.args.node.now),
)

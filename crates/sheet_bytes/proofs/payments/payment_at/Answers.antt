use Rattle.sheet_bytes.proofs.FortyBytes.{payment_at}
use Rattle.sheet_bytes.proofs.payments.payment_at.Goals as goal

pub returns : goal.returns
returns c = payment_at c.args.bytes.now c.args.at _ _ _ c.lock_at.ensures c.number_at.ensures c.number_at-2.ensures

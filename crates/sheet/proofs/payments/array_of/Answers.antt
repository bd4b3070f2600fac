use Rattle.sheet.proofs.Shifts.{put_whole}
use Rattle.sheet.proofs.payments.array_of.Goals as goal

pub returns : goal.returns
returns c = put_whole 32 c.args.list.now c.copy_from_slice.new.self _ c.if-list-gt32.false c.copy_from_slice.ensures.after

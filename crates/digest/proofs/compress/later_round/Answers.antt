use Rattle.std.proofs.Common.{arith}
use Rattle.digest.proofs.Steps.{round_more, later_word}
use Rattle.digest.proofs.compress.later_round.Goals as goal

pub returns : goal.returns
returns c block before n more at =
    round_more before block c.args.t n c.args.s c.round.result c.args.w.now c.next_word-x.result
    c.constant.result (omega arith) (omega arith) more at
    (later_word block c.args.w.now c.args.t c.next_word-x.result (omega arith) c.next_word-x.ensures)
    c.constant.ensures c.round.ensures

use Rattle.std.proofs.Common.{arith}
use Rattle.digest.proofs.Steps.{round_more, first_word}
use Rattle.digest.proofs.compress.first_round.Goals as goal

pub returns : goal.returns
returns c before n more at =
    round_more before c.args.block.now c.args.t n c.args.s c.round.result c.args.w.now
    c.word-x.result c.constant.result (omega arith) (omega arith) more at
    (first_word c.args.block.now c.args.w.now c.args.t c.word-x.result (omega arith) c.word-x.ensures)
    c.constant.ensures c.round.ensures

use Rattle.std.proofs.Common.{◌+◌, arith}
use Rattle.digest.proofs.compress.later_rounds.Goals as goal

pub returns : goal.returns
returns c block before n more at =
    let s1 = c.later_round-s.ensures block before (c.args.t + 1) (omega arith) at in
    let s2 = c.later_round-s-2.ensures block before (c.args.t + 2) (omega arith) s1 in
    let s3 = c.later_round-s-3.ensures block before (c.args.t + 3) (omega arith) s2 in
    let s4 = c.later_round-s-4.ensures block before (c.args.t + 4) (omega arith) s3 in
    let s5 = c.later_round-s-5.ensures block before (c.args.t + 5) (omega arith) s4 in
    let s6 = c.later_round-s-6.ensures block before (c.args.t + 6) (omega arith) s5 in
    let s7 = c.later_round-s-7.ensures block before (c.args.t + 7) (omega arith) s6 in
    c.later_round.ensures block before n (omega arith) s7

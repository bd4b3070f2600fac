use Rattle.std.proofs.Common.{◌+◌, arith}
use Rattle.digest.proofs.compress.first_rounds.Goals as goal

pub returns : goal.returns
returns c before n more at =
    let s1 = c.first_round-s.ensures before (c.args.t + 1) (omega arith) at in
    let s2 = c.first_round-s-2.ensures before (c.args.t + 2) (omega arith) s1 in
    let s3 = c.first_round-s-3.ensures before (c.args.t + 3) (omega arith) s2 in
    let s4 = c.first_round-s-4.ensures before (c.args.t + 4) (omega arith) s3 in
    let s5 = c.first_round-s-5.ensures before (c.args.t + 5) (omega arith) s4 in
    let s6 = c.first_round-s-6.ensures before (c.args.t + 6) (omega arith) s5 in
    let s7 = c.first_round-s-7.ensures before (c.args.t + 7) (omega arith) s6 in
    c.first_round.ensures before n (omega arith) s7

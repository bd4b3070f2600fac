use Rattle.std.proofs.Common.{◌≡◌, ℕ, ap, ◌∙◌, arith}
use Rattle.moments.specs.Moments.{sum_to}
use Rattle.counting.specs.Deposits.{own_first}
use Rattle.counting.proofs.Steps.{sum_step}
use Rattle.counting.proofs.deposits.deposits.Goals as goal

pub loop-i-preserved : goal.loop-i-preserved
loop-i-preserved c =
    (sum_step (own_first c.args.bytes.now) c.loop-i.i c.loop-i.sum _ (c.from-sum.ensures ∙ c.unwrap_or.ensures ∙ c.own_of.ensures) c.loop-i.invariant.0, omega (arith, c.loop-i.invariant.1, c.from-sum.ensures, c.unwrap_or.type_inv))

pub returns : goal.returns
returns c =
    let all : ◌≡◌ {A = ℕ} c.loop-i.i c.many-i-end.result = omega (arith, c.loop-i-test.false, c.loop-i.auto.i-end) in
    record {
      value = c.loop-i.invariant.0 ∙ ap (λ (k : ℕ). sum_to k (own_first c.args.bytes.now)) (all ∙ c.many-i-end.ensures.value);
      bound = omega (arith, c.loop-i.invariant.1, c.loop-i-test.false, c.loop-i.auto.i-end, c.many-i-end.ensures.few);
    }

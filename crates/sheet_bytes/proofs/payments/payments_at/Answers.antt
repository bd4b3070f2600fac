use Rattle.std.proofs.Common.{◌≡◌, ◌+◌, ◌-◌, ◌*◌, ◌/◌, length, take, drop, ap, ◌∙◌, arith}
use Rattle.std.proofs.lemmas.List.{length-set, length-take, length-drop}
use Rattle.std.specs.Simd.{first_chunks}
use Rattle.sheet_bytes.proofs.FortyBytes.{payments_more, payment_of_chunk}
use Rattle.sheet_bytes.proofs.payments.payments_at.Goals as goal

pub loop-i-preserved : goal.loop-i-preserved
loop-i-preserved c =
    let bytes = c.args.bytes.now in
    let at = c.args.at in
    let count = c.args.count in
    let size : at + 40 * count - at ≡ 40 * count = omega arith in
    let long : length (take (at + 40 * count - at) (drop at bytes)) / 40 ≡ count = simp (length-take, length-drop) (omega arith) in
    let forties = c.as_chunks.ensures.front ∙ ap (λ n. first_chunks 40 n (take (at + 40 * count - at) (drop at bytes))) long ∙ ap (λ n. first_chunks 40 count (take n (drop at bytes))) size in (
      length-set c.loop-i.list c.loop-i.i c.payment_at.result ∙ c.loop-i.invariant.0,
      payments_more bytes at c.loop-i.i c.loop-i.list c.payment_at.result (omega arith) c.loop-i.invariant.1 (c.payment_at.ensures ∙ payment_of_chunk bytes at count c.loop-i.i c.as_chunks.result.0.now (omega arith) forties),
    )

use Rattle.std.proofs.Common.{◌-◌, ◌*◌, ◌/◌, ◌++◌, length, take, refl, ap, ◌∙◌}
use native.Mathlib.Nat.{sub-zero}
use Rattle.std.proofs.lemmas.List.{take_rest}
use Rattle.digest.specs.Sha256.{absorbed, padding}
use Rattle.digest.proofs.Blocks.{hashed_end}
use Rattle.digest.proofs.padding.finish.Goals as goal

pub returns : goal.returns
returns c =
    let m = c.args.message.now in
    let end = c.write_end-end.result in
    let z = take (end - 0) c.write_end-end.new.last in
    c.absorb.ensures ∙ ap (λ s. absorbed (length z / 64) s z) c.requires
    ∙ hashed_end m (length m / 64) z refl
    (ap (λ k. take k c.write_end-end.new.last) (sub-zero end) ∙ c.write_end-end.ensures.value
    ∙ ap (λ v. v ++ padding (length m)) (take_rest m (64 * (length m / 64))))

use Rattle.std.proofs.Common.{◌≡◌}
use Rattle.digest.specs.Sha256.{absorbed}
use Rattle.digest.proofs.compress.absorb.Given as goal

abbrev pub invariant-loop-block : goal.invariant-loop-block
invariant-loop-block l = l.s ≡ absorbed l.block-index l.initial.s l.fn.bytes

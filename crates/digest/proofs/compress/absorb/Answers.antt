use Rattle.std.proofs.Common.{◌≡◌, ◌/◌, [], length, get_or, ap, ◌∙◌, arith}
use Rattle.digest.specs.Sha256.{absorbed, block_at}
use Rattle.digest.proofs.Blocks.{absorbed_none, absorbed_more, chunk_at}
use Rattle.digest.proofs.compress.absorb.Goals as goal

pub loop-block-init : goal.loop-block-init
loop-block-init c = absorbed_none c.args.s c.args.bytes.now

pub loop-block-preserved : goal.loop-block-preserved
loop-block-preserved c =
    let i = c.loop-block.block-index in
    let m = c.args.bytes.now in
    let block : get_or c.as_chunks.result.0.now i [] ≡ block_at m i =
    ap (λ bs. get_or bs i []) c.as_chunks.ensures.front ∙ chunk_at 64 (length m / 64) m i [] (omega arith)
    in
    absorbed_more i c.args.s c.loop-block.s c.compress-s.result m _ c.loop-block.invariant block c.compress-s.ensures

pub returns : goal.returns
returns c =
    let all : c.loop-block.block-index ≡ length c.args.bytes.now / 64 = omega arith in
    c.loop-block.invariant ∙ ap (λ k. absorbed k c.args.s c.args.bytes.now) all

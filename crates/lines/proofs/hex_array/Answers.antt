use Rattle.std.proofs.Common.{◌≡◌, ◌%◌, length, Some, None, sym, arith, ◌∙◌}
use Rattle.std.proofs.lemmas.Bool.{eqb-true}
use Rattle.std.specs.List.{concat}
use Rattle.lines.specs.Lines.{hex_read}
use Rattle.lines.proofs.Pairs.{pairs_exact}
use Rattle.lines.proofs.hex_array.Goals as goal

pub returns-in_err-hex_into-clause-value : goal.returns-in_err-hex_into-clause-value
returns-in_err-hex_into-clause-value g c =
    let even : length c.args.word.now % 2 ≡ 0 = omega (arith, eqb-true _ 0 (sym c.is_empty.ensures ∙ c.if-not-is_empty.false)) in
    let read : None ≡ hex_read (concat c.as_chunks.result.0.now) = rw c.in_err-hex_into.was at c.hex_into.ensures.value in
    c.from_residual.ensures ∙ read ∙ pairs_exact _ c.args.word.now _ c.as_chunks.ensures.front even (omega arith)

pub returns-clause-value : goal.returns-clause-value
returns-clause-value g c =
    let even : length c.args.word.now % 2 ≡ 0 = omega (arith, eqb-true _ 0 (sym c.is_empty.ensures ∙ c.if-not-is_empty.false)) in
    let read : Some c.hex_into.new.out ≡ hex_read (concat c.as_chunks.result.0.now) = rw c.in_ok-hex_into.was at c.hex_into.ensures.value in
    read ∙ pairs_exact _ c.args.word.now _ c.as_chunks.ensures.front even (omega arith)

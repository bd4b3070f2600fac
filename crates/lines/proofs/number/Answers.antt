use Rattle.std.proofs.Common.{sym, ◌∙◌, rules}
use Rattle.lines.proofs.Decimals.{digits_stop, digits_more, capped_more, read_empty, read_none}
use Rattle.lines.proofs.number.Goals as goal

pub returns-then-is_empty : goal.returns-then-is_empty
returns-then-is_empty c = read_empty c.args.word.now (search rules)

pub returns-then-not-is_ascii_digit : goal.returns-then-not-is_ascii_digit
returns-then-not-is_ascii_digit c =
    read_none c.args.word.now (digits_stop c.args.word.now _ c.loop-b.invariant.0 c.loop-b-test.true (sym c.if-not-is_ascii_digit.ensures.value))

pub loop-b-preserved : goal.loop-b-preserved
loop-b-preserved c = (
  digits_more c.args.word.now _ c.loop-b.invariant.0 c.loop-b-test.true (sym c.if-not-is_ascii_digit.ensures.value),
  c.min-value.ensures ∙ capped_more c.args.word.now _ _ 4294967296 c.loop-b-test.true c.loop-b.invariant.1,
)

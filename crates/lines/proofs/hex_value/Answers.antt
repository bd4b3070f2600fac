use Rattle.lines.proofs.Pairs.{table_digit}
use Rattle.lines.proofs.hex_value.Goals as goal

pub returns : goal.returns
returns c = table_digit c.args.b c.if-b-lt48.false c.if-b-gt102.false

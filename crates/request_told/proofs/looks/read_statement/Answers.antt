use Rattle.std.proofs.Common.{rules}
use Rattle.request_told.proofs.Statements.{too_many}
use Rattle.request_told.proofs.looks.read_statement.Goals as goal

pub returns-then-is_some : goal.returns-then-is_some
returns-then-is_some c = search (rules, too_many)

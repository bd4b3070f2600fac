use Rattle.promise_told.proofs.Files.{file_tells}
use Rattle.promise_told.proofs.file_tells_stands.Goals as goal

pub returns : goal.returns
returns c = file_tells

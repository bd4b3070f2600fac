use Rattle.digest.proofs.Vectors.{digest_of_abc, digest_of_empty, digest_of_two_blocks}
use Rattle.digest.proofs.vectors_stand.Goals as goal

pub returns : goal.returns
returns c = record { abc = digest_of_abc; empty = digest_of_empty; two_blocks = digest_of_two_blocks }

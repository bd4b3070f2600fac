use Rattle.std.proofs.Common.{rules}
use Rattle.any_request.proofs.Pairs.{pair_is}
use Rattle.any_request.proofs.messages.read_pair.Goals as goal

pub returns-in_ok-read_signature-in-1-eq2 : goal.returns-in_ok-read_signature-in-1-eq2
returns-in_ok-read_signature-in-1-eq2 c =
    pair_is _ _ c.args.sheet.now c.args.signature.now (search rules) (search rules) (search rules) (search rules) c.in_ok-read_proposed-in-1-eq2.ensures c.in_ok-read_signature-in-1-eq2.ensures

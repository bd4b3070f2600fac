use Rattle.std.proofs.Common.{◌≡◌, length, arith, take, sym, ◌∙◌}
use Rattle.std.proofs.lemmas.List.{length-take-le}
use Rattle.sheet.proofs.Searches.{removed_at, removed_nowhere}
use Rattle.sheet.proofs.Shifts.{take_off}
use Rattle.sheet.proofs.payments.removed.Goals as goal

pub returns-in_default-clause-value : goal.returns-in_default-clause-value
returns-in_default-clause-value c = removed_nowhere c.args.lock.now (take c.args.count c.args.list) (sym c.place.ensures ∙ c.in_default.is)

pub returns-clause-value : goal.returns-clause-value
returns-clause-value c =
    let found = removed_at c.args.lock.now (take c.args.count c.args.list) c.in-Some.at (sym c.place.ensures ∙ c.in-Some.is) in
    let long : length (take c.args.count c.args.list) ≡ c.args.count = length-take-le c.args.count c.args.list (omega arith) in
    take_off c.args.count c.in-Some.at c.args.list _ (omega arith) (omega (arith, found.0)) c.copy_from_slice.ensures.after ∙ found.1

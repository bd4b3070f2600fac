use Rattle.std.proofs.Common.{◌≡◌, ◌<◌, ◌≤◌, true, ◌∷◌, [], ◌++◌, length, slice_index, set, sym, subst, ap, ◌∙◌, arith}
use Rattle.std.proofs.lemmas.Grind.{get_or_default_zero}
use Rattle.lockmap.specs.Buckets.{all_in_order, held}
use Rattle.lockmap.proofs.Holding.{held_opened}
use Rattle.lockmap.proofs.Ordered.{ordered_pushed}
use Rattle.lockmap.proofs.buckets.open.Goals as goal

pub returns-clause-lawful : goal.returns-clause-lawful
returns-clause-lawful g c = subst (λ bs. all_in_order bs ≡ true) (sym c.in_ok-push.ensures.items) (ordered_pushed c.args.buckets.now.items c.new.result c.requires.lawful c.new.ensures.empty)

pub returns-clause-holds : goal.returns-clause-holds
returns-clause-holds g c =
    let ps = c.args.places.now.items in
    let bs = c.args.buckets.now.items in
    let within : c.args.place < length ps = omega (arith, c.requires.within, c.args.places.now.ok.0) in
    let read : c.index.result.now ≡ slice_index ps c.args.place = c.index.ensures ∙ get_or_default_zero ps c.args.place c.index.result.now within in
    let many : c.len-many.result ≡ length bs = omega (arith, c.len-many.ensures, c.args.buckets.now.ok.0) in
    let past : length bs ≤ slice_index ps c.args.place = omega (arith, read, many, c.from.ensures, c.if-from-many.false) in
    λ l.
    ap (λ xs. held (set ps c.args.place c.len-many.result) xs l) c.in_ok-push.ensures.items
    ∙ (ap (λ n. held (set ps c.args.place n) (bs ++ c.new.result ∷ []) l) many
    ∙ held_opened ps bs c.new.result c.args.place c.new.ensures.empty within past l)

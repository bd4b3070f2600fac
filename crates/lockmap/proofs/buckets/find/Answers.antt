use Rattle.std.proofs.Common.{◌≡◌, ◌<◌, ◌≤◌, length, slice_index, Some, refl, sym, ap, ◌∙◌, arith, ltb-true, ltb-false}
use Rattle.std.proofs.lemmas.Grind.{get_or_default_zero}
use Rattle.std.proofs.lemmas.Option.{slice_get_read}
use Rattle.std.specs.List.{slice_get}
use Rattle.lockmap.specs.Buckets.{number_of}
use Rattle.lockmap.proofs.Holding.{held_at, held_past}
use Rattle.lockmap.proofs.buckets.find.Goals as goal

pub returns-in_err-get : goal.returns-in_err-get
returns-in_err-get g c =
    let ps = c.args.places.now.items in
    let bs = c.args.buckets.now.items in
    let within : c.args.place < length ps = omega (arith, c.requires.within, c.args.places.now.ok.0) in
    let number : c.from.result ≡ number_of ps c.args.lock.now = c.from.ensures ∙ (c.index.ensures ∙ (get_or_default_zero ps c.args.place c.index.result.now within ∙ ap (slice_index ps) c.requires.place)) in
    let past = ltb-false c.from.result (length c.deref.result.now) (sym c.in_err-get.ensures.lookup.0) in
    let beyond : length bs ≤ number_of ps c.args.lock.now = omega (arith, number, past, ap length c.deref.ensures.value) in
    c.from_residual.ensures ∙ sym (held_past ps bs c.args.lock.now beyond)

pub returns : goal.returns
returns g c =
    let ps = c.args.places.now.items in
    let bs = c.args.buckets.now.items in
    let i = c.from.result in
    let b = c.in_ok-get.field-0.now in
    let within : c.args.place < length ps = omega (arith, c.requires.within, c.args.places.now.ok.0) in
    let number : i ≡ number_of ps c.args.lock.now = c.from.ensures ∙ (c.index.ensures ∙ (get_or_default_zero ps c.args.place c.index.result.now within ∙ ap (slice_index ps) c.requires.place)) in
    let there = ltb-true i (length c.deref.result.now) (sym c.in_ok-get.ensures.lookup.0) in
    let here : slice_get bs i ≡ Some b = ap (λ xs. slice_get xs i) (sym c.deref.ensures.value) ∙ slice_get_read c.deref.result.now (length c.deref.result.now) i b refl there c.in_ok-get.ensures.lookup.1 in
    c.copied.ensures ∙ (c.get-2.ensures.value ∙ sym (held_at ps bs i b c.args.lock.now here number))

use Rattle.std.proofs.Common.{◌≡◌, ◌<◌, length, vec_len, slice_index, ap, ◌∙◌, arith}
use Rattle.std.proofs.lemmas.Grind.{get_or_default_zero}
use Rattle.std.proofs.lemmas.Option.{slice_get_read}
use Rattle.lockmap.specs.Buckets.{number_of}
use Rattle.lockmap.proofs.Holding.{held_inserted, old_inserted, count_inserted}
use Rattle.lockmap.proofs.Ordered.{ordered_set}
use Rattle.lockmap.proofs.buckets.put_in.Goals as goal

pub returns : goal.returns
returns g c =
    let ps = c.args.places.now.items in
    let v = c.args.buckets.now in
    let i = c.from.result in
    let b = c.index_mut.result.now in
    let n = c.insert.new.self in
    let done = c.insert.ensures in
    let within : c.args.place < length ps = omega (arith, c.requires.within, c.args.places.now.ok.0) in
    let read : i ≡ slice_index ps c.args.place = c.from.ensures ∙ (c.index.ensures ∙ get_or_default_zero ps c.args.place c.index.result.now within) in
    let number : i ≡ number_of ps c.args.lock = read ∙ ap (slice_index ps) c.requires.place in
    let there : i < vec_len v = omega (arith, read, c.requires.there) in
    let here = slice_get_read v.items (vec_len v) i b v.ok.0 there c.index_mut.ensures.value in
    record {
      lawful = ordered_set v.items i n c.requires.lawful done.ordered;
      old = old_inserted ps v.items i b c.args.lock c.insert.result here number done.old;
      counted = count_inserted ps v.items i b n c.args.lock c.insert.result here number done.old done.len done.err;
      places = held_inserted ps v.items i b n c.args.lock c.args.value c.insert.result here number done.updates done.err;
    }

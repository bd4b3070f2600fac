use Rattle.std.proofs.Common.{ap, sym, ◌∙◌}
use Rattle.lockmap.specs.Buckets.{held, all_len}
use Rattle.lockmap.proofs.Holding.{held_nowhere}
use Rattle.lockmap.proofs.Ordered.{ordered_none}
use Rattle.lockmap.proofs.map.LockMap.new.Goals as goal

pub invariant_of-result : goal.invariant_of-result
invariant_of-result g c = record { full = c.in_ok-places.ensures; lawful = ordered_none c.new.result.items c.new.ensures.items; counted = sym (ap (λ bs. all_len bs) c.new.ensures.items) }

pub returns-clause-empty : goal.returns-clause-empty
returns-clause-empty g c = λ l. ap (λ bs. held c.in_ok-places.places.items bs l) c.new.ensures.items ∙ held_nowhere c.in_ok-places.places.items l

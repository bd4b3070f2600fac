-- What a map of locks has. Assumes nothing.
--     lookup m l        what the map m has for the lock l
--     count m           how many locks it has
--     with_at f k v      what f has for each lock, but v for the lock k
use Rattle.std.specs.Prelude.{ℕ, cond, List, Some, vec_items, Option}
use Rattle.std.specs.Str.{bytes_eq}
use Rattle.lockmap.specs.declared.map.LockMap.{LockMap}
use Rattle.lockmap.specs.Buckets.{held, all_len}

module _ {V : Type 0} where
  abbrev pub lookup : LockMap V → List ℕ → Option V
  lookup m = held (vec_items m.places) (vec_items m.buckets)

  -- `new` gives 0, and an insert of a lock that is not there adds 1
  abbrev pub count : LockMap V → ℕ
  count m = all_len (vec_items m.buckets)

  abbrev pub with_at : (List ℕ → Option V) → List ℕ → V → List ℕ → Option V
  with_at f k v l = cond (bytes_eq l k) (Some v) (f l)

-- What the buckets of a map of locks hold. Assumes nothing.
--     bucket_of l           the bucket that the lock l belongs to
--     in_order b            whether the locks of the bucket b are sorted, with a value each
--     all_in_order bs        the same of every bucket
--     within b l           what the bucket b, where there is one, has for the lock l
--     number_of ps l       the number of the lock's bucket among those that are made, by the places ps; where it is none of
--                          theirs, the bucket isn't made yet
--     held ps bs l         what the buckets bs that are made have for the lock l, by the places ps
--     all_len bs           how many locks the buckets bs have
use Rattle.std.specs.Prelude.{ℕ, ◌+◌, ◌*◌, ◌/◌, Bool, ◌&&◌, List, length, Some, None, Option, ◌==◌, slice_index}
use Rattle.std.specs.BTreeMap.{BTreeMap, keys, values, get, btree_map_len}
use Rattle.std.specs.FinMap.{is_sorted}
use Rattle.std.specs.List.{slice_get, list_all, sum_by}
use Rattle.std.specs.Ordering.{nat_cmp}
use Rattle.std.specs.Cmp.Lexicographic.{slice_cmp}

-- the first 12 bits
abbrev pub bucket_of : List ℕ → ℕ
bucket_of l = slice_index l 0 * 16 + slice_index l 1 / 16

abbrev pub number_of : List ℕ → List ℕ → ℕ
number_of ps l = slice_index ps (bucket_of l)

module _ {V : Type 0} where
  abbrev pub in_order : BTreeMap (List ℕ) V → Bool
  in_order b = length (values b) == length (keys b) && is_sorted (slice_cmp nat_cmp) b.entries

  unfoldable pub all_in_order : List (BTreeMap (List ℕ) V) → Bool
  all_in_order bs = list_all in_order bs

  abbrev pub within : Option (BTreeMap (List ℕ) V) → List ℕ → Option V
  within None l = None
  within (Some b) l = get (slice_cmp nat_cmp) b l

  unfoldable pub held : List ℕ → List (BTreeMap (List ℕ) V) → List ℕ → Option V
  held ps bs l = within (slice_get bs (number_of ps l)) l

  abbrev pub all_len : List (BTreeMap (List ℕ) V) → ℕ
  all_len bs = sum_by btree_map_len bs

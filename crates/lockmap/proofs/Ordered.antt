-- That buckets are in order: one whose locks ascend, as std says of every map, after one is put back, and empty ones.
use Rattle.std.proofs.Common.{◌≡◌, ℕ, zero, suc, true, eqb, List, [], ◌∷◌, ◌++◌, length, set, Less, sym, ap, refl, subst, ◌∙◌}
use Rattle.std.proofs.lemmas.List.{length-map}
use Rattle.std.proofs.lemmas.Bool.{and_parts, and_from, eq-eqb}
use Rattle.std.specs.BTreeMap.{BTreeMap, keys, values, IsOrdered, IsEmpty}
use Rattle.std.specs.Cmp.Lexicographic.{slice_cmp}
use Rattle.std.specs.FinMap.{is_sorted}
use Rattle.std.specs.FinMap.Entries.{below_all}
use Rattle.std.specs.List.{AllByRecursion}
use Rattle.std.specs.List.Sorted.{IsStrictlySortedBy}
use Rattle.std.specs.Map.{keys_of}
use Rattle.std.specs.Ordering.{is_lt, nat_cmp}
use Rattle.lockmap.specs.Buckets.{in_order, all_in_order}

module _ {V : Type 0} where
  below_from_all : (k : List ℕ) (es : List (List ℕ × V)) → AllByRecursion (λ l. slice_cmp nat_cmp k l ≡ Less) (keys_of es) → below_all (slice_cmp nat_cmp) k es ≡ true
  below_from_all k [] h = refl
  below_from_all k (e ∷ es) h = and_from (is_lt (slice_cmp nat_cmp k e.0)) (below_all (slice_cmp nat_cmp) k es) (ap is_lt h.0) (below_from_all k es h.1)

  sorted_from_ordered : (es : List (List ℕ × V)) → IsStrictlySortedBy (slice_cmp nat_cmp) (keys_of es) → is_sorted (slice_cmp nat_cmp) es ≡ true
  unfolding IsStrictlySortedBy
  sorted_from_ordered [] h = refl
  sorted_from_ordered (e ∷ es) h = and_from (below_all (slice_cmp nat_cmp) e.0 es) (is_sorted (slice_cmp nat_cmp) es) (below_from_all e.0 es h.0) (sorted_from_ordered es h.1)

  pub to_in_order : (b : BTreeMap (List ℕ) V) → IsOrdered (slice_cmp nat_cmp) b → in_order b ≡ true
  to_in_order b h =
      and_from (eqb (length (values b)) (length (keys b))) (is_sorted (slice_cmp nat_cmp) b.entries)
      (eq-eqb (length (values b)) (length (keys b)) (length-map b.entries (λ e. e.1) ∙ sym (length-map b.entries (λ e. e.0)))) (sorted_from_ordered b.entries h)

  pub ordered_set : (bs : List (BTreeMap (List ℕ) V)) (i : ℕ) (b : BTreeMap (List ℕ) V) → all_in_order bs ≡ true → IsOrdered (slice_cmp nat_cmp) b → all_in_order (set bs i b) ≡ true
  unfolding all_in_order
  ordered_set [] i b h o = refl
  ordered_set (x ∷ xs) zero b h o = and_from (in_order b) (all_in_order xs) (to_in_order b o) (and_parts (in_order x) (all_in_order xs) h).1
  ordered_set (x ∷ xs) (suc i) b h o =
      let p = and_parts (in_order x) (all_in_order xs) h in
      and_from (in_order x) (all_in_order (set xs i b)) p.0 (ordered_set xs i b p.1 o)

  ordered_empty : (b : BTreeMap (List ℕ) V) → IsEmpty b → IsOrdered (slice_cmp nat_cmp) b
  unfolding IsStrictlySortedBy
  ordered_empty b h = subst (λ es. IsStrictlySortedBy (slice_cmp nat_cmp) (keys_of es)) (sym h) tt

  pub ordered_none : (bs : List (BTreeMap (List ℕ) V)) → bs ≡ [] → all_in_order bs ≡ true
  unfolding all_in_order
  ordered_none bs h = subst (λ xs. all_in_order xs ≡ true) (sym h) refl

  pub ordered_pushed : (bs : List (BTreeMap (List ℕ) V)) (b : BTreeMap (List ℕ) V) → all_in_order bs ≡ true → IsEmpty b → all_in_order (bs ++ b ∷ []) ≡ true
  unfolding all_in_order
  ordered_pushed [] b h e = and_from (in_order b) true (to_in_order b (ordered_empty b e)) refl
  ordered_pushed (x ∷ xs) b h e =
      let p = and_parts (in_order x) (all_in_order xs) h in
      and_from (in_order x) (all_in_order (xs ++ b ∷ [])) p.0 (ordered_pushed xs b p.1 e)

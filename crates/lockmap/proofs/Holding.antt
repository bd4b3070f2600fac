-- What buckets hold: where none is made, after one is made, and after a change of one.
use Rattle.std.proofs.Common.{◌≡◌, ℕ, zero, suc, ◌+◌, ◌<◌, ◌≤◌, Bool, true, false, cond, eqb, List, [], ◌∷◌, ◌++◌, length, slice_index, subst, get_or, set, is_ok, is_some, IfOk, OnOk, OnErr, Some, None, Ok, Err, Option, Result, sym, refl, ap, ◌∙◌, arith}
use mathlib.Core.Path.{fun_ext}
use Rattle.std.proofs.lemmas.Slice.Eq.{bytes_eq-Decides}
use Rattle.std.proofs.lemmas.Bool.{eqb-true, eqb-false, cond-false}
use Rattle.std.proofs.lemmas.List.{get_or-set_same, get_or-set_other}
use Rattle.std.proofs.lemmas.Bool.Decides.{same_from_decides}
use Rattle.std.proofs.lemmas.List.Sums.{sum_by_push, sum_by-set}
use Rattle.std.proofs.lemmas.Map.Text.{is_eq-slice_cmp}
use Rattle.std.proofs.lemmas.Option.{get_or_from_slice_get, slice_get_within, slice_get_past}
use Rattle.std.specs.BTreeMap.{BTreeMap, get, btree_map_len, IsEmpty, IsUnchanged, Updates}
use Rattle.std.specs.Cmp.Lexicographic.{slice_cmp}
use Rattle.std.specs.List.{slice_get}
use Rattle.std.specs.Map.{lookup}
use Rattle.std.specs.Ordering.{is_eq, nat_cmp}
use Rattle.std.specs.Str.{bytes_eq}
use Rattle.lockmap.specs.Buckets.{bucket_of, number_of, within, held, all_len}
use Rattle.lockmap.specs.Maps.{with_at}

-- that two locks are equal, as a bucket asks and as `with_at` does
tied_is : (k l : List ℕ) → is_eq (slice_cmp nat_cmp k l) ≡ bytes_eq l k
tied_is k l =
    let there = bytes_eq-Decides k l in
    is_eq-slice_cmp k l ∙ same_from_decides (bytes_eq k l) (bytes_eq l k) (λ e. sym (there.0 e), λ e. there.1 (sym e)) (bytes_eq-Decides l k)

module _ {X : Type 0} where
  nth_set_same : (xs : List X) (i : ℕ) (x y : X) → slice_get xs i ≡ Some x → slice_get (set xs i y) i ≡ Some y
  nth_set_same [] i x y h = let z : ◌≡◌ {A = ℕ} 0 1 = cc in absurd (omega arith)
  nth_set_same (w ∷ ws) zero x y h = refl
  nth_set_same (w ∷ ws) (suc i) x y h = nth_set_same ws i x y h

  nth_set_other : (xs : List X) (i j : ℕ) (y : X) → (j ≡ i → ⊥) → slice_get (set xs i y) j ≡ slice_get xs j
  nth_set_other [] i j y n = refl
  nth_set_other (w ∷ ws) zero zero y n = absurd (n refl)
  nth_set_other (w ∷ ws) zero (suc j) y n = refl
  nth_set_other (w ∷ ws) (suc i) zero y n = refl
  nth_set_other (w ∷ ws) (suc i) (suc j) y n = nth_set_other ws i j y (λ e. n (ap suc e))

module _ {V : Type 0} where
  -- no bucket is made yet
  pub held_nowhere : (ps l : List ℕ) → held {V = V} ps [] l ≡ None
  unfolding held
  held_nowhere ps l = ap (λ p. within p l) (slice_get_past [] (number_of ps l) (omega arith))

  pub held_at : (ps : List ℕ) (bs : List (BTreeMap (List ℕ) V)) (i : ℕ) (b : BTreeMap (List ℕ) V) (l : List ℕ) → slice_get bs i ≡ Some b → i ≡ number_of ps l → held ps bs l ≡ get (slice_cmp nat_cmp) b l
  unfolding held
  held_at ps bs i b l h e = ap (λ p. within p l) (ap (λ j. slice_get bs j) (sym e) ∙ h)

  pub held_past : (ps : List ℕ) (bs : List (BTreeMap (List ℕ) V)) (l : List ℕ) → length bs ≤ number_of ps l → held ps bs l ≡ None
  unfolding held
  held_past ps bs l h = ap (λ p. within p l) (slice_get_past bs (number_of ps l) h)

  -- an empty bucket more
  within_pushed : (bs : List (BTreeMap (List ℕ) V)) (b : BTreeMap (List ℕ) V) (i : ℕ) (l : List ℕ) → IsEmpty b → within (slice_get (bs ++ b ∷ []) i) l ≡ within (slice_get bs i) l
  within_pushed [] b zero l h = ap (lookup (λ q. is_eq (slice_cmp nat_cmp l q))) h
  within_pushed [] b (suc i) l h = refl
  within_pushed (c ∷ cs) b zero l h = refl
  within_pushed (c ∷ cs) b (suc i) l h = within_pushed cs b i l h

  -- a bucket that isn't there is made
  pub held_opened : (ps : List ℕ) (bs : List (BTreeMap (List ℕ) V)) (b : BTreeMap (List ℕ) V) (place : ℕ) → IsEmpty b → place < length ps → length bs ≤ slice_index ps place → (l : List ℕ) → held (set ps place (length bs)) (bs ++ b ∷ []) l ≡ held ps bs l
  unfolding held
  held_opened ps bs b place h w past l =
      within_pushed bs b (number_of (set ps place (length bs)) l) l h ∙ go (eqb (bucket_of l) place) refl
    where
      go : (t : Bool) → eqb (bucket_of l) place ≡ t → within (slice_get bs (number_of (set ps place (length bs)) l)) l ≡ within (slice_get bs (number_of ps l)) l
      go true p =
          let here : bucket_of l ≡ place = eqb-true (bucket_of l) place p in
          let made : number_of (set ps place (length bs)) l ≡ length bs = ap (slice_index (set ps place (length bs))) here ∙ get_or-set_same ps place (length bs) 0 w in
          let was : length bs ≤ number_of ps l = subst (λ j. length bs ≤ slice_index ps j) (sym here) past in
          ap (λ p. within p l) (slice_get_past bs (number_of (set ps place (length bs)) l) (omega (arith, made)) ∙ sym (slice_get_past bs (number_of ps l) was))
      go false p = ap (λ j. within (slice_get bs j) l) (get_or-set_other ps place (bucket_of l) (length bs) 0 (eqb-false (bucket_of l) place p))

  held_set_other : (ps : List ℕ) (bs : List (BTreeMap (List ℕ) V)) (i : ℕ) (n : BTreeMap (List ℕ) V) (l : List ℕ) → (number_of ps l ≡ i → ⊥) → held ps (set bs i n) l ≡ held ps bs l
  unfolding held
  held_set_other ps bs i n l e = ap (λ p. within p l) (nth_set_other bs i (number_of ps l) n e)

  -- a change of the bucket of k that changes it at most at k
  held_set : (ps : List ℕ) (bs : List (BTreeMap (List ℕ) V)) (i : ℕ) (b n : BTreeMap (List ℕ) V) (k : List ℕ) (w : Option V) → slice_get bs i ≡ Some b → i ≡ number_of ps k → ((l : List ℕ) → get (slice_cmp nat_cmp) n l ≡ cond (is_eq (slice_cmp nat_cmp k l)) w (get (slice_cmp nat_cmp) b l)) → (l : List ℕ) → held ps (set bs i n) l ≡ cond (bytes_eq l k) w (held ps bs l)
  held_set ps bs i b n k w h e f l = go (eqb (number_of ps l) i) refl
    where
      go : (t : Bool) → eqb (number_of ps l) i ≡ t → held ps (set bs i n) l ≡ cond (bytes_eq l k) w (held ps bs l)
      go true p =
          let here : i ≡ number_of ps l = sym (eqb-true (number_of ps l) i p) in
          let was = sym (held_at ps bs i b l h here) in
          held_at ps (set bs i n) i n l (nth_set_same bs i b n h) here ∙ (f l ∙ (λ j. cond (tied_is k l j) w (was j)))
      go false p =
          held_set_other ps bs i n l (eqb-false (number_of ps l) i p)
          ∙ sym (cond-false (bytes_eq l k) w (held ps bs l) (apart (bytes_eq l k) refl))
        where
          apart : (s : Bool) → bytes_eq l k ≡ s → s ≡ false
          apart true q = absurd (eqb-false (number_of ps l) i p (ap (number_of ps) ((bytes_eq-Decides l k).0 q) ∙ sym e))
          apart false q = refl

  -- a change of a bucket that changes nothing
  held_kept : (ps : List ℕ) (bs : List (BTreeMap (List ℕ) V)) (i : ℕ) (b n : BTreeMap (List ℕ) V) → slice_get bs i ≡ Some b → ((l : List ℕ) → get (slice_cmp nat_cmp) n l ≡ get (slice_cmp nat_cmp) b l) → (l : List ℕ) → held ps (set bs i n) l ≡ held ps bs l
  held_kept ps bs i b n h f l = go (eqb (number_of ps l) i) refl
    where
      go : (t : Bool) → eqb (number_of ps l) i ≡ t → held ps (set bs i n) l ≡ held ps bs l
      go true p =
          let here : i ≡ number_of ps l = sym (eqb-true (number_of ps l) i p) in
          held_at ps (set bs i n) i n l (nth_set_same bs i b n h) here ∙ (f l ∙ sym (held_at ps bs i b l h here))
      go false p = held_set_other ps bs i n l (eqb-false (number_of ps l) i p)

  pub held_inserted : {E : Type 0} (ps : List ℕ) (bs : List (BTreeMap (List ℕ) V)) (i : ℕ) (b n : BTreeMap (List ℕ) V) (k : List ℕ) (v : V) (r : Result (Option V) E) → slice_get bs i ≡ Some b → i ≡ number_of ps k → OnOk r (Updates (slice_cmp nat_cmp) b n k (Some v)) → OnErr r (IsUnchanged b n) → (l : List ℕ) → held ps (set bs i n) l ≡ cond (is_ok r) (with_at (held ps bs) k v l) (held ps bs l)
  held_inserted ps bs i b n k v (Ok old) h e o g = held_set ps bs i b n k (Some v) h e o.0
  held_inserted ps bs i b n k v (Err y) h e o g = held_kept ps bs i b n h (λ l. ap (lookup (λ q. is_eq (slice_cmp nat_cmp l q))) g)

  -- the same of the whole function
  pub held_after : (f g : List ℕ → Option V) (k : List ℕ) (v : V) (t : Bool) → ((l : List ℕ) → g l ≡ cond t (with_at f k v l) (f l)) → g ≡ cond t (with_at f k v) f
  held_after f g k v true h = fun_ext h
  held_after f g k v false h = fun_ext h

  pub old_inserted : {E : Type 0} (ps : List ℕ) (bs : List (BTreeMap (List ℕ) V)) (i : ℕ) (b : BTreeMap (List ℕ) V) (k : List ℕ) (r : Result (Option V) E) → slice_get bs i ≡ Some b → i ≡ number_of ps k → IfOk r (λ old. old ≡ get (slice_cmp nat_cmp) b k) → IfOk r (λ old. old ≡ held ps bs k)
  old_inserted ps bs i b k (Ok old) h e g = g ∙ sym (held_at ps bs i b k h e)
  old_inserted ps bs i b k (Err y) h e g = tt

  -- how many locks there are, after one more empty bucket and after an insert into a bucket
  pub count_opened : (bs : List (BTreeMap (List ℕ) V)) (b : BTreeMap (List ℕ) V) → IsEmpty b → all_len (bs ++ b ∷ []) ≡ all_len bs
  count_opened bs b h =
      let here : btree_map_len b ≡ 0 = ap length h in
      omega (arith, here, sum_by_push btree_map_len bs b)

  count_set : (bs : List (BTreeMap (List ℕ) V)) (i : ℕ) (b n : BTreeMap (List ℕ) V) → slice_get bs i ≡ Some b → all_len (set bs i n) + btree_map_len b ≡ all_len bs + btree_map_len n
  count_set bs i b n h =
      let here : btree_map_len (get_or bs i b) ≡ btree_map_len b = ap (λ (x : BTreeMap (List ℕ) V). btree_map_len x) (get_or_from_slice_get bs i b b h) in
      omega (arith, here, sum_by-set btree_map_len bs i n b (slice_get_within bs i b h))

  pub count_inserted : {E : Type 0} (ps : List ℕ) (bs : List (BTreeMap (List ℕ) V)) (i : ℕ) (b n : BTreeMap (List ℕ) V) (k : List ℕ) (r : Result (Option V) E) → slice_get bs i ≡ Some b → i ≡ number_of ps k →
      IfOk r (λ old. old ≡ get (slice_cmp nat_cmp) b k) → IfOk r (λ old. btree_map_len n ≡ btree_map_len b + cond (is_some old) 0 1) → OnErr r (IsUnchanged b n) →
      all_len (set bs i n) ≡ cond (is_ok r) (all_len bs + cond (is_some (held ps bs k)) 0 1) (all_len bs)
  count_inserted ps bs i b n k (Ok old) h e g f u =
      let was : ◌≡◌ {A = ℕ} (cond (is_some old) 0 1) (cond (is_some (held ps bs k)) 0 1) = ap (λ (o : Option V). cond (is_some o) 0 1) (g ∙ sym (held_at ps bs i b k h e)) in
      let all = count_set bs i b n h in
      omega (arith, was, all, f)
  count_inserted ps bs i b n k (Err y) h e g f u =
      let same : btree_map_len n ≡ btree_map_len b = ap length u in
      let all = count_set bs i b n h in
      omega (arith, all, same)

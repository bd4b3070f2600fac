-- The steps and ends of the loops.
use Rattle.std.proofs.Common.{◌≡◌, ℕ, ◌+◌, ◌<◌, ◌≤◌, List, [], ◌∷◌, ◌++◌, map, length, get_or, take, set, sum_by, sym, ap, ◌∙◌, add-one, arith}
use Rattle.std.proofs.lemmas.List.{take_all, take_more, take_more_set, map_push}
use Rattle.std.proofs.lemmas.List.Sums.{sum_by_more}
use Rattle.sheet.specs.declared.types.Sheet.{Sheet}
use Rattle.sheet.specs.Contents.{Content, content_of}
use Rattle.account.specs.Accounts.{Standing}
use Rattle.moments.specs.Moments.{sum_to}
use Rattle.counting.specs.Orders.{lesser}
use Rattle.counting.proofs.Lowest.{sum_map}

-- sums over sheets
pub sheets_step : (w : Content → ℕ) (xs : List Sheet) (i : ℕ) (x : Sheet) (sum r : ℕ) → i < length xs → x ≡ get_or xs i x → r ≡ w (content_of x) →
    sum ≡ sum_by w (map content_of (take i xs)) → sum + r ≡ sum_by w (map content_of (take (i + 1) xs))
sheets_step w xs i x sum r h is e inv =
    omega (
      arith,
      e,
      inv,
      ap (λ (s : Sheet). w (content_of s)) is,
      sum_map w content_of (take i xs),
      sum_map w content_of (take (i + 1) xs),
      sum_by_more (λ (s : Sheet). w (content_of s)) xs i x h,
    )

-- the lesser sheets, one after the other
pub lessers_step : (xs : List Sheet) (all : List Standing) (i : ℕ) (x : Sheet) (d : Standing) → i < length xs → i < length all → content_of x ≡ lesser (get_or all i d) →
    map content_of (take i xs) ≡ map lesser (take i all) → map content_of (take (i + 1) (set xs i x)) ≡ map lesser (take (i + 1) all)
lessers_step xs all i x d h g e inv =
    ap (map content_of) (take_more_set xs i x h)
    ∙ (map_push content_of (take i xs) x
    ∙ (ap (λ (zs : List Content). zs ++ content_of x ∷ []) inv
    ∙ (ap (λ (z : Content). map lesser (take i all) ++ z ∷ []) e
    ∙ (sym (map_push lesser (take i all) (get_or all i d))
    ∙ ap (map lesser) (sym (take_more all i d g))))))

pub lessers_end : (xs : List Sheet) (all : List Standing) (i : ℕ) → i ≡ length all → map content_of (take i xs) ≡ map lesser (take i all) → map content_of (take (length all) xs) ≡ map lesser all
lessers_end xs all i e inv =
    let past : length all ≤ i = omega (arith, e) in
    ap (λ (k : ℕ). map content_of (take k xs)) (sym e) ∙ (inv ∙ ap (map lesser) (take_all i all past))

-- a sum by places
pub sum_step : (f : ℕ → ℕ) (i sum r : ℕ) → r ≡ f i → sum ≡ sum_to i f → sum + r ≡ sum_to (i + 1) f
sum_step f i sum r e inv = rw (add-one i) (omega (arith, e, inv))

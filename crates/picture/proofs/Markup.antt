-- An escaped text has none of the bytes that mean something in XML but `&`.
use Rattle.std.proofs.Common.{◌≡◌, ℕ, false, cond, eqb, List, [], ◌∷◌, ◌++◌, refl}
use Rattle.std.specs.Int.{is_in_range}
use Rattle.std.specs.List.{AllByRecursion}
use Rattle.std.proofs.lemmas.Bool.{cond_both, eqb-false}
use Rattle.picture.specs.Escape.{escaped_byte, escaped, NoMarkup}

abbrev Plain : ℕ → Type 0
Plain b = (b ≡ 60 → ⊥) × (b ≡ 62 → ⊥) × (b ≡ 34 → ⊥)

-- a byte by itself, told by computing
plain : (b : ℕ) → eqb b 60 ≡ false → eqb b 62 ≡ false → eqb b 34 ≡ false → Plain b
plain b f g h = (eqb-false b 60 f, eqb-false b 62 g, eqb-false b 34 h)

all_append : (xs ys : List ℕ) → AllByRecursion Plain xs → AllByRecursion Plain ys → AllByRecursion Plain (xs ++ ys)
all_append [] ys p q = q
all_append (x ∷ xs) ys p q = (p.0, all_append xs ys p.1 q)

others_plain : (b : ℕ) → (b ≡ 60 → ⊥) → (b ≡ 62 → ⊥) → (b ≡ 34 → ⊥) → AllByRecursion Plain (cond (is_in_range 32 126 b) (b ∷ []) (63 ∷ []))
others_plain b f g h = cond_both (is_in_range 32 126 b) (b ∷ []) (63 ∷ []) (AllByRecursion Plain) (λ e. ((f, g, h), tt)) (λ e. (plain 63 refl refl refl, tt))

byte_plain : (b : ℕ) → AllByRecursion Plain (escaped_byte b)
byte_plain b =
    cond_both (eqb b 38) _ _ (AllByRecursion Plain) (λ e. (plain 38 refl refl refl, (plain 97 refl refl refl, (plain 109 refl refl refl, (plain 112 refl refl refl, (plain 59 refl refl refl, tt))))))
    (λ _. cond_both (eqb b 60) _ _ (AllByRecursion Plain) (λ e. (plain 38 refl refl refl, (plain 108 refl refl refl, (plain 116 refl refl refl, (plain 59 refl refl refl, tt)))))
    (λ f. cond_both (eqb b 62) _ _ (AllByRecursion Plain) (λ e. (plain 38 refl refl refl, (plain 103 refl refl refl, (plain 116 refl refl refl, (plain 59 refl refl refl, tt)))))
    (λ g. cond_both (eqb b 34) _ _ (AllByRecursion Plain) (λ e. (plain 38 refl refl refl, (plain 113 refl refl refl, (plain 117 refl refl refl, (plain 111 refl refl refl, (plain 116 refl refl refl, (plain 59 refl refl refl, tt)))))))
    (λ h. others_plain b (eqb-false b 60 f) (eqb-false b 62 g) (eqb-false b 34 h)))))

pub no_markup : NoMarkup
no_markup [] = tt
no_markup (b ∷ bs) = all_append (escaped_byte b) (escaped bs) (byte_plain b) (no_markup bs)

-- The statements of a look, word by word.
use Rattle.std.proofs.Common.{◌≡◌, ℕ, true, false, cond, eqb, List, [], ◌∷◌, ◌++◌, Some, None, Option, sym, refl, ap, ◌∙◌, append_assoc}
use Rattle.lines.specs.Lines.{words, parts, on_first, colon}
use Rattle.looking.specs.declared.types.Shown.{Shown}
use Rattle.request_told.specs.Looks.{parts_show, shown_then, words_show}

first_more : (i middle last : List ℕ) (x : ℕ) (ps : List (List ℕ)) → parts_show (i ∷ middle ∷ last ∷ on_first x ps) ≡ None
first_more i middle last x [] = refl
first_more i middle last x (p ∷ ps) = refl

-- Three parts and those of what follows, which are one or more, are too many.
pub too_many : (b : ℕ) (i middle last rest : List ℕ) → parts_show (i ∷ middle ∷ last ∷ parts b rest) ≡ None
too_many b i middle last [] = refl
too_many b i middle last (x ∷ xs) =
    elim (eqb x b) as (λ v. parts_show (i ∷ middle ∷ last ∷ cond v ([] ∷ parts b xs) (on_first x (parts b xs))) ≡ None)
    [ true ↦ refl | false ↦ first_more i middle last x (parts b xs) ]

-- statements before others
abbrev pub all_then : List Shown → Option (List Shown) → Option (List Shown)
all_then xs None = None
all_then xs (Some ys) = Some (xs ++ ys)

one_more : (whole o : Option (List Shown)) (xs : List Shown) (x : Shown) → whole ≡ all_then xs (shown_then (Some x) o) → whole ≡ all_then (xs ++ x ∷ []) o
one_more whole None xs x h = h
one_more whole (Some ys) xs x h = h ∙ ap Some (sym (append_assoc xs (x ∷ []) ys))

-- One word more: its statement comes after those so far.
pub word_more : (whole : Option (List Shown)) (xs ys : List Shown) (line text : List ℕ) (others : List (List ℕ)) (x : Shown)
    → whole ≡ all_then xs (words_show (words line)) → words line ≡ text ∷ others → Some x ≡ parts_show (parts colon text) → ys ≡ xs ++ x ∷ []
    → whole ≡ all_then ys (words_show others)
word_more whole xs ys line text others x h split is more =
    rw more (one_more whole (words_show others) xs x (rw (split, sym is) at h))

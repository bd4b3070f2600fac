-- The search for a byte, step by step, and what a cut and a first word are among the parts and words. Assumes nothing.
use Rattle.std.proofs.Common.{◌≡◌, ℕ, suc, ◌+◌, ◌-◌, ◌<◌, ◌≤◌, Bool, true, false, cond, eqb, ltb, not, List, [], ◌∷◌, length, take, drop, Some, None, Option, unwrap_or, sym, refl, ap, ◌∙◌, arith, length-drop}
use mathlib.Core.Bool.{beq}
use Rattle.std.proofs.lemmas.List.{at_drop_more, take_rest, take_all, drop_all}
use borrow.Author.Tests.{ltb-true, ltb-false}
use Rattle.std.proofs.lemmas.Bool.{cond-true, cond-false, cond_both, eqb-false, eq-eqb, ne_eqb, true≢false}
use Rattle.std.specs.List.{AllByRecursion, position, position_or_len}
use Rattle.lines.specs.Lines.{seek, cut_at, past_first, parts, parts_after, on_first, filled, words, word_in, word_then_words, first_word, FirstThenRest, WordsStand, PartsComeApart}

-- what `position` answers, where a byte was found and where none was
found_from : (n m i : ℕ) → Some i ≡ cond (ltb n m) (Some n) None → (i ≡ n) × (n < m)
found_from n m i = go (ltb n m) refl
  where
    go : (t : Bool) → ltb n m ≡ t → Some i ≡ cond t (Some n) None → (i ≡ n) × (n < m)
    go true h e = (cc, ltb-true n m h)
    go false h e = cc

none_from : (n m : ℕ) → ◌≡◌ {A = Option ℕ} None (cond (ltb n m) (Some n) None) → m ≤ n
none_from n m = go (ltb n m) refl
  where
    go : (t : Bool) → ltb n m ≡ t → ◌≡◌ {A = Option ℕ} None (cond t (Some n) None) → m ≤ n
    go true h e = cc
    go false h e = ltb-false n m h

place_within : (p : ℕ → Bool) (xs : List ℕ) → position_or_len p xs ≤ length xs
place_within p [] = omega arith
place_within p (x ∷ xs) = let h = place_within p xs in cond_both (not (p x)) (1 + position_or_len p xs) 0 (λ n. n ≤ suc (length xs)) (λ e. omega arith) (λ e. omega arith)

pub found_at : (p : ℕ → Bool) (xs : List ℕ) (i : ℕ) → Some i ≡ position p xs → (i ≡ position_or_len p xs) × (i < length xs)
found_at p xs i e = let f = found_from (position_or_len p xs) (length xs) i e in (f.0, omega arith)

pub found_none : (p : ℕ → Bool) (xs : List ℕ) → None ≡ position p xs → position_or_len p xs ≡ length xs
found_none p xs e = let f = none_from (position_or_len p xs) (length xs) e in let g = place_within p xs in omega arith

pub seek_is : (b : ℕ) (xs : List ℕ) → seek true b xs ≡ position_or_len (λ x. eqb x b) xs
seek_is b [] = refl
seek_is b (x ∷ xs) = elim (eqb x b) as (λ e. cond (beq e true) 0 (suc (seek true b xs)) ≡ cond (not e) (1 + position_or_len (λ y. eqb y b) xs) 0) [
  | true ↦ refl
  | false ↦ let h = seek_is b xs in omega arith
]

pub seek_is_not : (b : ℕ) (xs : List ℕ) → seek false b xs ≡ position_or_len (λ x. not (eqb x b)) xs
seek_is_not b [] = refl
seek_is_not b (x ∷ xs) = elim (eqb x b) as (λ e. cond (beq e false) 0 (suc (seek false b xs)) ≡ cond (not (not e)) (1 + position_or_len (λ y. not (eqb y b)) xs) 0) [
  | true ↦ let h = seek_is_not b xs in omega arith
  | false ↦ refl
]

-- a cut is the first part, and the parts of what follows are the others
pub parts_cut : (b : ℕ) (t : List ℕ) → parts b t ≡ (cut_at b t).0 ∷ parts_after b (cut_at b t).1
parts_cut b [] = refl
parts_cut b (x ∷ xs) =
    elim (eqb x b) as (λ e. cond e ([] ∷ parts b xs) (on_first x (parts b xs)) ≡ take (cond (beq e true) 0 (suc (seek true b xs))) (x ∷ xs) ∷ parts_after b (past_first (drop (cond (beq e true) 0 (suc (seek true b xs))) (x ∷ xs)))) [
      | true ↦ refl
      | false ↦ ap (on_first x) (parts_cut b xs)
    ]

pub split_from : (b : ℕ) (t x : List ℕ) (o : Option (List ℕ)) → ◌≡◌ {A = List ℕ × Option (List ℕ)} (x, o) (cut_at b t) → parts b t ≡ x ∷ parts_after b o
split_from b t x o v = parts_cut b t ∙ ap (λ (p : List ℕ × Option (List ℕ)). p.0 ∷ parts_after b p.1) (sym v)

module _ (b : ℕ) (t : List ℕ) (i : ℕ) (e : i ≡ seek true b t) where
  pub cut_whole : i ≡ length t → ◌≡◌ {A = List ℕ × Option (List ℕ)} (t, None) (cut_at b t)
  cut_whole h =
      let at : (take i t, past_first (drop i t)) ≡ cut_at b t = ap (λ k. (take k t, past_first (drop k t))) e in
      let front : take i t ≡ t = take_all i t (omega arith) in
      let back : past_first (drop i t) ≡ None = ap past_first (drop_all i t (omega arith)) in
      (λ k. (sym front k, sym back k)) ∙ at

  pub cut_found : i < length t → ◌≡◌ {A = List ℕ × Option (List ℕ)} (take i t, Some (take (length t - (i + 1)) (drop (i + 1) t))) (cut_at b t)
  cut_found h =
      let at : (take i t, past_first (drop i t)) ≡ cut_at b t = ap (λ k. (take k t, past_first (drop k t))) e in
      let back : Some (take (length t - (i + 1)) (drop (i + 1) t)) ≡ past_first (drop i t) = ap Some (take_rest t (i + 1)) ∙ sym (at_drop_more past_first t i 0 h) in
      (λ k. (take i t, back k)) ∙ at

-- spaces in front are of no matter to the words
words_skip : (t : List ℕ) → words t ≡ words (drop (seek false 32 t) t)
words_skip [] = refl
words_skip (x ∷ xs) =
    let P : Bool → Type 0 = λ e. eqb x 32 ≡ e → words (x ∷ xs) ≡ words (drop (cond (beq e false) 0 (suc (seek false 32 xs))) (x ∷ xs)) in
    let go : P (eqb x 32) = elim (eqb x 32) as P [ true ↦ λ h. ap filled (cond-true _ _ _ h) ∙ words_skip xs | false ↦ λ h. refl ] in
    go refl

-- past them a text begins with no space
abbrev Starts : List ℕ → Type 0
Starts [] = Unit {0}
Starts (x ∷ xs) = eqb x 32 ≡ false

starts_skip : (t : List ℕ) → Starts (drop (seek false 32 t) t)
starts_skip [] = tt
starts_skip (x ∷ xs) =
    let P : Bool → Type 0 = λ e. eqb x 32 ≡ e → Starts (drop (cond (beq e false) 0 (suc (seek false 32 xs))) (x ∷ xs)) in
    let go : P (eqb x 32) = elim (eqb x 32) as P [ true ↦ λ h. starts_skip xs | false ↦ λ h. h ] in
    go refl

words_after : (o : Option (List ℕ)) → filled (parts_after 32 o) ≡ words (unwrap_or o [])
words_after None = refl
words_after (Some t) = refl

words_in : (t : List ℕ) → Starts t → words t ≡ word_then_words (word_in t)
words_in [] h = refl
words_in (x ∷ xs) h =
    let s : ℕ = seek true 32 xs in
    let P : Bool → Type 0 = λ e. e ≡ false → filled (cond e ([] ∷ parts 32 xs) (on_first x (parts 32 xs))) ≡ take (cond (beq e true) 0 (suc s)) (x ∷ xs) ∷ words (unwrap_or (past_first (drop (cond (beq e true) 0 (suc s)) (x ∷ xs))) []) in
    let go : P (eqb x 32) = elim (eqb x 32) as P [
      | true ↦ λ f. absurd (true≢false f)
      | false ↦ λ f. ap (λ ps. filled (on_first x ps)) (parts_cut 32 xs) ∙ ap (λ ws. (x ∷ take s xs) ∷ ws) (words_after (past_first (drop s xs)))
    ] in
    go h

pub first_then_rest : FirstThenRest
first_then_rest line = words_skip line ∙ words_in _ (starts_skip line)

-- no part at b holds b
free_first : (b x : ℕ) (ps : List (List ℕ)) → (x ≡ b → ⊥) → AllByRecursion (AllByRecursion (λ y. y ≡ b → ⊥)) ps → AllByRecursion (AllByRecursion (λ y. y ≡ b → ⊥)) (on_first x ps)
free_first b x [] ne h = ((ne, tt), tt)
free_first b x (p ∷ ps) ne h = ((ne, h.0), h.1)

parts_free : (b : ℕ) (t : List ℕ) → AllByRecursion (AllByRecursion (λ y. y ≡ b → ⊥)) (parts b t)
parts_free b [] = (tt, tt)
parts_free b (x ∷ xs) =
    cond_both (eqb x b) _ _ (AllByRecursion (AllByRecursion (λ y. y ≡ b → ⊥))) (λ e. (tt, parts_free b xs)) (λ e. free_first b x _ (eqb-false x b e) (parts_free b xs))

filled_stand : (ps : List (List ℕ)) → AllByRecursion (AllByRecursion (λ y. y ≡ 32 → ⊥)) ps → AllByRecursion (λ w. (0 < length w) × AllByRecursion (λ y. y ≡ 32 → ⊥) w) (filled ps)
filled_stand [] h = tt
filled_stand ([] ∷ ps) h = filled_stand ps h.1
filled_stand ((x ∷ p) ∷ ps) h = ((omega arith, h.0), filled_stand ps h.1)

pub words_stand : WordsStand
words_stand line = filled_stand _ (parts_free 32 line)

pub parts_come_apart : PartsComeApart
parts_come_apart b [] h = (refl, λ t. cond-true _ _ _ (eq-eqb b b refl))
parts_come_apart b (x ∷ w) h =
    let other = ne_eqb x b h.0 in
    let rest = parts_come_apart b w h.1 in
    (cond-false _ _ _ other ∙ ap (on_first x) rest.0, λ t. cond-false _ _ _ other ∙ ap (on_first x) (rest.1 t))

-- what the first word is, from where the line's first byte that is no space stands
word_in_some : (t : List ℕ) → 0 < length t → word_in t ≡ Some ((cut_at 32 t).0, unwrap_or (cut_at 32 t).1 [])
word_in_some [] h = absurd (omega arith)
word_in_some (x ∷ xs) h = refl

abbrev cut_word : List ℕ × Option (List ℕ) → Option (List ℕ × List ℕ)
cut_word p = Some (p.0, unwrap_or p.1 [])

module _ (line : List ℕ) (start : ℕ) (e : start ≡ seek false 32 line) where
  pub first_none : length line ≤ start → None ≡ first_word line
  first_none h = ap word_in (sym (drop_all start line h)) ∙ ap (λ k. word_in (drop k line)) e

  pub first_some : (x : List ℕ) (o : Option (List ℕ)) → start < length line → ◌≡◌ {A = List ℕ × Option (List ℕ)} (x, o) (cut_at 32 (take (length line - start) (drop start line))) → Some (x, unwrap_or o []) ≡ first_word line
  first_some x o h v =
      let some : 0 < length (drop start line) = simp length-drop (omega arith) in
      ap cut_word v ∙ ap (λ t. cut_word (cut_at 32 t)) (take_rest line start) ∙ sym (word_in_some _ some) ∙ ap (λ k. word_in (drop k line)) e

pub words_from : (line : List ℕ) (o : Option (List ℕ × List ℕ)) → o ≡ first_word line → words line ≡ word_then_words o
words_from line o v = first_then_rest line ∙ ap word_then_words (sym v)

-- Hexadecimal digits, two for each byte. Assumes nothing.
use Rattle.std.proofs.Common.{◌≡◌, ℕ, zero, suc, ◌+◌, ◌-◌, ◌*◌, ◌/◌, ◌%◌, ◌<◌, ◌≤◌, cond, ltb, List, [], ◌∷◌, ◌++◌, length, get_or, take, drop, Some, None, Option, unwrap_or, sym, refl, ap, ◌∙◌, append_assoc, append-nil, add-zero, arith}
use Rattle.std.specs.List.{concat}
use Rattle.std.specs.Simd.{first_chunks}
use Rattle.std.proofs.lemmas.List.{at_drop_more, at_drop_all, take_more}
use Rattle.std.proofs.lemmas.Bool.{cond-true, eq-eqb}
use Rattle.std.proofs.lemmas.Bool.Decides.{nat_tests}
use Rattle.lines.specs.Lines.{hex_digit, hex_pair, byte_then, hex_read, hex_read_exact, hex_code, hex_written, HexReadsBack}

-- bytes before others
abbrev pub bytes_then : List ℕ → Option (List ℕ) → Option (List ℕ)
bytes_then xs None = None
bytes_then xs (Some ys) = Some (xs ++ ys)

pub none_before : (o : Option (List ℕ)) → o ≡ bytes_then [] o
none_before None = refl
none_before (Some ys) = refl

one_more : (xs : List ℕ) (b : ℕ) (o : Option (List ℕ)) → bytes_then xs (byte_then (Some b) o) ≡ bytes_then (xs ++ b ∷ []) o
one_more xs b None = refl
one_more xs b (Some ys) = ap Some (sym (append_assoc xs (b ∷ []) ys))

none_after : (o : Option ℕ) → byte_then o None ≡ None
none_after None = refl
none_after (Some b) = refl

two_digits : (p rest : List ℕ) → length p ≡ 2 → hex_read (p ++ rest) ≡ byte_then (hex_pair (hex_digit (get_or p 0 0)) (hex_digit (get_or p 1 0))) (hex_read rest)
two_digits [] rest h = absurd (omega arith)
two_digits (a ∷ []) rest h = absurd (omega arith)
two_digits (a ∷ b ∷ []) rest h = refl
two_digits (a ∷ b ∷ x ∷ p) rest h = absurd (omega arith)

-- one pair on
pair_step : (ps : List (List ℕ)) (i : ℕ) (d : List ℕ) → i < length ps → length (get_or ps i d) ≡ 2 → hex_read (concat (drop i ps)) ≡ byte_then (hex_pair (hex_digit (get_or (get_or ps i d) 0 0)) (hex_digit (get_or (get_or ps i d) 1 0))) (hex_read (concat (drop (i + 1) ps)))
pair_step ps i d h two = at_drop_more (λ t. hex_read (concat t)) ps i d h ∙ two_digits (get_or ps i d) (concat (drop (i + 1) ps)) two

module _ (ps : List (List ℕ)) (xs : List ℕ) (i : ℕ) (inv : hex_read (concat ps) ≡ bytes_then xs (hex_read (concat (drop i ps)))) where
  pub pair_none : (d : List ℕ) → i < length ps → length (get_or ps i d) ≡ 2 → None ≡ hex_pair (hex_digit (get_or (get_or ps i d) 0 0)) (hex_digit (get_or (get_or ps i d) 1 0)) → None ≡ hex_read (concat ps)
  pair_none d h two e =
      sym (inv ∙ ap (bytes_then xs) (pair_step ps i d h two ∙ ap (λ o. byte_then o (hex_read (concat (drop (i + 1) ps)))) (sym e)))

  pub pair_more : (d : List ℕ) (b : ℕ) (ys : List ℕ) → i < length ps → length (get_or ps i d) ≡ 2 → Some b ≡ hex_pair (hex_digit (get_or (get_or ps i d) 0 0)) (hex_digit (get_or (get_or ps i d) 1 0)) → ys ≡ xs ++ b ∷ [] → hex_read (concat ps) ≡ bytes_then ys (hex_read (concat (drop (i + 1) ps)))
  pair_more d b ys h two e same =
      inv ∙ ap (bytes_then xs) (pair_step ps i d h two ∙ ap (λ o. byte_then o (hex_read (concat (drop (i + 1) ps)))) (sym e)) ∙ one_more xs b _
      ∙ ap (λ zs. bytes_then zs (hex_read (concat (drop (i + 1) ps)))) (sym same)

  pub pair_all : length ps ≤ i → Some xs ≡ hex_read (concat ps)
  pair_all h = sym (inv ∙ ap (bytes_then xs) (at_drop_all (λ t. hex_read (concat t)) ps i h) ∙ ap Some (append-nil xs))

-- the pairs of a word are the word
pub pairs_whole : (k : ℕ) (w : List ℕ) → length w ≡ 2 * k → concat (first_chunks 2 k w) ≡ w
pairs_whole zero [] h = refl
pairs_whole zero (a ∷ w) h = absurd (omega arith)
pairs_whole (suc k) [] h = absurd (omega arith)
pairs_whole (suc k) (a ∷ []) h = absurd (omega arith)
pairs_whole (suc k) (a ∷ b ∷ w) h = ap (λ t. a ∷ b ∷ t) (pairs_whole k w (omega arith))

-- each of them is two digits
chunk_two : (k : ℕ) (w : List ℕ) (i : ℕ) (d : List ℕ) → 2 * k ≤ length w → i < k → length (get_or (first_chunks 2 k w) i d) ≡ 2
chunk_two zero w i d h less = absurd (omega arith)
chunk_two (suc k) [] i d h less = absurd (omega arith)
chunk_two (suc k) (a ∷ []) i d h less = absurd (omega arith)
chunk_two (suc k) (a ∷ b ∷ w) zero d h less = refl
chunk_two (suc k) (a ∷ b ∷ w) (suc i) d h less = chunk_two k w i d (omega arith) (omega arith)

pub pair_two : (w : List ℕ) (ps : List (List ℕ)) (i : ℕ) (d : List ℕ) → ps ≡ first_chunks 2 (length w / 2) w → i < length w / 2 → length (get_or ps i d) ≡ 2
pair_two w ps i d e less = ap (λ qs. length (get_or qs i d)) e ∙ chunk_two (length w / 2) w i d (omega arith) less

-- a digit that is left over
pub hex_odd : (w : List ℕ) (k : ℕ) → length w ≡ 2 * k + 1 → hex_read w ≡ None
hex_odd [] k h = absurd (omega arith)
hex_odd (a ∷ []) k h = refl
hex_odd (a ∷ b ∷ w) k h = ap (byte_then (hex_pair (hex_digit a) (hex_digit b))) (hex_odd w (k - 1) (omega arith)) ∙ none_after _

-- one more byte written
written_push : (xs : List ℕ) (b : ℕ) → hex_written (xs ++ b ∷ []) ≡ hex_written xs ++ hex_code (b / 16) ∷ hex_code (b % 16) ∷ []
written_push [] b = refl
written_push (x ∷ xs) b = ap (λ ds. hex_code (x / 16) ∷ hex_code (x % 16) ∷ ds) (written_push xs b)

pub written_more : (base bs was half all : List ℕ) (i h l : ℕ) → i < length bs → was ≡ base ++ hex_written (take i bs) → h ≡ hex_code (get_or bs i 0 / 16) → half ≡ was ++ h ∷ [] → l ≡ hex_code (get_or bs i 0 % 16) → all ≡ half ++ l ∷ [] → all ≡ base ++ hex_written (take (i + 1) bs)
written_more base bs was half all i h l k e high f low g =
    rw (g, f, e, high, low, take_more bs i 0, written_push) (simp append_assoc)

digit_back : (d : ℕ) → d < 16 → hex_digit (hex_code d) ≡ Some d
digit_back d h = grind (arith, nat_tests)

pub hex_reads_back : HexReadsBack
hex_reads_back [] h = refl
hex_reads_back (b ∷ bs) h =
    let small : b < 256 = h.0 in
    let whole : b / 16 * 16 + b % 16 ≡ b = omega arith in
    rw (digit_back (b / 16) (omega arith), digit_back (b % 16) (omega arith), hex_reads_back bs h.1, whole)

-- of a word without a digit left over
pub pairs_read : (w : List ℕ) (ps : List (List ℕ)) → ps ≡ first_chunks 2 (length w / 2) w → length w % 2 ≡ 0 → hex_read (concat ps) ≡ hex_read w
pairs_read w ps e h = ap (λ qs. hex_read (concat qs)) e ∙ ap hex_read (pairs_whole (length w / 2) w (omega arith))

pub pairs_exact : (n : ℕ) (w : List ℕ) (ps : List (List ℕ)) → ps ≡ first_chunks 2 (length w / 2) w → length w % 2 ≡ 0 → length w / 2 ≡ n → hex_read (concat ps) ≡ hex_read_exact n w
pairs_exact n w ps e h k = pairs_read w ps e h ∙ sym (cond-true _ _ _ (eq-eqb (length w) (2 * n) (omega arith)))

-- the values of the n bytes from b on, with 16 for a byte that is no digit
abbrev values_from : ℕ → ℕ → List ℕ
values_from zero b = []
values_from (suc n) b = unwrap_or (hex_digit b) 16 ∷ values_from n (b + 1)

values_at : (n b k : ℕ) → k < n → unwrap_or (hex_digit (b + k)) 16 ≡ get_or (values_from n b) k 0
values_at zero b k h = absurd (omega arith)
values_at (suc n) b zero h = ap (λ x. unwrap_or (hex_digit x) 16) (add-zero b)
values_at (suc n) b (suc k) h =
    let on : b + suc k ≡ b + 1 + k = omega arith in
    ap (λ x. unwrap_or (hex_digit x) 16) on ∙ values_at n (b + 1) k (omega arith)

told : (b v : ℕ) → unwrap_or (hex_digit b) 16 ≡ v → hex_digit b ≡ cond (ltb v 16) (Some v) None
told b v e = grind (arith, nat_tests)

-- the table from '0' to 'f' has the value of each digit
pub table_digit : (b : ℕ) → 48 ≤ b → b ≤ 102 → hex_digit b ≡ cond (ltb (get_or (values_from 55 48) (b - 48) 0) 16) (Some (get_or (values_from 55 48) (b - 48) 0)) None
table_digit b low high =
    let back : b ≡ 48 + (b - 48) = omega arith in
    told b _ (ap (λ x. unwrap_or (hex_digit x) 16) back ∙ values_at 55 48 (b - 48) (omega arith))

-- Decimal digits, one by one. Assumes nothing.
use Rattle.std.proofs.Common.{◌≡◌, ℕ, ◌+◌, ◌-◌, ◌*◌, ◌^◌, ◌<◌, ◌≤◌, min, true, false, ◌&&◌, List, [], ◌∷◌, ◌++◌, length, get_or, take, drop, Ok, Err, sym, refl, ap, ◌∙◌, arith}
use Rattle.std.specs.Char.{is_ascii_digit}
use Rattle.std.specs.Str.{all_ascii_digits}
use Rattle.std.proofs.lemmas.List.{at_drop_more, at_drop_all, take_more, take_all}
use Rattle.std.proofs.lemmas.Str.Parse.{IsNumeralModel, numerals_by_fold, tells_all_ascii_digits}
use Rattle.std.proofs.lemmas.Fmt.{decimal_nonempty, digits_decimal, digits_value-decimal}
use Rattle.std.proofs.lemmas.Bool.{cond-true, cond-false, le-leb}
use Rattle.lines.specs.declared.NumberFault.TheVariants.{NotANumber}
use Rattle.lines.specs.Lines.{decimal_after, decimal, number_read, NumberReadsBack}

decimal_push : (n : ℕ) (xs : List ℕ) (x : ℕ) → decimal_after n (xs ++ x ∷ []) ≡ decimal_after n xs * 10 + (x - 48)
decimal_push n [] x = refl
decimal_push n (y ∷ xs) x = decimal_push (n * 10 + (y - 48)) xs x

module _ (w : List ℕ) (i : ℕ) (inv : all_ascii_digits (drop i w) ≡ all_ascii_digits w) where
  pub digits_stop : i < length w → is_ascii_digit (get_or w i 0) ≡ false → all_ascii_digits w ≡ false
  digits_stop h e = sym inv ∙ at_drop_more all_ascii_digits w i 0 h ∙ ap (λ t. t && all_ascii_digits (drop (i + 1) w)) e

  pub digits_more : i < length w → is_ascii_digit (get_or w i 0) ≡ true → all_ascii_digits (drop (i + 1) w) ≡ all_ascii_digits w
  digits_more h e = sym (at_drop_more all_ascii_digits w i 0 h ∙ ap (λ t. t && all_ascii_digits (drop (i + 1) w)) e) ∙ inv

  pub digits_all : length w ≤ i → all_ascii_digits w ≡ true
  digits_all h = sym inv ∙ at_drop_all all_ascii_digits w i h

-- the value so far, if it is not above m, after one more digit
pub capped_more : (w : List ℕ) (i v m : ℕ) → i < length w → v ≡ min (decimal (take i w)) m → min (v * 10 + (get_or w i 0 - 48)) m ≡ min (decimal (take (i + 1) w)) m
capped_more w i v m h e =
    let d = ap decimal (take_more w i 0 h) ∙ decimal_push 0 (take i w) (get_or w i 0) in
    omega (arith, d)

pub capped_all : (w : List ℕ) (i v m : ℕ) → length w ≤ i → v ≡ min (decimal (take i w)) m → v ≡ min (decimal w) m
capped_all w i v m h e = e ∙ ap (λ t. min (decimal t) m) (take_all i w h)

own : IsNumeralModel (λ ds. all_ascii_digits ds ≡ true) decimal
own = numerals_by_fold _ tells_all_ascii_digits decimal_after (record { empty = λ n. refl; more = λ n c cs d. refl })

-- no number: it is empty, or it holds another byte than a digit
pub read_empty : (w : List ℕ) → length w ≡ 0 → Err NotANumber ≡ number_read w
read_empty [] h = refl
read_empty (b ∷ w) h = absurd (omega arith)

pub read_none : (w : List ℕ) → all_ascii_digits w ≡ false → Err NotANumber ≡ number_read w
read_none [] h = refl
read_none (b ∷ w) h = sym (cond-false _ _ _ h)

number_from : (w : List ℕ) (n : ℕ) → 0 < length w → all_ascii_digits w ≡ true → decimal w ≡ n → n ≤ 4294967295 → number_read w ≡ Ok n
number_from [] n some digits e small = absurd (omega arith)
number_from (b ∷ bs) n some digits e small =
    cond-true _ _ _ digits ∙ cond-true _ _ _ (le-leb (decimal (b ∷ bs)) 4294967295 (omega arith)) ∙ ap Ok e

pub number_reads_back : NumberReadsBack
number_reads_back n h =
    let wide : n < 2 ^ 64 = omega arith in
    number_from _ n (decimal_nonempty n wide) (digits_decimal own n wide) (digits_value-decimal own n wide) (omega arith)

-- The text of a line, as bytes: its words, the parts of a word, decimal numbers and hexadecimal. Assumes nothing.
use Rattle.std.specs.Prelude.{◌≡◌, ℕ, suc, ◌+◌, ◌-◌, ◌*◌, ◌/◌, ◌%◌, ◌^◌, ◌<◌, Bool, true, false, cond, List, [], ◌∷◌, ◌++◌, length, take, drop, IfSome, Some, None, Ok, Err, Option, Result, ◌==◌, ◌≢◌, nat_le, nat_lt}
use Rattle.std.specs.Bool.{beq}
use Rattle.std.specs.Option.{unwrap_or}
use Rattle.std.specs.Int.{is_in_range}
use Rattle.std.specs.Fmt as written
use Rattle.std.specs.List.{AllByRecursion}
use Rattle.std.specs.Str.{all_ascii_digits}
use Rattle.lines.specs.declared.Word.{Word}
use Rattle.lines.specs.declared.NumberFault.{NumberFault}
use Rattle.lines.specs.declared.NumberFault.TheVariants.{NotANumber, TooLarge}

-- The bytes that part a line into words, and a word into parts. Every other byte belongs to a word.
abbrev pub space : ℕ
space = 32

abbrev pub colon : ℕ
colon = 58

-- x before the first part
abbrev pub on_first : ℕ → List (List ℕ) → List (List ℕ)
on_first x [] = (x ∷ []) ∷ []
on_first x (p ∷ ps) = (x ∷ p) ∷ ps

-- The parts of a text at each byte b, in order, without those b: one more than there are b, and some may be empty.
abbrev pub parts : ℕ → List ℕ → List (List ℕ)
parts b [] = [] ∷ []
parts b (x ∷ xs) = cond (x == b) ([] ∷ parts b xs) (on_first x (parts b xs))

-- Words without b, with a b between one and the next, come apart into those words.
abbrev pub PartsComeApart : Type 0
PartsComeApart = (b : ℕ) (w : List ℕ) → AllByRecursion (λ x. x ≢ b) w → (parts b w ≡ w ∷ []) × ((t : List ℕ) → parts b (w ++ b ∷ t) ≡ w ∷ parts b t)

-- those that are not empty
abbrev pub filled : List (List ℕ) → List (List ℕ)
filled [] = []
filled ([] ∷ ps) = filled ps
filled ((x ∷ p) ∷ ps) = (x ∷ p) ∷ filled ps

-- The words of a line: its parts at spaces that are not empty. So several spaces part as one does, and those at the ends are of no matter.
abbrev pub words : List ℕ → List (List ℕ)
words line = filled (parts space line)

-- How many bytes stand before the first that is b, or, where `is` is false, before the first that is not b.
abbrev pub seek : Bool → ℕ → List ℕ → ℕ
seek is b [] = 0
seek is b (x ∷ xs) = cond (beq (x == b) is) 0 (suc (seek is b xs))

-- what follows the first byte, if there is one
abbrev pub past_first : List ℕ → Option (List ℕ)
past_first [] = None
past_first (x ∷ xs) = Some xs

-- A text cut at its first b: what stands before that b, and what follows it. Without a b it is the whole text, and nothing follows.
abbrev pub cut_at : ℕ → List ℕ → List ℕ × Option (List ℕ)
cut_at b t = (take (seek true b t) t, past_first (drop (seek true b t) t))

-- the parts of what follows a cut
abbrev pub parts_after : ℕ → Option (List ℕ) → List (List ℕ)
parts_after b None = []
parts_after b (Some t) = parts b t

-- x and what follows it, o, are t cut at its first b: so x is the first part of t, the others are those of o, and o is shorter than t.
pub record Cut (b : ℕ) (t x : List ℕ) (o : Option (List ℕ)) : Type 0 where
  pub value : ◌≡◌ {A = List ℕ × Option (List ℕ)} (x, o) (cut_at b t)
  pub split : parts b t ≡ x ∷ parts_after b o
  pub shorter : IfSome o (λ r. length r < length t)

-- the word at the front of a text that begins with no space, and what follows it
abbrev pub word_in : List ℕ → Option (List ℕ × List ℕ)
word_in [] = None
word_in (x ∷ xs) = Some ((cut_at space (x ∷ xs)).0, unwrap_or (cut_at space (x ∷ xs)).1 [])

-- The first word of a line, and what follows it; none where there is no word.
abbrev pub first_word : List ℕ → Option (List ℕ × List ℕ)
first_word line = word_in (drop (seek false space line) line)

-- what the code's answer holds
abbrev pub word_and_rest : Word → List ℕ × List ℕ
word_and_rest w = (w.text.now, w.rest.now)

-- a word and the words of what follows it
abbrev pub word_then_words : Option (List ℕ × List ℕ) → List (List ℕ)
word_then_words None = []
word_then_words (Some w) = w.0 ∷ words w.1

-- o is the first word of a line with what follows it: so the line's words are that word and the words of the rest, which is shorter.
pub record First (line : List ℕ) (o : Option (List ℕ × List ℕ)) : Type 0 where
  pub value : o ≡ first_word line
  pub split : words line ≡ word_then_words o
  pub shorter : IfSome o (λ w. length w.1 < length line)

-- The words of a line are its first word and the words of what follows that.
abbrev pub FirstThenRest : Type 0
FirstThenRest = (line : List ℕ) → words line ≡ word_then_words (first_word line)

-- A word is not empty and holds no space.
abbrev pub WordsStand : Type 0
WordsStand = (line : List ℕ) → AllByRecursion (λ w. (0 < length w) × AllByRecursion (λ b. b ≢ space) w) (words line)

-- The value of decimal digits, read from the left after the number n.
abbrev pub decimal_after : ℕ → List ℕ → ℕ
decimal_after n [] = n
decimal_after n (b ∷ bs) = decimal_after (n * 10 + (b - 48)) bs

-- The value of decimal digits.
abbrev pub decimal : List ℕ → ℕ
decimal bs = decimal_after 0 bs

-- The largest number that can be read.
abbrev pub largest : ℕ
largest = 4294967295

-- A number is one or more decimal digits, bytes from 48 to 57, and nothing else, of a value that is not too large.
-- Leading zeros are of no matter. A word that is no number and a number that is too large are told apart.
abbrev pub number_read : List ℕ → Result ℕ NumberFault
number_read [] = Err NotANumber
number_read (b ∷ bs) =
    cond (all_ascii_digits (b ∷ bs)) (cond (nat_le (decimal (b ∷ bs)) largest) (Ok (decimal (b ∷ bs))) (Err TooLarge))
    (Err NotANumber)

-- The decimal digits of n, without leading zeros: what `{n}` writes.
abbrev pub decimal_written : ℕ → List ℕ
decimal_written n = written.decimal n

-- A written number reads back.
abbrev pub NumberReadsBack : Type 0
NumberReadsBack = (n : ℕ) → n < 2 ^ 32 → number_read (decimal_written n) ≡ Ok n

-- The value of a hexadecimal digit: 0 to 9, a to f, A to F.
abbrev pub hex_digit : ℕ → Option ℕ
hex_digit b =
    cond (is_in_range 48 57 b) (Some (b - 48)) (cond (is_in_range 97 102 b) (Some (b - 87)) (cond (is_in_range 65 70 b) (Some (b - 55)) None))

-- a byte from its high and its low digit
abbrev pub hex_pair : Option ℕ → Option ℕ → Option ℕ
hex_pair None l = None
hex_pair (Some h) None = None
hex_pair (Some h) (Some l) = Some (h * 16 + l)

-- a byte before others
abbrev pub byte_then : Option ℕ → Option (List ℕ) → Option (List ℕ)
byte_then None bs = None
byte_then (Some b) None = None
byte_then (Some b) (Some bs) = Some (b ∷ bs)

-- The bytes that hexadecimal digits write, two for each byte, the high digit first; none where a byte is no digit or a digit is left over.
abbrev pub hex_read : List ℕ → Option (List ℕ)
hex_read [] = Some []
hex_read (h ∷ []) = None
hex_read (h ∷ l ∷ ds) = byte_then (hex_pair (hex_digit h) (hex_digit l)) (hex_read ds)

-- The same where they are to be exactly n bytes.
abbrev pub hex_read_exact : ℕ → List ℕ → Option (List ℕ)
hex_read_exact n ds = cond (length ds == 2 * n) (hex_read ds) None

-- The digit of a value below 16, with small letters.
abbrev pub hex_code : ℕ → ℕ
hex_code d = cond (nat_lt d 10) (48 + d) (87 + d)

-- The digits of bytes, two for each, the high digit first.
abbrev pub hex_written : List ℕ → List ℕ
hex_written [] = []
hex_written (b ∷ bs) = hex_code (b / 16) ∷ hex_code (b % 16) ∷ hex_written bs

-- Written hexadecimal reads back.
abbrev pub HexReadsBack : Type 0
HexReadsBack = (bs : List ℕ) → AllByRecursion (λ b. b < 256) bs → hex_read (hex_written bs) ≡ Some bs

-- What the words of a look say that the register shows. Assumes nothing.
use Rattle.std.specs.Prelude.{ℕ, cond, List, [], ◌∷◌, length, Some, None, Ok, Err, Option, Result, ◌==◌}
use Rattle.lines.specs.declared.NumberFault.{NumberFault}
use Rattle.lines.specs.Lines.{parts, colon, number_read, hex_read_exact}
use Rattle.looking.specs.declared.types.Shown.{Shown}
use Rattle.looking.specs.declared.types.Shown.TheVariants.{Dispute, Key}

-- I:NUMBER:UNTIL: in account I a dispute shows the sheet with that number, and ends or ended at UNTIL.
abbrev pub dispute : (i middle last : Result ℕ NumberFault) → Option Shown
dispute (Ok i) (Ok number) (Ok until) = Some (Dispute i number until)
dispute (Ok i) (Ok number) (Err e) = None
dispute (Ok i) (Err e) r = None
dispute (Err e) q r = None

abbrev pub dispute_read : (i middle last : List ℕ) → Option Shown
dispute_read i middle last = dispute (number_read i) (number_read middle) (number_read last)

-- I:KEY:TICK: the key, 64 hexadecimal digits, was shown for account I at TICK.
abbrev pub key_shown : Result ℕ NumberFault → Option (List ℕ) → Result ℕ NumberFault → Option Shown
key_shown (Ok i) (Some key) (Ok tick) = Some (Key i key tick)
key_shown (Ok i) (Some key) (Err e) = None
key_shown (Ok i) None r = None
key_shown (Err e) o r = None

abbrev pub key_shown_read : (i middle last : List ℕ) → Option Shown
key_shown_read i middle last = key_shown (number_read i) (hex_read_exact 32 middle) (number_read last)

-- A statement by the parts of its word: a middle part of exactly 64 bytes is a key, one of another length a number.
abbrev pub parts_show : List (List ℕ) → Option Shown
parts_show [] = None
parts_show (i ∷ []) = None
parts_show (i ∷ middle ∷ []) = None
parts_show (i ∷ middle ∷ last ∷ []) = cond (length middle == 64) (key_shown_read i middle last) (dispute_read i middle last)
parts_show (i ∷ middle ∷ last ∷ more ∷ others) = None

-- one statement before others
abbrev pub shown_then : Option Shown → Option (List Shown) → Option (List Shown)
shown_then None o = None
shown_then (Some x) None = None
shown_then (Some x) (Some others) = Some (x ∷ others)

-- All words, in their order; none where one of them is no statement.
abbrev pub words_show : List (List ℕ) → Option (List Shown)
words_show [] = Some []
words_show (w ∷ ws) = shown_then (parts_show (parts colon w)) (words_show ws)

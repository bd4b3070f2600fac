-- What a text of terms says, line by line, and when the terms hold. Assumes nothing.
use Rattle.std.specs.Prelude.{◌≡◌, ℕ, ◌+◌, ◌*◌, ◌≤◌, cond, List, [], ◌∷◌, length, take, replicate, Some, None, Ok, Err, codes, Option, Result, ◌==◌, nat_le, nat_lt, slice_set}
use Rattle.std.specs.Str.{bytes_eq}
use Rattle.lines.specs.declared.NumberFault.{NumberFault}
use Rattle.lines.specs.declared.NumberFault.TheVariants.{NotANumber, TooLarge}
use Rattle.lines.specs.Lines.{words, parts, cut_at, number_read}
use Rattle.terms.specs.declared.types.Entry.{Entry}
use Rattle.terms.specs.declared.types.Entry.TheVariants.{Nothing, Gap, Window, Delay, Look, Account}
use Rattle.terms.specs.declared.types.Wrong.{Wrong}
use Rattle.terms.specs.declared.types.Wrong.TheVariants.{TooLong, NotUnderstood, NumberTooLarge, Twice, TooManyAccounts, DepositsTooLarge, NoGap, NoWindow, NoDelay, NoLook, NoAccount, LookBelowOne, WindowTooShort, GapTooShort}
use Rattle.terms.specs.declared.types.Deposits.{Deposits}
use Rattle.terms.specs.declared.types.DepositList.{DepositList}
use Rattle.terms.specs.declared.types.Draft.{Draft}
use Rattle.terms.specs.declared.types.Fault.{Fault}
use Rattle.terms.specs.declared.types.Placed.{Placed}
use Rattle.terms.specs.declared.types.Agreed.{Agreed}

-- What is wrong with a number.
abbrev pub faulty : NumberFault → Wrong
faulty NotANumber = NotUnderstood
faulty TooLarge = NumberTooLarge

-- The four words, by the number after them.
abbrev pub named : List ℕ → ℕ → Result Entry Wrong
named word n =
    cond (bytes_eq word (codes "gap")) (Ok (Gap n))
    (cond (bytes_eq word (codes "window")) (Ok (Window n))
    (cond (bytes_eq word (codes "delay")) (Ok (Delay n)) (cond (bytes_eq word (codes "look")) (Ok (Look n)) (Err NotUnderstood))))

abbrev pub numbered_by : List ℕ → Result ℕ NumberFault → Result Entry Wrong
numbered_by word (Ok n) = named word n
numbered_by word (Err e) = Err (faulty e)

-- A word and a number.
abbrev pub numbered : List ℕ → List ℕ → Result Entry Wrong
numbered word digits = numbered_by word (number_read digits)

abbrev pub funded_by : Result ℕ NumberFault → Result ℕ NumberFault → Result Entry Wrong
funded_by (Ok own) (Ok theirs) = Ok (Account (record { own = own; theirs = theirs }))
funded_by (Ok own) (Err e) = Err (faulty e)
funded_by (Err NotANumber) b = Err NotUnderstood
funded_by (Err TooLarge) (Ok theirs) = Err NumberTooLarge
funded_by (Err TooLarge) (Err e) = Err (faulty e)

-- The two deposits of an account.
abbrev pub funded : List ℕ → List ℕ → Result Entry Wrong
funded own theirs = funded_by (number_read own) (number_read theirs)

-- What the words of a line say.
abbrev pub words_say : List (List ℕ) → Result Entry Wrong
words_say [] = Ok Nothing
words_say (word ∷ []) = Err NotUnderstood
words_say (word ∷ digits ∷ []) = numbered word digits
words_say (word ∷ own ∷ theirs ∷ []) = cond (bytes_eq word (codes "account")) (funded own theirs) (Err NotUnderstood)
words_say (word ∷ own ∷ theirs ∷ more ∷ others) = Err NotUnderstood

-- What a line says. A comment begins at a # (byte 35).
abbrev pub line_says : List ℕ → Result Entry Wrong
line_says line = words_say (words (cut_at 35 line).0)

-- The deposits of no account, a list with those of one account more, and the deposits that a list has, in order.
abbrev pub no_deposits : DepositList
no_deposits = record { list = replicate 16 (record { own = 0; theirs = 0 }); count = 0 }

abbrev pub one_more : DepositList → Deposits → DepositList
one_more l a = record { list = slice_set l.list l.count a; count = l.count + 1 }

abbrev pub deposits_in : DepositList → List Deposits
deposits_in l = take l.count l.list

-- A draft with what one line more says. Each of the four words stands once; there are at most 16 accounts.
abbrev pub placed : ℕ → ℕ → Option Placed
placed n line = Some (record { value = n; line = line })

-- What is wrong in a line.
abbrev pub faulted : ℕ → Wrong → Fault
faulted line w = record { line = Some line; wrong = w }

abbrev pub once : Option Placed → ℕ → Draft → Result Draft Fault
once None line d = Ok d
once (Some p) line d = Err (faulted line Twice)

-- A word's number, where the word did not stand before.
abbrev pub placed_once : Option Placed → ℕ → ℕ → Result (Option Placed) Fault
placed_once None line n = Ok (placed n line)
placed_once (Some p) line n = Err (faulted line Twice)

abbrev pub said : Draft → ℕ → Entry → Result Draft Fault
said d line Nothing = Ok d
said d line (Gap n) =
    once d.gap line (record { gap = placed n line; window = d.window; delay = d.delay; look = d.look; deposits = d.deposits })
said d line (Window n) =
    once d.window line (record { gap = d.gap; window = placed n line; delay = d.delay; look = d.look; deposits = d.deposits })
said d line (Delay n) =
    once d.delay line (record { gap = d.gap; window = d.window; delay = placed n line; look = d.look; deposits = d.deposits })
said d line (Look n) =
    once d.look line (record { gap = d.gap; window = d.window; delay = d.delay; look = placed n line; deposits = d.deposits })
said d line (Account a) =
    cond (nat_le 16 d.deposits.count) (Err (faulted line TooManyAccounts))
    (cond (nat_lt 4294967295 (a.own + a.theirs)) (Err (faulted line DepositsTooLarge))
    (Ok (record { gap = d.gap; window = d.window; delay = d.delay; look = d.look; deposits = one_more d.deposits a })))

abbrev pub said_by : Draft → ℕ → Result Entry Wrong → Result Draft Fault
said_by d line (Ok e) = said d line e
said_by d line (Err w) = Err (faulted line w)

-- The terms that a whole draft has: what is missing is looked for first, then whether they hold.
abbrev pub hold : Draft → (gap window delay look : Placed) → Result Agreed Fault
hold d gap window delay look =
    cond (look.value == 0) (Err (faulted look.line LookBelowOne))
    (cond (nat_lt window.value (look.value + delay.value + 1)) (Err (faulted window.line WindowTooShort))
    (cond (nat_lt gap.value (window.value + 3 * delay.value + 3 * look.value)) (Err (faulted gap.line GapTooShort))
    (Ok (record { terms = record { gap = gap.value; window = window.value; delay = delay.value; look = look.value }; deposits = d.deposits }))))

abbrev pub missing : Wrong → Fault
missing w = record { line = None; wrong = w }

abbrev pub with_look : Draft → (gap window delay : Placed) → Option Placed → Result Agreed Fault
with_look d gap window delay None = Err (missing NoLook)
with_look d gap window delay (Some look) = cond (d.deposits.count == 0) (Err (missing NoAccount)) (hold d gap window delay look)

abbrev pub with_delay : Draft → (gap window : Placed) → Option Placed → Result Agreed Fault
with_delay d gap window None = Err (missing NoDelay)
with_delay d gap window (Some delay) = with_look d gap window delay d.look

abbrev pub with_window : Draft → (gap : Placed) → Option Placed → Result Agreed Fault
with_window d gap None = Err (missing NoWindow)
with_window d gap (Some window) = with_delay d gap window d.delay

abbrev pub with_gap : Draft → Option Placed → Result Agreed Fault
with_gap d None = Err (missing NoGap)
with_gap d (Some gap) = with_window d gap d.window

abbrev pub agreed : Draft → Result Agreed Fault
agreed d = with_gap d d.gap

-- What all lines say, from a line with this number on.
abbrev pub on_draft : Result Draft Fault → (Draft → Result Draft Fault) → Result Draft Fault
on_draft (Ok d) next = next d
on_draft (Err e) next = Err e

abbrev pub all_say : Draft → ℕ → List (List ℕ) → Result Draft Fault
all_say d line [] = Ok d
all_say d line (x ∷ xs) = on_draft (said_by d line (line_says x)) (λ e. all_say e (line + 1) xs)

-- Nothing was said yet.
abbrev pub empty : Draft
empty =
    record { gap = None; window = None; delay = None; look = None; deposits = no_deposits }

abbrev pub agreed_by : Result Draft Fault → Result Agreed Fault
agreed_by (Ok d) = agreed d
agreed_by (Err e) = Err e

-- What a text says: its lines are parted by newlines (byte 10).
abbrev pub terms_of : List ℕ → Result Agreed Fault
terms_of text = cond (nat_lt 1048576 (length text)) (Err (missing TooLong)) (agreed_by (all_say empty 1 (parts 10 text)))

-- The rules that the numbers of terms keep, and the deposits of each account.
pub record Holds (a : Agreed) : Type 0 where
  pub look : 1 ≤ a.terms.look
  pub window : a.terms.look + a.terms.delay + 1 ≤ a.terms.window
  pub gap : a.terms.window + 3 * a.terms.delay + 3 * a.terms.look ≤ a.terms.gap
  pub some : 1 ≤ a.deposits.count

-- Whatever text they come from, the terms hold.
abbrev pub TermsHold : Type 0
TermsHold = (text : List ℕ) (a : Agreed) → terms_of text ≡ Ok a → Holds a

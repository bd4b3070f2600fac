-- What a line of a node's input asks for, whatever a look is. Assumes nothing.
use Rattle.std.specs.Prelude.{ℕ, ◌-◌, cond, ◌&&◌, List, [], ◌∷◌, length, take, Some, None, Ok, Err, codes, Option, Result, ◌==◌, nat_lt, slice_index}
use Rattle.std.specs.Str.{bytes_eq}
use Rattle.lines.specs.declared.NumberFault.{NumberFault}
use Rattle.lines.specs.Lines.{words, number_read, hex_read, hex_read_exact}
use Rattle.refusal.specs.declared.Refusal.{Refusal}
use Rattle.refusal.specs.declared.Refusal.TheVariants.{Unreadable}
use Rattle.rules.specs.declared.types.Call.{Call}
use Rattle.rules.specs.declared.types.Call.TheVariants.{Pass, Pay, Get, GiveUp}
use Rattle.any_request.specs.Words.{on_word, on_end, on_number, on_lock}
use Rattle.any_request.specs.Messages.{Told, message_read, pair_read, told_by}
use Rattle.any_request.specs.declared.types.Place.{Place}
use Rattle.any_request.specs.declared.types.Request.{Request}
use Rattle.any_request.specs.declared.types.Request.TheVariants.{Message, Asked, Look}

-- What is asked: a message from the neighbour of an account, a call of the owner, or a look, by what it says.
pub data Wish (S : Type 0) : Type 0 where
  message : ℕ → Told → Wish S
  called : Call → Wish S
  looked : S → Wish S

abbrev pub wish_of : {L S : Type 0} → (L → S) → Request L → Wish S
wish_of seen (Message i m) = message i (told_by m)
wish_of seen (Asked c) = called c
wish_of seen (Look l) = looked (seen l)

abbrev pub on_wish : {L S : Type 0} → (L → S) → Result (Request L) Refusal → Result (Wish S) Refusal
on_wish seen (Ok q) = Ok (wish_of seen q)
on_wish seen (Err e) = Err e

-- A number, refused as unreadable whatever is wrong with it.
abbrev pub plain : Result ℕ NumberFault → Result ℕ Refusal
plain (Ok n) = Ok n
plain (Err e) = Err Unreadable

-- pass I J LOCK AMOUNT END
abbrev pub pass_call : (i j lock amount last : List ℕ) → Result Call Refusal
pass_call i j lock amount last =
    on_number (number_read i) (λ from. on_number (number_read j) (λ to. on_lock (hex_read_exact 32 lock) (λ l. on_number (number_read amount) (λ m. on_number (number_read last) (λ e.
    Ok (Pass from to (record { lock = l; amount = m; end = e })))))))

abbrev pub pass_of : List (List ℕ) → Result Call Refusal
pass_of ws =
    on_word ws (λ i ws. on_word ws (λ j ws. on_word ws (λ lock ws. on_word ws (λ amount ws. on_word ws (λ last ws. on_end ws (pass_call i j lock amount last))))))

-- I LOCK, as in pay I LOCK, get I LOCK, give up I LOCK
abbrev pub placed : Result ℕ NumberFault → Option (List ℕ) → Result Place Refusal
placed (Ok i) (Some lock) = Ok (record { account = i; lock = lock })
placed (Ok i) None = Err Unreadable
placed (Err e) o = Err Unreadable

abbrev pub place_read : (i lock : List ℕ) → Result Place Refusal
place_read i lock = placed (number_read i) (hex_read_exact 32 lock)

abbrev pub place_of : List (List ℕ) → Result Place Refusal
place_of [] = Err Unreadable
place_of (i ∷ []) = Err Unreadable
place_of (i ∷ lock ∷ []) = place_read i lock
place_of (i ∷ lock ∷ more ∷ others) = Err Unreadable

abbrev pub place_call : (ℕ → List ℕ → Call) → Result Place Refusal → Result Call Refusal
place_call make (Ok p) = Ok (make p.account p.lock)
place_call make (Err e) = Err e

abbrev pub give_of : List (List ℕ) → Result Call Refusal
give_of ws = on_word ws (λ up ws. cond (bytes_eq up (codes "up")) (place_call GiveUp (place_of ws)) (Err Unreadable))

-- I HEX, or I HEX HEX
abbrev pub on_bytes : Option (List ℕ) → (List ℕ → Result Told Refusal) → Result Told Refusal
on_bytes None next = Err Unreadable
on_bytes (Some bytes) next = next bytes

abbrev pub one_told : List ℕ → Result Told Refusal
one_told m = on_bytes (hex_read m) message_read

abbrev pub two_told : List ℕ → List ℕ → Result Told Refusal
two_told m g = on_bytes (hex_read m) (λ sheet. on_bytes (hex_read g) (pair_read sheet))

abbrev pub told_in : List ℕ → List (List ℕ) → Result Told Refusal
told_in m [] = one_told m
told_in m (g ∷ []) = two_told m g
told_in m (g ∷ x ∷ xs) = Err Unreadable

-- A message, a call or a look that was read is what is asked.
abbrev pub from : {S : Type 0} → ℕ → Result Told Refusal → Result (Wish S) Refusal
from i (Ok t) = Ok (message i t)
from i (Err e) = Err e

abbrev pub calling : {S : Type 0} → Result Call Refusal → Result (Wish S) Refusal
calling (Ok c) = Ok (called c)
calling (Err e) = Err e

abbrev pub looking : {S : Type 0} → Result S Refusal → Result (Wish S) Refusal
looking (Ok s) = Ok (looked s)
looking (Err e) = Err e

abbrev pub message_of : {S : Type 0} → List ℕ → List (List ℕ) → Result (Wish S) Refusal
message_of i ws = on_word ws (λ m ws. on_number (number_read i) (λ account. from account (told_in m ws)))

-- A line by its first word; a look by the words after it.
abbrev pub line_of : {S : Type 0} → (List (List ℕ) → Result S Refusal) → List ℕ → List (List ℕ) → Result (Wish S) Refusal
line_of look_of w ws =
    cond (bytes_eq w (codes "pass")) (calling (pass_of ws))
    (cond (bytes_eq w (codes "pay")) (calling (place_call Pay (place_of ws)))
    (cond (bytes_eq w (codes "get")) (calling (place_call Get (place_of ws)))
    (cond (bytes_eq w (codes "give")) (calling (give_of ws)) (cond (bytes_eq w (codes "tick")) (looking (look_of ws)) (message_of w ws)))))

-- A line ends with its newline (byte 10): one without it may be cut short.
abbrev pub text_of : List ℕ → Option (List ℕ)
text_of line = cond (nat_lt 0 (length line) && slice_index line (length line - 1) == 10) (Some (take (length line - 1) line)) None

abbrev pub asked_by : {S : Type 0} → (List (List ℕ) → Result S Refusal) → Option (List ℕ) → Result (Wish S) Refusal
asked_by look_of None = Err Unreadable
asked_by look_of (Some text) = on_word (words text) (line_of look_of)

abbrev pub request_of : {S : Type 0} → (List (List ℕ) → Result S Refusal) → List ℕ → Result (Wish S) Refusal
request_of look_of line = asked_by look_of (text_of line)

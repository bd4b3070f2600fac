-- The lines of the cases are their rows: each line asks for the step of its row, and what is printed for it is what the
-- definitions come to. Assumes nothing.
use Rattle.std.specs.Prelude.{◌≡◌, ℕ, ◌+◌, ◌/◌, ◌%◌, Bool, true, false, cond, ◌&&◌, List, [], ◌∷◌, ◌++◌, map, Ok, Err, codes, Result, nat_lt}
use Prim.Native.String.{String}
use Rattle.std.specs.Str.{bytes_eq}
use Rattle.lines.specs.Lines.{hex_written}
use Rattle.refusal.specs.declared.Refusal.{Refusal}
use Rattle.refusal.specs.Number.{number_of}
use Rattle.sheet_bytes.specs.Bytes.{number_bytes, sheet_bytes}
use Rattle.outcome.specs.Acts.{Act, recorded, synced, sent_sheet, sent_signature, shown_sheet, shown_key}
use Rattle.outcome.specs.Outcomes.{Outcome}
use Rattle.looking.specs.Looking.{look_of}
use Rattle.any_request.specs.Messages.{told_by}
use Rattle.any_request.specs.Requests.{called}
use Rattle.any_request.specs.Requests as wish
use Rattle.request_told.specs.Requests.{Wish, looked, request_of}
use Rattle.moments.specs.Runs.{Entry, message, call, outcome_of}
use Rattle.promise_told.specs.World.{World, node_of, beginning}
use Rattle.cases.specs.Rows.{terms, deposits, Step, given, look, up_to, event, found, after, Row}
use Rattle.cases.specs.Scripts.{Script, scripts}
use Rattle.cases.specs.Table.{table}

-- An account, 0 to 15, or the number of a refusal, in decimal digits.
abbrev pub digits : ℕ → List ℕ
digits n = cond (nat_lt n 10) ((48 + n) ∷ []) ((48 + n / 10) ∷ (48 + n % 10) ∷ [])

-- A printed line: a word, the account, and bytes in hexadecimal digits.
abbrev pub line_of : String → ℕ → List ℕ → List ℕ
line_of word i bytes = codes word ++ 32 ∷ digits i ++ 32 ∷ hex_written bytes

-- The node's signature as a message: its number for the account, and the number of the sheet.
abbrev pub signature_bytes : (i number : ℕ) → List ℕ
signature_bytes i number = 2 ∷ i ∷ number_bytes number

-- What is printed for an act, and for acts. Records and syncs aren't.
abbrev pub printed_then : Act → List (List ℕ) → List (List ℕ)
printed_then (recorded r) others = others
printed_then synced others = others
printed_then (sent_sheet i s) others =
    (line_of "send" i (1 ∷ sheet_bytes s) ++ 32 ∷ hex_written (signature_bytes i s.number)) ∷ others
printed_then (sent_signature i number) others = line_of "send" i (signature_bytes i number) ∷ others
printed_then (shown_sheet i s) others = line_of "show" i (sheet_bytes s) ∷ others
printed_then (shown_key i k) others = line_of "key" i k ∷ others

-- Then the answer.
abbrev pub answer_line : Result (Unit {0}) Refusal → List ℕ
answer_line (Ok u) = codes "ok"
answer_line (Err e) = codes "no " ++ digits (number_of e)

abbrev pub printed_all : List Act → Result (Unit {0}) Refusal → List (List ℕ)
printed_all [] answer = answer_line answer ∷ []
printed_all (a ∷ others) answer = printed_then a (printed_all others answer)

abbrev pub printed_for : Outcome → List (List ℕ)
printed_for o = printed_all o.acts o.answer

-- What is printed for a step, and for steps one after the other. Only entries and looks are lines.
abbrev pub printed_by : Step → World → List (List ℕ)
printed_by (given e a) w = printed_for (outcome_of (node_of w) e)
printed_by (look told sent) w = printed_for (look_of (node_of w) w.now told)
printed_by (up_to t) w = []
printed_by (event e) w = []
printed_by (found f) w = []

abbrev pub printed_in : List Step → World → List (List ℕ)
printed_in [] w = []
printed_in (s ∷ steps) w = printed_by s w ++ printed_in steps (after s w)

-- What is asked for by an entry, and by steps one after the other, from a tick on.
abbrev pub wish_of : Entry → Wish
wish_of (message i m) = wish.message i (told_by m)
wish_of (call c) = called c

abbrev pub asked : ℕ → List Step → List (Result Wish Refusal)
asked now [] = []
asked now (given e a ∷ steps) = Ok (wish_of e) ∷ asked now steps
asked now (look told sent ∷ steps) = Ok (looked now told) ∷ asked now steps
asked now (up_to t ∷ steps) = asked t steps
asked now (event e ∷ steps) = asked now steps
asked now (found f ∷ steps) = asked now steps

-- A line, with its newline, as the node reads it.
abbrev pub read_line : String → Result Wish Refusal
read_line line = request_of (codes line ++ 10 ∷ [])

-- The same lines.
abbrev pub are_lines : List String → List (List ℕ) → Bool
are_lines [] [] = true
are_lines [] (y ∷ ys) = false
are_lines (x ∷ xs) [] = false
are_lines (x ∷ xs) (y ∷ ys) = bytes_eq (codes x) y && are_lines xs ys

-- The script is the row: it has its name, its lines ask for the row's steps, and what it has as printed comes of them.
pub record Same (row : Row) (script : Script) : Type 0 where
  pub name : script.name ≡ row.name
  pub lines : map read_line script.lines ≡ asked 0 row.steps
  pub printed : are_lines script.printed (printed_in row.steps (beginning terms deposits)) ≡ true

-- One script for each row, in their order.
abbrev pub AllSame : List Row → List Script → Type 0
AllSame [] [] = Unit {0}
AllSame [] (script ∷ others) = ⊥
AllSame (row ∷ rows) [] = ⊥
AllSame (row ∷ rows) (script ∷ others) = Same row script × AllSame rows others

abbrev pub LinesAreRows : Type 0
LinesAreRows = AllSame table scripts

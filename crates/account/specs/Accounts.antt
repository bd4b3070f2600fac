-- What an account means, and what it becomes when a sheet is signed by the node or comes back signed. Assumes nothing.
use Rattle.std.specs.Prelude.{ℕ, Bool, false, cond, not, ◌||◌, List, is_some, Some, None, Ok, Err, Option, Result, ◌==◌}
use Rattle.refusal.specs.declared.Refusal.{Refusal}
use Rattle.refusal.specs.declared.Refusal.TheVariants.{NotOpen, UnderWay, Mismatch}
use Rattle.sheet.specs.declared.types.Payment.{Payment}
use Rattle.sheet.specs.declared.types.Sheet.{Sheet}
use Rattle.sheet.specs.Contents.{Content, content_of, found}
use Rattle.account.specs.declared.types.Account.{Account}
use Rattle.account.specs.declared.types.OnItsWay.{OnItsWay}
use Rattle.account.specs.declared.types.Next.{Next}
use Rattle.account.specs.declared.types.Next.TheVariants.{Nothing, Sent}

-- An account's meaning. Held and next are the two sheets that may come to count.
pub record Standing : Type 0 where
  pub held : Content
  pub next : Option Content
  pub looked : Option ℕ
  pub disputed : Bool
  pub sent : Option OnItsWay

-- The next sheet, where one is under way.
abbrev pub next_of : Next → Sheet → Option Content
next_of Nothing s = None
next_of Sent s = Some (content_of s)

abbrev pub standing_of : Account → Standing
standing_of a =
    record { held = content_of a.held; next = next_of a.next a.next_sheet; looked = a.looked; disputed = a.disputed; sent = a.sent }

-- An account whose last sheet with both signatures is this one, before the first look.
abbrev pub opened_of : Content → Standing
opened_of s = record { held = s; next = None; looked = None; disputed = false; sent = None }

-- The node signs nothing in a frozen account, and takes no signature: it has seen a dispute there or has sent one off to
-- open, or it hasn't looked since its start.
abbrev pub is_frozen : Standing → Bool
is_frozen a = a.disputed || not (is_some a.looked)

-- May the node sign a next there: not in a frozen account, nor where one is under way.
abbrev pub may_sign : Standing → Result (Unit {0}) Refusal
may_sign a = cond (is_frozen a) (Err NotOpen) (cond (is_some a.next) (Err UnderWay) (Ok tt))

-- The node has signed a next.
abbrev pub signed_of : Standing → Content → Standing
signed_of a s = record { held = a.held; next = Some s; looked = a.looked; disputed = a.disputed; sent = a.sent }

-- The next has come back signed by the neighbour: it is held from then on.
abbrev pub held_of : Standing → Content → Standing
held_of a s = record { held = s; next = None; looked = a.looked; disputed = a.disputed; sent = a.sent }

-- The neighbour's signature under the next with a number, which is turned away where no such next is under way.
abbrev pub back_signed : Standing → Option Content → ℕ → Result Standing Refusal
back_signed a None number = Err Mismatch
back_signed a (Some s) number = cond (s.number == number) (Ok (held_of a s)) (Err Mismatch)

abbrev pub signature_taken : Standing → ℕ → Result Standing Refusal
signature_taken a number = cond (is_frozen a) (Err NotOpen) (back_signed a a.next number)

-- Does a sheet that may count have an in, or an out, with the lock.
abbrev pub on_next : (Content → List Payment) → Option Content → List ℕ → Bool
on_next side None lock = false
on_next side (Some s) lock = is_some (found lock (side s))

abbrev pub on_either : (Content → List Payment) → Standing → List ℕ → Bool
on_either side a lock = is_some (found lock (side a.held)) || on_next side a.next lock

-- What the code gives, by meanings.
abbrev pub on_standing : Result Account Refusal → Result Standing Refusal
on_standing (Ok a) = Ok (standing_of a)
on_standing (Err e) = Err e

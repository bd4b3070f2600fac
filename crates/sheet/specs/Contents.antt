-- What a sheet means: its numbers and two lists of payments, and how a payment is found, added and taken off.
-- Assumes nothing.
use Rattle.std.specs.Prelude.{◌≡◌, ◌==◌, ℕ, Bool, Decides, cond, ◌&&◌, List, [], ◌∷◌, length, take, find, Some, None, Option, nat_le, nat_lt}
use Rattle.std.specs.Cmp.Lexicographic.{pointwise}
use Rattle.std.specs.Str.{bytes_eq}
use Rattle.sheet.specs.declared.types.Payment.{Payment}
use Rattle.sheet.specs.declared.types.Sheet.{Sheet}

-- A sheet's meaning. The first of the ins, and of the outs, is the one that was added last.
pub record Content : Type 0 where
  pub account : ℕ
  pub number : ℕ
  pub own : ℕ
  pub theirs : ℕ
  pub ins : List Payment
  pub outs : List Payment

-- The payments of an array, up to a count.
abbrev pub firsts : List Payment × ℕ → List Payment
firsts r = take r.1 r.0

-- What stands past the counts is left out.
abbrev pub content_of : Sheet → Content
content_of s =
    record { account = s.account; number = s.number; own = s.own; theirs = s.theirs; ins = take s.in_count s.ins; outs = take s.out_count s.outs }

-- Is this the payment with that lock: locks are strings of 32 bytes.
abbrev pub is_for : List ℕ → Payment → Bool
is_for lock p = bytes_eq p.lock lock

-- What == answers of two payments: is it one lock, one amount and one end.
abbrev pub payment_eq : Payment → Payment → Bool
payment_eq a b = bytes_eq a.lock b.lock && ((a.amount == b.amount) && (a.end == b.end))

-- What == answers of two sheets, by what they mean: are all numbers the same, and the ins and outs one by one.
abbrev pub content_eq : Content → Content → Bool
content_eq a b =
    (((((a.account == b.account) && (a.number == b.number)) && (a.own == b.own)) && (a.theirs == b.theirs)) && pointwise payment_eq a.ins b.ins)
    && pointwise payment_eq a.outs b.outs

-- The payment with a lock: the first one, if there are more.
abbrev pub found : List ℕ → List Payment → Option Payment
found lock ps = find (is_for lock) ps

-- The others, in their order.
abbrev pub without : List ℕ → List Payment → List Payment
without lock [] = []
without lock (p ∷ ps) = cond (is_for lock p) ps (p ∷ without lock ps)

-- Sheet 0 of an account: the two deposits and nothing else.
abbrev pub first_of : ℕ → ℕ → ℕ → Content
first_of account own theirs = record { account = account; number = 0; own = own; theirs = theirs; ins = []; outs = [] }

-- A sheet of these ins and outs; there are at most 32 of each.
abbrev pub from_parts : (account number own theirs : ℕ) → (ins outs : List Payment) → Option Content
from_parts account number own theirs ins outs =
    cond (nat_le (length ins) 32 && nat_le (length outs) 32) (Some (record { account = account; number = number; own = own; theirs = theirs; ins = ins; outs = outs })) None

-- The sheet with other ins, or with other outs.
abbrev pub with_ins : Content → List Payment → Content
with_ins s ps = record { account = s.account; number = s.number; own = s.own; theirs = s.theirs; ins = ps; outs = s.outs }

abbrev pub with_outs : Content → List Payment → Content
with_outs s ps = record { account = s.account; number = s.number; own = s.own; theirs = s.theirs; ins = s.ins; outs = ps }

-- One payment more, which comes first, where there are fewer than 32; `with` puts the list back.
abbrev pub added_to : (Content → List Payment → Content) → Content → List Payment → Payment → Option Content
added_to with s ps p = cond (nat_lt (length ps) 32) (Some (with s (p ∷ ps))) None

-- The neighbour's view of a sheet: own and theirs, ins and outs change places.
abbrev pub turned_of : Content → Content
turned_of s =
    record { account = s.account; number = s.number; own = s.theirs; theirs = s.own; ins = s.outs; outs = s.ins }

-- Turned round twice, a sheet is itself.
abbrev pub TurnedTwice : Type 0
TurnedTwice = (s : Content) → turned_of (turned_of s) ≡ s

-- What == answers of two payments, and of two sheets by what they mean, is true just where they are the same.
abbrev pub EqualIsSame : Type 0
EqualIsSame = ((a b : Payment) → Decides (payment_eq a b) (a ≡ b)) × ((s t : Content) → Decides (content_eq s t) (s ≡ t))

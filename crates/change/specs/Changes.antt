-- The next sheet that each of the six changes gives, or the refusal. Assumes nothing.
use Rattle.std.specs.Prelude.{ℕ, ◌+◌, ◌-◌, cond, ◌&&◌, ◌||◌, List, ◌∷◌, length, is_some, Some, None, Ok, Err, Option, Result, nat_le, nat_lt}
use Rattle.refusal.specs.declared.Refusal.{Refusal}
use Rattle.refusal.specs.declared.Refusal.TheVariants.{Mismatch, LockUsed, NotCovered, TooLarge}
use Rattle.sheet.specs.declared.types.Payment.{Payment}
use Rattle.sheet.specs.declared.types.Sheet.{Sheet}
use Rattle.sheet.specs.Contents.{Content, content_of, found, without}
use Rattle.change.specs.declared.types.Change.{Change}
use Rattle.change.specs.declared.types.Change.TheVariants.{Offered, PassingOn, Paying, Getting, Returned, GivingUp}

-- The largest amount, sum, number and tick.
abbrev pub most : ℕ
most = 4294967295

-- The sheet after this one, with the number one higher and these amounts and payments; a sum or a number above the
-- largest is refused.
abbrev pub after : Content → (own theirs : ℕ) → (ins outs : List Payment) → Result Content Refusal
after s own theirs ins outs =
    cond (nat_lt s.number most && nat_le own most && nat_le theirs most)
    (Ok (record { account = s.account; number = s.number + 1; own = own; theirs = theirs; ins = ins; outs = outs }))
    (Err TooLarge)

-- A payment is added: not where its lock stands already, nor where it isn't covered or there are 32.
abbrev pub adding : Payment → List Payment → (covers : ℕ) → Result Content Refusal → Result Content Refusal
adding p ps covers next =
    cond (is_some (found p.lock ps)) (Err LockUsed) (cond (nat_lt covers p.amount || nat_le 32 (length ps)) (Err NotCovered) next)

-- A payment is taken off: only one that stands there.
abbrev pub taking : Option Payment → (Payment → Result Content Refusal) → Result Content Refusal
taking None next = Err Mismatch
taking (Some p) next = next p

-- What is left of the money that covers a payment, if that may be added to the others.
abbrev pub left : Payment → List Payment → (covers : ℕ) → Result ℕ Refusal
left p ps covers = cond (is_some (found p.lock ps)) (Err LockUsed) (cond (nat_le p.amount covers) (Ok (covers - p.amount)) (Err NotCovered))

-- What the money is with the amount of a payment that is taken off.
abbrev pub gained : Option Payment → (money : ℕ) → Result ℕ Refusal
gained None money = Err Mismatch
gained (Some p) money = cond (nat_le (money + p.amount) most) (Ok (money + p.amount)) (Err TooLarge)

-- The held sheet with a change.
abbrev pub changed : Content → Change → Payment → Result Content Refusal
changed s Offered p = adding p s.ins s.theirs (after s s.own (s.theirs - p.amount) (p ∷ s.ins) s.outs)
changed s PassingOn p = adding p s.outs s.own (after s (s.own - p.amount) s.theirs s.ins (p ∷ s.outs))
changed s Paying p = taking (found p.lock s.outs) (λ x. after s s.own (s.theirs + x.amount) s.ins (without p.lock s.outs))
changed s Getting p = taking (found p.lock s.ins) (λ x. after s (s.own + x.amount) s.theirs (without p.lock s.ins) s.outs)
changed s Returned p = taking (found p.lock s.outs) (λ x. after s (s.own + x.amount) s.theirs s.ins (without p.lock s.outs))
changed s GivingUp p = taking (found p.lock s.ins) (λ x. after s s.own (s.theirs + x.amount) (without p.lock s.ins) s.outs)

-- What the code gives, by contents.
abbrev pub on_content : Result Sheet Refusal → Result Content Refusal
on_content (Ok s) = Ok (content_of s)
on_content (Err e) = Err e

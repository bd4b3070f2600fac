-- Which numbers can be agreed on, and when a node looks. Assumes nothing.
use Rattle.std.specs.Prelude.{◌≡◌, ℕ, ◌+◌, ◌*◌, ◌≤◌, false, cond, Ok, Err, Result, ◌==◌, nat_le, nat_lt}
use Rattle.schedule.specs.declared.types.TooSmall.{TooSmall}
use Rattle.schedule.specs.declared.types.TooSmall.TheVariants.{Look, Window, Gap}
use Rattle.schedule.specs.declared.types.Terms.{Terms}
use Rattle.schedule.specs.declared.numbers.Numbers.{Numbers}

-- What was made, as plain values.
abbrev pub values_of : Result Numbers TooSmall → Result Terms TooSmall
values_of (Ok n) = Ok n.terms
values_of (Err e) = Err e

-- Look is at least 1; window has room for a look and a delay; gap has room for a window, three delays and three looks.
abbrev pub agreed_of : ℕ → ℕ → ℕ → ℕ → Result Terms TooSmall
agreed_of gap window delay look =
    cond (look == 0) (Err Look)
    (cond (nat_lt window (look + delay + 1)) (Err Window)
    (cond (nat_lt gap (window + 3 * delay + 3 * look)) (Err Gap)
    (Ok (record { gap = gap; window = window; delay = delay; look = look }))))

-- The tick of the last look of a node that looks where that is due.
abbrev pub looked_by : ℕ → ℕ → ℕ → ℕ
looked_by looked look tick = cond (nat_le (looked + look) tick) tick looked

-- Whoever has missed no look up to a tick, and looks then if it is due, has missed none at the tick after it.
abbrev pub NeverMissed : Type 0
NeverMissed = (looked look tick : ℕ) → 1 ≤ look → nat_lt (looked + look) tick ≡ false → nat_lt (looked_by looked look tick + look) (tick + 1) ≡ false

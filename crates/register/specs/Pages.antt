-- What a page of the code means: a page of the rules. Assumes nothing.
use Rattle.std.specs.Prelude.{◌≡◌, ℕ, Bool, cond, List, [], ◌∷◌, ◌++◌, map, vec_items}
use Rattle.sheet.specs.Contents.{Content, content_of}
use Rattle.register.specs.Register as rules
use Rattle.register.specs.Register.{quiet, disputed, ended, with_key_at, shown_in_time, payout_of}
use Rattle.register.specs.declared.types.Phase.{Phase}
use Rattle.register.specs.declared.types.Phase.TheVariants.{Quiet, Disputed, Ended}
use Rattle.register.specs.declared.types.KeyAt.{KeyAt}
use Rattle.register.specs.declared.types.Page.{Page}

abbrev pub phase_of : Phase → rules.Phase
phase_of Quiet = quiet
phase_of (Disputed s until) = disputed (content_of s) until
phase_of (Ended s until) = ended (content_of s) until

abbrev pub key_at_of : KeyAt → rules.KeyAt
key_at_of k = record { key = k.key; tick = k.tick }

-- Keys, in the order in which they came.
abbrev pub keys_of : List KeyAt → List rules.KeyAt
keys_of ks = map key_at_of ks

abbrev pub page_of : Page → rules.Page
page_of p = record { phase = phase_of p.phase; keys = keys_of (vec_items p.keys) }

-- Was this key shown before: said by what becomes of the keys where it is shown once more.
abbrev pub Known : Bool → List ℕ → List rules.KeyAt → Type 0
Known known key ks = (tick : ℕ) → with_key_at tick key ks ≡ cond known ks (ks ++ record { key = key; tick = tick } ∷ [])

-- The payout of every phase that is this one: the sheet counts since `until`.
abbrev pub PaidAs : Content → (until delay : ℕ) → List rules.KeyAt → ℕ → Type 0
PaidAs s until delay keys paid = (phase : rules.Phase) → phase ≡ ended s until → paid ≡ payout_of delay keys phase

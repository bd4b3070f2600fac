use Rattle.std.proofs.Common.{◌<◌, List, [], ◌∷◌, w8}
use mir.Val.{Val}
use base.Fml.{Fml}
use denote.Array.{each}
use denote.Plain.{UInt}
use denote.Shadow.{shadow}
use Rattle.std.specs.List.{AllByRecursion}
use Rattle.journal.proofs.goods.bytes_good.Goals as goal

-- what is known of each element of an array
all_known : {X : Type 0} (f : X → List Val → Fml) (P : X → Type 0) → ((x : X) (v : Val) → shadow (f x (v ∷ [])) → P x) → (xs : List X) (vs : List Val) → shadow (each X f xs vs) → AllByRecursion P xs
all_known f P one [] vs h = tt
all_known f P one (x ∷ xs) [] h = absurd h
all_known f P one (x ∷ xs) (v ∷ vs) h = (one x v h.0, all_known f P one xs vs h.1)

pub returns : goal.returns
returns c =
    record { long = c.well_formed.0.1.0.1; all = all_known (UInt w8).own_val (λ b. b < 256) (λ b v k. k.1) c.args.bytes _ c.well_formed.0.1.1 }

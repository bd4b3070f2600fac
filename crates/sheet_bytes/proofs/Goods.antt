-- What the checker knows of a sheet that a function is passed: its numbers fit, down to the bytes of each lock.
use Rattle.std.proofs.Common.{ℕ, ◌<◌, ◌≤◌, List, [], ◌∷◌, length, take, arith, w8}
use mir.Val.{Val}
use base.Fml.{Fml}
use denote.Array.{each}
use denote.Laws.{Is}
use denote.Plain.{UInt}
use denote.Shadow.{shadow}
use denote.Struct.Declared.{row}
use Rattle.std.specs.List.{AllByRecursion}
use Rattle.std.proofs.lemmas.List.{length-take}
use Rattle.std.proofs.ByRecursion.{All-take}
use Rattle.sheet.specs.declared.types.Payment.{Payment}
use Rattle.sheet.specs.declared.types.Sheet.{Sheet}
use Rattle.sheet.specs.contracts.types.Payment as payments
use Rattle.sheet.specs.contracts.types.Sheet as sheets
use Rattle.sheet.specs.Contents.{content_of}
use Rattle.sheet_bytes.specs.Theorems.{GoodPayment, Good}

-- what is known of each element of an array
all_known : {X : Type 0} (f : X → List Val → Fml) (P : X → Type 0) → ((x : X) (v : Val) → shadow (f x (v ∷ [])) → P x) → (xs : List X) (vs : List Val) → shadow (each X f xs vs) → AllByRecursion P xs
all_known f P one [] vs h = tt
all_known f P one (x ∷ xs) [] h = absurd h
all_known f P one (x ∷ xs) (v ∷ vs) h = (one x v h.0, all_known f P one xs vs h.1)

payment_good : (p : Payment) (vs : List Val) → Is (row payments.the_type) p vs → GoodPayment p
payment_good p vs h =
    record {
      long = h.1.1.0.1.0.1;
      bytes = all_known (UInt w8).own_val (λ b. b < 256) (λ b v k. k.1) p.lock _ h.1.1.0.1.1;
      amount = h.1.1.1.0.1;
      end = h.1.1.1.1.0.1;
    }

few : (n : ℕ) (ps : List Payment) → n ≤ 32 → length (take n ps) ≤ 32
few n ps h = simp length-take (omega arith)

firsts : (n : ℕ) (ps : List Payment) (vs : List Val) → shadow (each Payment (row payments.the_type).own_val ps vs) → AllByRecursion GoodPayment (take n ps)
firsts n ps vs h =
    All-take GoodPayment n ps (all_known (row payments.the_type).own_val GoodPayment (λ p v k. payment_good p (v ∷ []) k) ps vs h)

pub sheet_good : (s : Sheet) (vs : List Val) → Is (row sheets.the_type) s vs → Good (content_of s)
sheet_good s vs h =
    record {
      account = h.1.1.0.1;
      number = h.1.1.1.0.1;
      own = h.1.1.1.1.0.1;
      theirs = h.1.1.1.1.1.0.1;
      few_ins = few s.in_count s.ins s.few_ins;
      few_outs = few s.out_count s.outs s.few_outs;
      ins = firsts s.in_count s.ins _ h.1.1.1.1.1.1.0.1.1;
      outs = firsts s.out_count s.outs _ h.1.1.1.1.1.1.1.1.0.1.1;
    }

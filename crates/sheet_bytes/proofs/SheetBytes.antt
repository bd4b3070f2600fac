-- The parts of a sheet's bytes, one after another, and the bytes from a place on.
use Rattle.std.proofs.Common.{◌≡◌, ℕ, List, ◌++◌, vec_items, Vec, ap, ◌∙◌}
use Rattle.std.specs.declared.alloc.Global.{Global}
use Rattle.sheet.specs.declared.types.Payment.{Payment}
use Rattle.sheet.specs.Contents.{Content}
use Rattle.sheet_bytes.specs.Appends.{Put}
use Rattle.sheet_bytes.specs.Bytes.{head_bytes, list_bytes, sheet_bytes}
use Rattle.sheet_bytes.proofs.Appending.{put_then}

pub put_sheet : {a b c d : Vec ℕ Global} (s : Content) (xs ys : List Payment) (k m n : ℕ) → xs ≡ s.ins → ys ≡ s.outs → Put a b (head_bytes s) k → Put b c (list_bytes xs) m → Put c d (list_bytes ys) n → vec_items d ≡ vec_items a ++ sheet_bytes s
unfolding sheet_bytes
put_sheet {a} s xs ys k m n e f p q r =
    (put_then _ _ _ _ (put_then _ _ _ _ p q) r).items ∙ ap (λ zs. vec_items a ++ zs) (ap (λ zs. head_bytes s ++ list_bytes zs ++ list_bytes ys) e ∙ ap (λ zs. head_bytes s ++ list_bytes s.ins ++ list_bytes zs) f)

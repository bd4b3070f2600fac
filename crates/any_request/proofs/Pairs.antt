-- A sheet and the signature under it.
use Rattle.std.proofs.Common.{◌≡◌, ℕ, ◌-◌, ◌≤◌, List, [], ◌∷◌, length, take, drop, slice_index, Ok, ap, sym, ◌∙◌, rules}
use Rattle.std.proofs.Math.Seq.{take-length}
use Rattle.sheet.specs.Contents.{Content}
use Rattle.judgement.specs.declared.types.Signature.{Signature}
use Rattle.any_request.specs.Messages.{proposed_signed, proposed_read, signature_read, as_pair, pair_read}

less : (b : ℕ) (bs : List ℕ) → length (b ∷ bs) - 1 ≡ length bs
less b bs = search rules

-- A first byte and what follows it are the whole.
first_back : (x : ℕ) (bs : List ℕ) → 1 ≤ length bs → slice_index bs 0 ≡ x → x ∷ take (length bs - 1) (drop 1 bs) ≡ bs
first_back x [] h e = search rules
first_back x (b ∷ bs) h e =
    ap (λ y. y ∷ take (length (b ∷ bs) - 1) bs) (sym e) ∙ ap (λ l. b ∷ l) (ap (λ n. take n bs) (less b bs) ∙ take-length bs)

-- Where both are read past their first bytes, the two are the pair.
pub pair_is : (s : Content) (g : Signature) (bs cs : List ℕ) → 1 ≤ length bs → 1 ≤ length cs → slice_index bs 0 ≡ 1 → slice_index cs 0 ≡ 2
    → Ok s ≡ proposed_read (1 ∷ take (length bs - 1) (drop 1 bs)) → Ok g ≡ signature_read (2 ∷ take (length cs - 1) (drop 1 cs))
    → Ok (proposed_signed s g) ≡ pair_read bs cs
pair_is s g bs cs some_b some_c first_b first_c p q =
    ap (as_pair (Ok s)) (q ∙ ap signature_read (first_back 2 cs some_c first_c)) ∙ ap (λ r. as_pair r (signature_read cs)) (p ∙ ap proposed_read (first_back 1 bs some_b first_b))

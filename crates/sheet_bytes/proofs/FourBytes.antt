-- A number as four bytes: at a place among others, read back, and written again.
use Rattle.std.proofs.Common.{◌≡◌, ℕ, ◌+◌, ◌*◌, ◌/◌, ◌%◌, ◌^◌, ◌<◌, ◌≤◌, List, [], ◌∷◌, length, get_or, take, drop, sym, ap, ◌∙◌, add-zero, arith}
use Rattle.std.proofs.lemmas.List.{get_or-drop}
use Rattle.std.proofs.lemmas.Nat.{shr-shr}
use Rattle.sheet_bytes.specs.Bytes.{number_bytes, number_of}
use Rattle.sheet_bytes.specs.Theorems.{AreBytes}

pub number_at : (bs : List ℕ) (at : ℕ) → number_of (drop at bs) ≡ get_or bs at 0 * 2 ^ 24 + get_or bs (at + 1) 0 * 2 ^ 16 + get_or bs (at + 2) 0 * 2 ^ 8 + get_or bs (at + 3) 0
number_at bs at = rw (get_or-drop at bs 0 0, get_or-drop at bs 1 0, get_or-drop at bs 2 0, get_or-drop at bs 3 0, add-zero)

digits : (n : ℕ) → n < 2 ^ 32 → n / 2 ^ 8 / 2 ^ 8 / 2 ^ 8 % 256 * 2 ^ 24 + n / 2 ^ 8 / 2 ^ 8 % 256 * 2 ^ 16 + n / 2 ^ 8 % 256 * 2 ^ 8 + n % 256 ≡ n
digits n h = omega arith

pub number_back : (n : ℕ) → n < 2 ^ 32 → number_of (number_bytes n) ≡ n
number_back n h =
    let two : n / 2 ^ 8 / 2 ^ 8 ≡ n / 2 ^ 16 = shr-shr n 8 8 in
    let three : n / 2 ^ 8 / 2 ^ 8 / 2 ^ 8 ≡ n / 2 ^ 24 = ap (λ k. k / 2 ^ 8) two ∙ shr-shr n 16 8 in
    ap (λ k. k % 256 * 2 ^ 24 + n / 2 ^ 16 % 256 * 2 ^ 16 + n / 2 ^ 8 % 256 * 2 ^ 8 + n % 256) (sym three) ∙ ap (λ k. n / 2 ^ 8 / 2 ^ 8 / 2 ^ 8 % 256 * 2 ^ 24 + k % 256 * 2 ^ 16 + n / 2 ^ 8 % 256 * 2 ^ 8 + n % 256) (sym two) ∙ digits n h

written_again : (a b c d : ℕ) → a < 256 → b < 256 → c < 256 → d < 256 → number_bytes (a * 2 ^ 24 + b * 2 ^ 16 + c * 2 ^ 8 + d) ≡ a ∷ b ∷ c ∷ d ∷ []
written_again a b c d ha hb hc hd =
    let n : ℕ = a * 2 ^ 24 + b * 2 ^ 16 + c * 2 ^ 8 + d in
    let ea : n / 2 ^ 24 % 256 ≡ a = omega arith in
    let eb : n / 2 ^ 16 % 256 ≡ b = omega arith in
    let ec : n / 2 ^ 8 % 256 ≡ c = omega arith in
    let ed : n % 256 ≡ d = omega arith in
    cc

pub number_again : (bs : List ℕ) → AreBytes bs → 4 ≤ length bs → (number_of bs < 2 ^ 32) × (take 4 bs ≡ number_bytes (number_of bs))
number_again [] bytes h = absurd (omega arith)
number_again (a ∷ []) bytes h = absurd (omega arith)
number_again (a ∷ b ∷ []) bytes h = absurd (omega arith)
number_again (a ∷ b ∷ c ∷ []) bytes h = absurd (omega arith)
number_again (a ∷ b ∷ c ∷ d ∷ bs) (ha, (hb, (hc, (hd, bytes)))) h = (omega arith, sym (written_again a b c d ha hb hc hd))

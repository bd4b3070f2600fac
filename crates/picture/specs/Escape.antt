-- How a text stands in an XML document. Assumes nothing.
use Rattle.std.specs.Prelude.{ℕ, cond, List, [], ◌∷◌, ◌==◌, ◌≢◌}
use Rattle.std.specs.Int.{is_in_range}
use Rattle.std.specs.List.{flat_map, AllByRecursion}

-- What stands for a byte: `&amp;`, `&lt;`, `&gt;` and `&quot;` for the four that mean something in XML, the byte itself where it can be printed
-- (32 to 126), and a question mark for every other, so that whatever comes in is well-formed.
abbrev pub escaped_byte : ℕ → List ℕ
escaped_byte b =
    cond (b == 38) (38 ∷ 97 ∷ 109 ∷ 112 ∷ 59 ∷ [])
    (cond (b == 60) (38 ∷ 108 ∷ 116 ∷ 59 ∷ [])
    (cond (b == 62) (38 ∷ 103 ∷ 116 ∷ 59 ∷ [])
    (cond (b == 34) (38 ∷ 113 ∷ 117 ∷ 111 ∷ 116 ∷ 59 ∷ [])
    (cond (is_in_range 32 126 b) (b ∷ []) (63 ∷ [])))))

-- A text, byte by byte.
abbrev pub escaped : List ℕ → List ℕ
escaped text = flat_map escaped_byte text

-- No byte of an escaped text opens or closes a tag or ends a quoted value.
abbrev pub NoMarkup : Type 0
NoMarkup = (text : List ℕ) → AllByRecursion (λ b. (b ≢ 60) × (b ≢ 62) × (b ≢ 34)) (escaped text)

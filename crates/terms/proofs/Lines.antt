-- The lines of a text, as `split` gives them with their numbers, and what all of them say.
use Rattle.std.proofs.Common.{◌≡◌, ℕ, ◌+◌, ◌<◌, Bool, List, [], ◌∷◌, cond, Ok, Some, None, Option, ◌==◌, length, get_or, drop, sym, refl, ap, ◌∙◌, arith}
use Rattle.std.specs.List.{slice_split, onto_first, enumerate_from}
use Rattle.std.proofs.lemmas.List.{drop_all, drop_more}
use Rattle.std.proofs.lemmas.List.FromFn.{length-enumerate_from, get_or-enumerate_from}
use Rattle.std.specs.Iterator.{Yields}
use Rattle.std.proofs.lemmas.Iterator.{YieldsList}
use Rattle.std.proofs.lemmas.Iterator.Consumers.{YieldsList-turn, YieldsList-end}
use Rattle.lines.specs.Lines.{parts, on_first}
use Rattle.terms.specs.declared.types.Draft.{Draft}
use Rattle.terms.specs.Reading.{said_by, line_says, on_draft, all_say}

onto_is_on : (x : ℕ) (ps : List (List ℕ)) → onto_first x ps ≡ on_first x ps
onto_is_on x [] = refl
onto_is_on x (p ∷ ps) = refl

abbrev pub ends : ℕ → Bool
ends b = b == 10

pub split_is_parts : (t : List ℕ) → slice_split ends t ≡ parts 10 t
split_is_parts [] = refl
split_is_parts (x ∷ xs) =
    ap (λ (ps : List (List ℕ)). cond (x == 10) ([] ∷ ps) (onto_first x ps)) (split_is_parts xs) ∙ ap (λ (ps : List (List ℕ)). cond (x == 10) ([] ∷ parts 10 xs) ps) (onto_is_on x (parts 10 xs))

module _ (text : List ℕ) (n i : ℕ) (x : List ℕ) (h : n < length (enumerate_from 0 (slice_split ends text))) (e : ◌≡◌ {A = ℕ × List ℕ} (i, x) (get_or (enumerate_from 0 (slice_split ends text)) n (i, x))) where
  within : n < length (slice_split ends text)
  within = omega (arith, h, length-enumerate_from 0 (slice_split ends text))

  at : ◌≡◌ {A = ℕ × List ℕ} (i, x) (0 + n, get_or (slice_split ends text) n x)
  at = e ∙ get_or-enumerate_from 0 (slice_split ends text) n (i, x) within

  number : i ≡ n
  number = let k = ap (λ (p : ℕ × List ℕ). p.0) at in omega (arith, k)

  there : drop n (parts 10 text) ≡ x ∷ drop (n + 1) (parts 10 text)
  there =
      drop_more (parts 10 text) n x (omega (arith, within, ap (λ (ps : List (List ℕ)). length ps) (split_is_parts text)))
      ∙ ap (λ (y : List ℕ). y ∷ drop (n + 1) (parts 10 text)) (sym (ap (λ (p : ℕ × List ℕ). p.1) at ∙ ap (λ (ps : List (List ℕ)). get_or ps n x) (split_is_parts text)))

  -- what the lines from here on say, by the line that is here
  pub say_next : (d : Draft) → all_say d (1 + n) (drop n (parts 10 text)) ≡ on_draft (said_by d (i + 1) (line_says x)) (λ f. all_say f (1 + (n + 1)) (drop (n + 1) (parts 10 text)))
  say_next d =
      let k = number in
      let first : ◌≡◌ {A = ℕ} (1 + n) (i + 1) = omega (arith, k) in
      let next : ◌≡◌ {A = ℕ} (i + 1 + 1) (1 + (n + 1)) = omega (arith, k) in
      ap (all_say d (1 + n)) there
      ∙ (ap (λ (m : ℕ). on_draft (said_by d m (line_says x)) (λ f. all_say f (m + 1) (drop (n + 1) (parts 10 text)))) first
      ∙ ap (λ (m : ℕ). on_draft (said_by d (i + 1) (line_says x)) (λ f. all_say f m (drop (n + 1) (parts 10 text)))) next)

-- after the last line
pub say_end : (text : List ℕ) (n : ℕ) (d : Draft) → n ≡ length (enumerate_from 0 (slice_split ends text)) → all_say d (1 + n) (drop n (parts 10 text)) ≡ Ok d
say_end text n d e =
    ap (all_say d (1 + n)) (drop_all n (parts 10 text) (omega (arith, e, length-enumerate_from 0 (slice_split ends text), ap (λ (ps : List (List ℕ)). length ps) (split_is_parts text))))

-- `YieldsList-turn` and `YieldsList-end`, with what the loop has taken first: it says which steps the list is yielded by
module _ {S A B : Type 0} {steps : S → Option A → S → Type 0} {v : A → B} {s : S} {all : List B} (xs : List A) (t : S) (y : Yields steps s xs t) (r : Option A) (u : S) where
  pub turn_of : (x : A) → r ≡ Some x → steps t r u → YieldsList steps v s all → (length xs < length all) × (v x ≡ get_or all (length xs) (v x))
  turn_of x is p e = YieldsList-turn e xs t y r u x is p

  pub end_of : r ≡ None → steps t r u → YieldsList steps v s all → length xs ≡ length all
  end_of is p e = (YieldsList-end e xs t y r u is p).1

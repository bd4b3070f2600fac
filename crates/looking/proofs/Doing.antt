-- Acts that are done one after the other: what is left of them, and how that gets less.
use Rattle.std.proofs.Common.{◌≡◌, ℕ, ◌+◌, ◌<◌, ◌≤◌, Bool, true, false, List, [], ◌∷◌, ◌++◌, map, length, get_or, drop, is_err, Ok, Err, Result, sym, refl, ap, ◌∙◌, subst, inl, inr, arith}
use Rattle.std.proofs.lemmas.List.{drop_more, at_drop_all}
use Rattle.node_state.specs.Nodes.{NodeState}
use Rattle.outcome.specs.declared.types.Fault.{Fault}
use Rattle.outcome.specs.Acts.{Act}
use Rattle.outcome.specs.Logs.{extended, Begun}
use Rattle.looking.specs.Steps.{Did, Recorded, Became}

pub begun_none : (log acts : List Act) → Begun log acts log
begun_none log [] = refl
begun_none log (a ∷ others) = inl refl

extended_both : (log xs ys : List Act) → extended log (xs ++ ys) ≡ extended (extended log xs) ys
extended_both log [] ys = refl
extended_both log (a ∷ others) ys = extended_both (log ++ a ∷ []) others ys

pub begun_first : (log xs ys after : List Act) → Begun log xs after → Begun log (xs ++ ys) after
begun_first log [] ys after e = subst (Begun log ys) (sym e) (begun_none log ys)
begun_first log (a ∷ others) ys after (inl e) = inl e
begun_first log (a ∷ others) ys after (inr b) = inr (begun_first (log ++ a ∷ []) others ys after b)

begun_second : (log xs ys after : List Act) → Begun (extended log xs) ys after → Begun log (xs ++ ys) after
begun_second log [] ys after b = b
begun_second log (a ∷ others) ys after b = inr (begun_second (log ++ a ∷ []) others ys after b)

-- From a log on all these acts are to be done. Up to another log some have been, and the rest is left.
pub record Left (start all log rest : List Act) : Type 0 where
  pub whole : extended log rest ≡ extended start all
  pub part : (after : List Act) → Begun log rest after → Begun start all after

module _ (start all log : List Act) where
  -- a first part of the rest was done
  pub left_less : (xs ys mid : List Act) → Left start all log (xs ++ ys) → mid ≡ extended log xs → Left start all mid ys
  left_less xs ys mid l e =
      record {
        whole = ap (λ x. extended x ys) e ∙ sym (extended_both log xs ys) ∙ l.whole;
        part = λ after b. l.part after (begun_second log xs ys after (subst (λ x. Begun x ys after) e b));
      }

  -- a part of that first part was done
  pub left_failed : (xs ys after : List Act) → Left start all log (xs ++ ys) → Begun log xs after → Begun start all after
  left_failed xs ys after l b = l.part after (begun_first log xs ys after b)

  -- nothing more was done
  pub left_stopped : (rest after : List Act) → Left start all log rest → after ≡ log → Begun start all after
  left_stopped rest after l e = l.part after (subst (Begun log rest) (sym e) (begun_none log rest))

-- One act for each element of a list, of which j have been passed.
module _ {X : Type 0} (f : X → Act) (xs : List X) (start all log : List Act) (j : ℕ) where
  pub each_more : (d : X) (mid : List Act) → j < length xs → Left start all log (map f (drop j xs)) → mid ≡ log ++ f (get_or xs j d) ∷ [] → Left start all mid (map f (drop (j + 1) xs))
  each_more d mid h l e =
      left_less start all log (f (get_or xs j d) ∷ []) (map f (drop (j + 1) xs)) mid
      (subst (λ ys. Left start all log (map f ys)) (drop_more xs j d h) l) e

  pub each_done : length xs ≤ j → Left start all log (map f (drop j xs)) → log ≡ extended start all
  each_done h l = sym (at_drop_all (λ ys. extended log (map f ys)) xs j h) ∙ l.whole

-- Two lists of acts in a row.
module _ (log xs ys mid after : List Act) (first : mid ≡ extended log xs) where
  pub second_failed : Begun mid ys after → Begun log (xs ++ ys) after
  second_failed b = begun_second log xs ys after (subst (λ x. Begun x ys after) first b)

  pub both_done : after ≡ extended mid ys → after ≡ extended log (xs ++ ys)
  both_done e = e ∙ ap (λ x. extended x ys) first ∙ sym (extended_both log xs ys)

-- A failure says that a first part was done.
pub no_error : {X : Type 0} (C : Type 0) (x : X) → is_err {E = Fault} (Ok x) ≡ true → C
no_error C x e = let z : ◌≡◌ {A = Bool} false true = e in let w : ◌≡◌ {A = ℕ} 0 1 = cc in absurd (omega arith)

module _ (log acts after : List Act) where
  pub did_failed : {X : Type 0} (r : Result X Fault) → is_err r ≡ true → Begun log acts after → Did log acts r after
  did_failed (Ok x) e b = no_error (after ≡ extended log acts) x e
  did_failed (Err f) e b = b

  pub recorded_failed : (n m : NodeState) (r : Result Bool Fault) → is_err r ≡ true → Begun log acts after → Recorded n log acts r m after
  recorded_failed n m (Ok x) e b = no_error (Recorded n log acts (Ok x) m after) x e
  recorded_failed n m (Err f) e b = b

  pub became_failed : (n m : NodeState) (r : Result (Unit {0}) Fault) → is_err r ≡ true → Begun log acts after → Became n log acts r m after
  became_failed n m (Ok x) e b = no_error (Became n log acts (Ok x) m after) x e
  became_failed n m (Err f) e b = b

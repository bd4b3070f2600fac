-- The schedule word by word, and what one round adds.
use Rattle.std.proofs.Common.{◌≡◌, ℕ, zero, suc, ◌+◌, ◌-◌, ◌<◌, ◌≤◌, List, [], ◌∷◌, ◌++◌, length, get_or, take, set, sym, refl, ap, ◌∙◌, subst, ⊎_elim, add-one, arith}
use Rattle.std.proofs.lemmas.List.{get_or-take, get_or_append_left, get_or_at, length_push, take_more_set}
use Rattle.std.proofs.lemmas.Bool.{cases_lt, cond_below, cond_above}
use Rattle.digest.specs.declared.state.State.{State}
use Rattle.digest.specs.Sha256.{word, next_word, word_at, schedule, round, rounds, constants, added, compressed}
use Rattle.digest.specs.Progress.{Reached}

pub length_schedule : (n : ℕ) (block : List ℕ) → length (schedule n block) ≡ n
unfolding schedule
length_schedule zero block = refl
length_schedule (suc n) block =
    let w = schedule n block in
    length_push w (word_at block w n) ∙ ap (λ k. k + 1) (length_schedule n block) ∙ add-one n

-- word t of the schedule, however many words follow it
pub get_d_schedule :
    (n : ℕ) (block : List ℕ) (t : ℕ) → t < n → get_or (schedule n block) t 0 ≡ word_at block (schedule t block) t
unfolding schedule
get_d_schedule zero block t h = absurd (omega arith)
get_d_schedule (suc n) block t h =
    let w = schedule n block in
    let long : length w ≡ n = length_schedule n block in
    ⊎_elim
    (λ below. get_or_append_left w (word_at block w n ∷ []) 0 t (omega arith) ∙ get_d_schedule n block t below)
    (λ above. let same : n ≡ t = omega arith in
    subst (λ k. get_or (w ++ (word_at block w n ∷ [])) k 0 ≡ word_at block (schedule k block) k) same
    (get_or_at w (word_at block w n) [] 0 n long))
    (cases_lt t n)

-- a later word reads earlier ones only
pub next_word_take : (w : List ℕ) (t : ℕ) → 16 ≤ t → next_word (take t w) t ≡ next_word w t
next_word_take w t h =
    rw (
      get_or-take t w (t - 2) 0 (omega arith),
      get_or-take t w (t - 7) 0 (omega arith),
      get_or-take t w (t - 15) 0 (omega arith),
      get_or-take t w (t - 16) 0 (omega arith),
    )

-- the word that the code writes at t is the schedule's, in the first rounds and in the later ones
pub first_word : (block w : List ℕ) (t x : ℕ) → t < 16 → x ≡ word block t → x ≡ word_at block (take t w) t
first_word block w t x h is = is ∙ cond_below t 16 (word block t) (next_word (take t w) t) h

pub later_word : (block w : List ℕ) (t x : ℕ) → 16 ≤ t → x ≡ next_word w t → x ≡ word_at block (take t w) t
later_word block w t x h is =
    cond_above t 16 (word block t) (next_word (take t w) t) x h (is ∙ sym (next_word_take w t h))

-- round t, which writes word t first
pub round_more :
    (before : State) (block : List ℕ) (t n : ℕ) (s r : State) (w : List ℕ) (x k : ℕ) → t < 64 → length w ≡ 64
    → n ≡ t + 1 → Reached before block t s w → x ≡ word_at block (take t w) t → k ≡ get_or constants t 0 → r ≡ round s k x
    → Reached before block n r (set w t x)
unfolding schedule rounds
round_more before block t n s r w x k h long more at is key ran =
    let word-is : x ≡ word_at block (schedule t block) t = subst (λ v. x ≡ word_at block v t) at.words is in
    let next : n ≡ suc t = more ∙ add-one t in
    record {
      words =
          ap (λ k. take k (set w t x)) more ∙ take_more_set w t x (omega arith)
          ∙ ap (λ v. v ++ (x ∷ [])) at.words ∙ ap (λ y. schedule t block ++ (y ∷ [])) word-is
          ∙ sym (ap (λ k. schedule k block) next);
      state =
          ran ∙ ap (λ c. round s c x) key ∙ ap (λ v. round v (get_or constants t 0) x) at.state
          ∙ ap (λ y. round (rounds t before (schedule 64 block)) (get_or constants t 0) y)
          (word-is ∙ sym (get_d_schedule 64 block t h))
          ∙ sym (ap (λ k. rounds k before (schedule 64 block)) next);
    }

pub rounds_none : (before : State) (block w : List ℕ) → Reached before block 0 before w
unfolding schedule rounds
rounds_none before block w = record { words = refl; state = refl }

pub rounds_all :
    (before : State) (block : List ℕ) (n : ℕ) (v r : State) (w : List ℕ) → n ≡ 64 → Reached before block n v w
    → r ≡ added v before → r ≡ compressed before block
unfolding compressed
rounds_all before block n v r w all at ran =
    ran ∙ ap (λ u. added u before) (at.state ∙ ap (λ k. rounds k before (schedule 64 block)) all)

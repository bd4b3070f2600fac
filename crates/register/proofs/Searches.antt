-- What any and all answer of a list, in the words of the rules.
use Rattle.std.proofs.Common.{◌≡◌, ℕ, Bool, true, false, ◌&&◌, ◌||◌, ltb, leb, List, [], ◌∷◌, refl, ap, ◌∙◌, subst, sym}
use Rattle.std.specs.List.{list_any, list_all}
use Rattle.std.specs.Str.{bytes_eq}
use Rattle.sheet.specs.declared.types.Payment.{Payment}
use Rattle.digest.specs.Sha256.{sha256}
use Rattle.register.specs.Register as rules
use Rattle.register.specs.Register.{shown_in_time, all_over, with_key_at}
use Rattle.register.specs.declared.types.KeyAt.{KeyAt}
use Rattle.register.specs.Pages.{key_at_of, keys_of, Known}

abbrev pub in_time : ℕ → Payment → KeyAt → Bool
in_time last p k = bytes_eq (sha256 k.key) p.lock && (leb k.tick p.end || leb k.tick last)

any_shown : (last : ℕ) (p : Payment) (ks : List KeyAt) → list_any (in_time last p) ks ≡ shown_in_time last p (keys_of ks)
any_shown last p [] = refl
any_shown last p (k ∷ ks) = ap (λ b. in_time last p k || b) (any_shown last p ks)

pub shown_told : (r : Bool) (last : ℕ) (p : Payment) (ks : List KeyAt) → r ≡ list_any (in_time last p) ks → r ≡ shown_in_time last p (keys_of ks)
shown_told r last p ks e = e ∙ any_shown last p ks

abbrev pub over : ℕ → ℕ → Payment → Bool
over last tick p = ltb p.end tick && ltb last tick

each_over : (last tick : ℕ) (ps : List Payment) → list_all (over last tick) ps ≡ all_over last tick ps
each_over last tick [] = refl
each_over last tick (p ∷ ps) = ap (λ b. over last tick p && b) (each_over last tick ps)

pub over_told : (r : Bool) (last tick : ℕ) (ps : List Payment) → r ≡ list_all (over last tick) ps → r ≡ all_over last tick ps
over_told r last tick ps e = e ∙ each_over last tick ps

-- past a key that is another
further : (b : Bool) (key : List ℕ) (k : rules.KeyAt) (ks : List rules.KeyAt) → bytes_eq k.key key ≡ false → Known b key ks → Known b key (k ∷ ks)
further true key k ks e h tick = rw e (ap (λ xs. k ∷ xs) (h tick))
further false key k ks e h tick = rw e (ap (λ xs. k ∷ xs) (h tick))

abbrev pub has_key : List ℕ → KeyAt → Bool
has_key key k = bytes_eq k.key key

any_known : (key : List ℕ) (ks : List KeyAt) → Known (list_any (has_key key) ks) key (keys_of ks)
any_known key [] = λ tick. refl
any_known key (k ∷ ks) = by (bytes_eq k.key key) refl (any_known key ks)
  where
    by : (b : Bool) → bytes_eq k.key key ≡ b → Known (list_any (has_key key) ks) key (keys_of ks) → Known (list_any (has_key key) (k ∷ ks)) key (keys_of (k ∷ ks))
    by true e h = λ tick. rw e
    by false e h = subst (λ b. Known (b || list_any (has_key key) ks) key (keys_of (k ∷ ks))) (sym e) (further (list_any (has_key key) ks) key (key_at_of k) (keys_of ks) e h)

pub known_told : (r : Bool) (key : List ℕ) (ks : List KeyAt) → r ≡ list_any (has_key key) ks → Known r key (keys_of ks)
known_told r key ks e = subst (λ b. Known b key (keys_of ks)) (sym e) (any_known key ks)

-- What a node that looks is told is what the register shows, for every test of a statement.
use Rattle.std.proofs.Common.{◌≡◌, ℕ, zero, suc, ◌<◌, Bool, true, false, cond, ◌&&◌, eqb, ◌⊎◌, List, [], ◌∷◌, ◌++◌, map, length, refl, ap, subst, inl, inr, arith}
use Rattle.std.proofs.lemmas.Slice.Eq.{bytes_eq-Decides}
use Rattle.std.proofs.lemmas.Bool.{eqb-true, eqb-false, eq-eqb, and_parts, and_from, or_cases, or_left, or_right}
use Rattle.std.specs.Str.{bytes_eq}
use Rattle.digest.specs.Sha256.{sha256}
use Rattle.looking.specs.declared.types.Shown.{Shown}
use Rattle.looking.specs.declared.types.Shown.TheVariants.{Dispute, Key}
use Rattle.looking.specs.Looking.{any_shown, is_dispute, is_shown_for}
use Rattle.register.specs.Register.{Phase, quiet, disputed, ended, KeyAt, Page}
use Rattle.promise_told.specs.World.{World, dispute_of, picture, picture_of, same_shown, all_among, is_true}
use Rattle.promise_told.specs.Main.{KeyBy}
use Rattle.promise_told.proofs.Safe.{Shows}

pub never : {A : Type 0} → false ≡ true → A
never e =
    let z : ◌≡◌ {A = ℕ} 1 0 = ap (λ (b : Bool). cond b 0 1) e in
    absurd (omega arith)

-- the same statement passes the same tests
same_is : (x y : Shown) → same_shown x y ≡ true → x ≡ y
same_is (Dispute i number until) (Dispute j m u) e =
    let parts = and_parts (eqb i j) (eqb number m && eqb until u) e in
    let more = and_parts (eqb number m) (eqb until u) parts.1 in
    let a : i ≡ j = eqb-true i j parts.0 in
    let b : number ≡ m = eqb-true number m more.0 in
    let c : until ≡ u = eqb-true until u more.1 in
    cc
same_is (Key i key at) (Key j k t) e =
    let parts = and_parts (eqb i j) (bytes_eq key k && eqb at t) e in
    let more = and_parts (bytes_eq key k) (eqb at t) parts.1 in
    let a : i ≡ j = eqb-true i j parts.0 in
    let b : key ≡ k = (bytes_eq-Decides key k).0 more.0 in
    let c : at ≡ t = eqb-true at t more.1 in
    cc
same_is (Dispute i number until) (Key j k t) e = never e
same_is (Key i key at) (Dispute j m u) e = never e

any_same : (test : Shown → Bool) (x : Shown) (l : List Shown) → any_shown (same_shown x) l ≡ true → test x ≡ true → any_shown test l ≡ true
any_same test x [] e h = never e
any_same test x (y ∷ l) e h = go (or_cases (same_shown x y) (any_shown (same_shown x) l) e) (λ q. any_same test x l q h)
  where
    go : (same_shown x y ≡ true) ⊎ (any_shown (same_shown x) l ≡ true) → (any_shown (same_shown x) l ≡ true → any_shown test l ≡ true) → any_shown test (y ∷ l) ≡ true
    go (inl q) rest = or_left (test y) (any_shown test l) (subst (λ (z : Shown). test z ≡ true) (same_is x y q) h)
    go (inr q) rest = or_right (test y) (any_shown test l) (rest q)

any_among : (test : Shown → Bool) (xs ys : List Shown) → all_among xs ys ≡ true → any_shown test xs ≡ true → any_shown test ys ≡ true
any_among test [] ys e h = never h
any_among test (x ∷ xs) ys e h =
    let parts = and_parts (any_shown (same_shown x) ys) (all_among xs ys) e in
    go parts.0 (or_cases (test x) (any_shown test xs) h) (λ q. any_among test xs ys parts.1 q)
  where
    go : any_shown (same_shown x) ys ≡ true → (test x ≡ true) ⊎ (any_shown test xs ≡ true) → (any_shown test xs ≡ true → any_shown test ys ≡ true) → any_shown test ys ≡ true
    go a (inl q) rest = any_same test x ys a q
    go a (inr q) rest = rest q

pub told_shown : (w : World) (told : List Shown) → is_true w told ≡ true → (test : Shown → Bool) → any_shown test told ≡ true → any_shown test (picture_of w) ≡ true
told_shown w told e test h = any_among test told (picture_of w) (and_parts (all_among (picture_of w) told) (all_among told (picture_of w)) e).1 h

pub shown_told : (w : World) (told : List Shown) → is_true w told ≡ true → (test : Shown → Bool) → any_shown test (picture_of w) ≡ true → any_shown test told ≡ true
shown_told w told e test h = any_among test (picture_of w) told (and_parts (all_among (picture_of w) told) (all_among told (picture_of w)) e).0 h

-- tests of two lists in a row
any_cases : (test : Shown → Bool) (xs ys : List Shown) → any_shown test (xs ++ ys) ≡ true → (any_shown test xs ≡ true) ⊎ (any_shown test ys ≡ true)
any_cases test [] ys e = inr e
any_cases test (x ∷ xs) ys e = go (or_cases (test x) (any_shown test (xs ++ ys)) e) (λ q. any_cases test xs ys q)
  where
    lift : (any_shown test xs ≡ true) ⊎ (any_shown test ys ≡ true) → (any_shown test (x ∷ xs) ≡ true) ⊎ (any_shown test ys ≡ true)
    lift (inl q) = inl (or_right (test x) (any_shown test xs) q)
    lift (inr q) = inr q

    go : (test x ≡ true) ⊎ (any_shown test (xs ++ ys) ≡ true) → (any_shown test (xs ++ ys) ≡ true → (any_shown test xs ≡ true) ⊎ (any_shown test ys ≡ true)) → (any_shown test (x ∷ xs) ≡ true) ⊎ (any_shown test ys ≡ true)
    go (inl q) rest = inl (or_left (test x) (any_shown test xs) q)
    go (inr q) rest = lift (rest q)

any_left : (test : Shown → Bool) (xs ys : List Shown) → any_shown test xs ≡ true → any_shown test (xs ++ ys) ≡ true
any_left test [] ys e = never e
any_left test (x ∷ xs) ys e = go (or_cases (test x) (any_shown test xs) e) (λ q. any_left test xs ys q)
  where
    go : (test x ≡ true) ⊎ (any_shown test xs ≡ true) → (any_shown test xs ≡ true → any_shown test (xs ++ ys) ≡ true) → any_shown test (x ∷ (xs ++ ys)) ≡ true
    go (inl q) rest = or_left (test x) (any_shown test (xs ++ ys)) q
    go (inr q) rest = or_right (test x) (any_shown test (xs ++ ys)) (rest q)

any_right : (test : Shown → Bool) (xs ys : List Shown) → any_shown test ys ≡ true → any_shown test (xs ++ ys) ≡ true
any_right test [] ys e = e
any_right test (x ∷ xs) ys e = or_right (test x) (any_shown test (xs ++ ys)) (any_right test xs ys e)

-- the page of one account in the picture
abbrev statements : ℕ → Page → List Shown
statements i page = dispute_of i page.phase ++ map (λ (k : KeyAt). Key i k.key k.tick) page.keys

shown_on : (test : Shown → Bool) (many : ℕ) (pages : ℕ → Page) → any_shown test (picture many pages) ≡ true → (j : ℕ) × (j < many) × (any_shown test (statements j (pages j)) ≡ true)
shown_on test zero pages e = never e
shown_on test (suc m) pages e = go (any_cases test (picture m pages ++ dispute_of m (pages m).phase) keys e) (λ q. shown_on test m pages q)
  where
    keys : List Shown
    keys = map (λ (k : KeyAt). Key m k.key k.tick) (pages m).keys

    Place : ℕ → Type 0
    Place n = (j : ℕ) × (j < n) × (any_shown test (statements j (pages j)) ≡ true)

    up : Place m → Place (suc m)
    up (j, l, h) = (j, omega arith, h)

    before : (any_shown test (picture m pages) ≡ true) ⊎ (any_shown test (dispute_of m (pages m).phase) ≡ true) → (any_shown test (picture m pages) ≡ true → Place m) → Place (suc m)
    before (inl q) rest = up (rest q)
    before (inr q) rest = (m, omega arith, any_left test (dispute_of m (pages m).phase) keys q)

    go : (any_shown test (picture m pages ++ dispute_of m (pages m).phase) ≡ true) ⊎ (any_shown test keys ≡ true) → (any_shown test (picture m pages) ≡ true → Place m) → Place (suc m)
    go (inl q) rest = before (any_cases test (picture m pages) (dispute_of m (pages m).phase) q) rest
    go (inr q) rest = (m, omega arith, any_right test (dispute_of m (pages m).phase) keys q)

on_shown : (test : Shown → Bool) (many : ℕ) (pages : ℕ → Page) (j : ℕ) → j < many → any_shown test (statements j (pages j)) ≡ true → any_shown test (picture many pages) ≡ true
on_shown test zero pages j l h = absurd (omega arith)
on_shown test (suc m) pages j l h = go (eqb j m) refl (λ q. on_shown test m pages j q h)
  where
    keys : List Shown
    keys = map (λ (k : KeyAt). Key m k.key k.tick) (pages m).keys

    here : (any_shown test (dispute_of m (pages m).phase) ≡ true) ⊎ (any_shown test keys ≡ true) → any_shown test (picture (suc m) pages) ≡ true
    here (inl q) = any_left test (picture m pages ++ dispute_of m (pages m).phase) keys (any_right test (picture m pages) (dispute_of m (pages m).phase) q)
    here (inr q) = any_right test (picture m pages ++ dispute_of m (pages m).phase) keys q

    go : (b : Bool) → eqb j m ≡ b → (j < m → any_shown test (picture m pages) ≡ true) → any_shown test (picture (suc m) pages) ≡ true
    go true q rest =
        let at : any_shown test (statements m (pages m)) ≡ true = subst (λ (x : ℕ). any_shown test (statements x (pages x)) ≡ true) (eqb-true j m q) h in
        here (any_cases test (dispute_of m (pages m).phase) keys at)
    go false q rest =
        let ne : j ≡ m → ⊥ = eqb-false j m q in
        any_left test (picture m pages ++ dispute_of m (pages m).phase) keys (any_left test (picture m pages) (dispute_of m (pages m).phase) (rest (omega arith)))

-- a dispute is shown just where the page has one
abbrev pub Passes : (ℕ → ℕ → Bool) → Phase → Type 0
Passes test quiet = ⊥
Passes test (disputed s until) = test s.number until ≡ true
Passes test (ended s until) = test s.number until ≡ true

keys_no_dispute : (i j : ℕ) (test : ℕ → ℕ → Bool) (ks : List KeyAt) → any_shown (is_dispute i test) (map (λ (k : KeyAt). Key j k.key k.tick) ks) ≡ true → ⊥
keys_no_dispute i j test [] e = never e
keys_no_dispute i j test (k ∷ ks) e = keys_no_dispute i j test ks e

dispute_on : (i j : ℕ) (test : ℕ → ℕ → Bool) (p : Phase) → any_shown (is_dispute i test) (dispute_of j p) ≡ true → (j ≡ i) × Passes test p
dispute_on i j test quiet e = never e
dispute_on i j test (disputed s until) e = one (or_cases (eqb j i && test s.number until) false e)
  where
    one : ((eqb j i && test s.number until) ≡ true) ⊎ (false ≡ true) → (j ≡ i) × (test s.number until ≡ true)
    one (inl h) = (eqb-true j i (and_parts (eqb j i) (test s.number until) h).0, (and_parts (eqb j i) (test s.number until) h).1)
    one (inr h) = never h
dispute_on i j test (ended s until) e = one (or_cases (eqb j i && test s.number until) false e)
  where
    one : ((eqb j i && test s.number until) ≡ true) ⊎ (false ≡ true) → (j ≡ i) × (test s.number until ≡ true)
    one (inl h) = (eqb-true j i (and_parts (eqb j i) (test s.number until) h).0, (and_parts (eqb j i) (test s.number until) h).1)
    one (inr h) = never h

on_dispute : (i : ℕ) (test : ℕ → ℕ → Bool) (p : Phase) → Passes test p → any_shown (is_dispute i test) (dispute_of i p) ≡ true
on_dispute i test quiet h = absurd h
on_dispute i test (disputed s until) h = or_left (eqb i i && test s.number until) false (and_from (eqb i i) (test s.number until) (eq-eqb i i refl) h)
on_dispute i test (ended s until) h = or_left (eqb i i && test s.number until) false (and_from (eqb i i) (test s.number until) (eq-eqb i i refl) h)

pub told_dispute : (w : World) (told : List Shown) → is_true w told ≡ true → (i : ℕ) (test : ℕ → ℕ → Bool) → any_shown (is_dispute i test) told ≡ true → Passes test (w.pages i).phase
told_dispute w told e i test h =
    let r = shown_on (is_dispute i test) (length w.history.node.accounts) w.pages (told_shown w told e (is_dispute i test) h) in
    go r.0 (any_cases (is_dispute i test) (dispute_of r.0 (w.pages r.0).phase) (map (λ (k : KeyAt). Key r.0 k.key k.tick) (w.pages r.0).keys) r.2)
  where
    go : (j : ℕ) → (any_shown (is_dispute i test) (dispute_of j (w.pages j).phase) ≡ true) ⊎ (any_shown (is_dispute i test) (map (λ (k : KeyAt). Key j k.key k.tick) (w.pages j).keys) ≡ true) →
        Passes test (w.pages i).phase
    go j (inl q) =
        let r = dispute_on i j test (w.pages j).phase q in
        subst (λ (k : ℕ). Passes test (w.pages k).phase) r.0 r.1
    go j (inr q) = absurd (keys_no_dispute i j test (w.pages j).keys q)

pub dispute_told : (w : World) (told : List Shown) → is_true w told ≡ true → (i : ℕ) → i < length w.history.node.accounts → (test : ℕ → ℕ → Bool) → Passes test (w.pages i).phase → any_shown (is_dispute i test) told ≡ true
dispute_told w told e i l test h =
    shown_told w told e (is_dispute i test)
    (on_shown (is_dispute i test) (length w.history.node.accounts) w.pages i l
    (any_left (is_dispute i test) (dispute_of i (w.pages i).phase) (map (λ (k : KeyAt). Key i k.key k.tick) (w.pages i).keys) (on_dispute i test (w.pages i).phase h)))

-- a key that is told for an account stands on its page
no_key_dispute : (i j : ℕ) (key : List ℕ) (p : Phase) → any_shown (is_shown_for i key) (dispute_of j p) ≡ true → ⊥
no_key_dispute i j key quiet e = never e
no_key_dispute i j key (disputed s until) e = never e
no_key_dispute i j key (ended s until) e = never e

key_on : (i j : ℕ) (key : List ℕ) (ks : List KeyAt) → any_shown (is_shown_for i key) (map (λ (k : KeyAt). Key j k.key k.tick) ks) ≡ true → (j ≡ i) × ((k : KeyAt) × Shows k ks × (k.key ≡ key))
key_on i j key [] e = never e
key_on i j key (k ∷ ks) e = go (or_cases (eqb j i && bytes_eq k.key key) (any_shown (is_shown_for i key) (map (λ (x : KeyAt). Key j x.key x.tick) ks)) e) (λ q. key_on i j key ks q)
  where
    up : (j ≡ i) × ((x : KeyAt) × Shows x ks × (x.key ≡ key)) → (j ≡ i) × ((x : KeyAt) × Shows x (k ∷ ks) × (x.key ≡ key))
    up (s, (x, m, q)) = (s, (x, inr m, q))

    go : ((eqb j i && bytes_eq k.key key) ≡ true) ⊎ (any_shown (is_shown_for i key) (map (λ (x : KeyAt). Key j x.key x.tick) ks) ≡ true) →
        (any_shown (is_shown_for i key) (map (λ (x : KeyAt). Key j x.key x.tick) ks) ≡ true → (j ≡ i) × ((x : KeyAt) × Shows x ks × (x.key ≡ key))) →
        (j ≡ i) × ((x : KeyAt) × Shows x (k ∷ ks) × (x.key ≡ key))
    go (inl h) rest =
        let parts = and_parts (eqb j i) (bytes_eq k.key key) h in
        (eqb-true j i parts.0, (k, inl refl, (bytes_eq-Decides k.key key).0 parts.1))
    go (inr h) rest = up (rest h)

pub told_key : (w : World) (told : List Shown) → is_true w told ≡ true → (i : ℕ) (key : List ℕ) → any_shown (is_shown_for i key) told ≡ true → (k : KeyAt) × Shows k (w.pages i).keys × (k.key ≡ key)
told_key w told e i key h =
    let r = shown_on (is_shown_for i key) (length w.history.node.accounts) w.pages (told_shown w told e (is_shown_for i key) h) in
    go r.0 (any_cases (is_shown_for i key) (dispute_of r.0 (w.pages r.0).phase) (map (λ (k : KeyAt). Key r.0 k.key k.tick) (w.pages r.0).keys) r.2)
  where
    go : (j : ℕ) → (any_shown (is_shown_for i key) (dispute_of j (w.pages j).phase) ≡ true) ⊎ (any_shown (is_shown_for i key) (map (λ (k : KeyAt). Key j k.key k.tick) (w.pages j).keys) ≡ true) →
        (k : KeyAt) × Shows k (w.pages i).keys × (k.key ≡ key)
    go j (inl q) = absurd (no_key_dispute i j key (w.pages j).phase q)
    go j (inr q) =
        let r = key_on i j key (w.pages j).keys q in
        subst (λ (x : ℕ). (k : KeyAt) × Shows k (w.pages x).keys × (k.key ≡ key)) r.0 r.1

-- a key of a lock that stands on a page is told
abbrev pub is_key_of : List ℕ → Shown → Bool
is_key_of lock (Dispute account number until) = false
is_key_of lock (Key account key tick) = bytes_eq (sha256 key) lock

on_key : (j by : ℕ) (lock : List ℕ) (ks : List KeyAt) → KeyBy by lock ks → any_shown (is_key_of lock) (map (λ (k : KeyAt). Key j k.key k.tick) ks) ≡ true
on_key j by lock [] m = absurd m
on_key j by lock (k ∷ ks) (inl h) = or_left (bytes_eq (sha256 k.key) lock) (any_shown (is_key_of lock) (map (λ (x : KeyAt). Key j x.key x.tick) ks)) ((bytes_eq-Decides (sha256 k.key) lock).1 h.0)
on_key j by lock (k ∷ ks) (inr m) = or_right (bytes_eq (sha256 k.key) lock) (any_shown (is_key_of lock) (map (λ (x : KeyAt). Key j x.key x.tick) ks)) (on_key j by lock ks m)

pub key_told : (w : World) (told : List Shown) → is_true w told ≡ true → (j by : ℕ) (lock : List ℕ) → j < length w.history.node.accounts → KeyBy by lock (w.pages j).keys → any_shown (is_key_of lock) told ≡ true
key_told w told e j by lock l m =
    shown_told w told e (is_key_of lock)
    (on_shown (is_key_of lock) (length w.history.node.accounts) w.pages j l
    (any_right (is_key_of lock) (dispute_of j (w.pages j).phase) (map (λ (k : KeyAt). Key j k.key k.tick) (w.pages j).keys) (on_key j by lock (w.pages j).keys m)))

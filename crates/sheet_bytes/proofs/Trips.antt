-- The theorems on the bytes of sheets.
use Rattle.std.proofs.Common.{◌≡◌, ℕ, ◌+◌, ◌*◌, ◌<◌, ◌≤◌, Bool, true, false, leb, List, [], ◌∷◌, ◌++◌, length, get_or, take, drop, Ok, Err, Result, sym, refl, ap, ◌∙◌, subst, arith, take-add}
use Rattle.std.proofs.ByRecursion.{All-append, All-drop, All-get_or, All-take}
use Rattle.std.proofs.lemmas.List.{append_assoc, append-nil, drop_at, drop-drop, drop_more, get_or_at, length-append, length-drop, length-take, take-append-drop, take_more, take-take}
use Rattle.std.proofs.lemmas.Bool.{and_from, and_parts, cond-true, cond-false, le-leb, leb-true}
use Rattle.std.specs.List.{flat_map, AllByRecursion}
use Rattle.refusal.specs.declared.Refusal.{Refusal}
use Rattle.refusal.specs.declared.Refusal.TheVariants.{Unreadable}
use Rattle.sheet.specs.declared.types.Payment.{Payment}
use Rattle.sheet.specs.Contents.{Content}
use Rattle.sheet_bytes.specs.Bytes.{number_bytes, number_of, payment_bytes, list_bytes, head_bytes, sheet_bytes, payments_of, ins_of, outs_of, size_of, whole, sheet_of, sheet_read}
use Rattle.sheet_bytes.specs.Theorems.{AreBytes, GoodPayment, Good, RoundTrip, OnlyWritten, CutShort}
use Rattle.sheet_bytes.proofs.FourBytes.{number_back, number_again}
use Rattle.sheet_bytes.proofs.FortyBytes.{payments_back, payments_length, payments_again}

content_joined : (a b : Content) → a.account ≡ b.account → a.number ≡ b.number → a.own ≡ b.own → a.theirs ≡ b.theirs → a.ins ≡ b.ins → a.outs ≡ b.outs → a ≡ b
content_joined a b k n o t i u =
    let all : ◌≡◌ {A = Content} (record { account = a.account; number = a.number; own = a.own; theirs = a.theirs; ins = a.ins; outs = a.outs }) (record { account = b.account; number = b.number; own = b.own; theirs = b.theirs; ins = b.ins; outs = b.outs }) = cc in
    all

-- the bytes begin with a whole sheet just if the counts are small and all is there
whole_from : (bs : List ℕ) → ins_of bs ≤ 32 → outs_of bs ≤ 32 → size_of bs ≤ length bs → whole bs ≡ true
whole_from bs few fewer all =
    and_from (leb 14 (length bs)) _ (le-leb _ _ (omega arith)) (and_from (leb (ins_of bs) 32) _ (le-leb _ _ few) (and_from (leb (15 + 40 * ins_of bs) (length bs)) _ (le-leb _ _ (omega arith)) (and_from (leb (outs_of bs) 32) _ (le-leb _ _ fewer) (le-leb _ _ all))))

whole_parts : (bs : List ℕ) → whole bs ≡ true → (ins_of bs ≤ 32) × (outs_of bs ≤ 32) × (size_of bs ≤ length bs)
whole_parts bs h =
    let a = and_parts (leb 14 (length bs)) _ h in
    let b = and_parts (leb (ins_of bs) 32) _ a.1 in
    let c = and_parts (leb (15 + 40 * ins_of bs) (length bs)) _ b.1 in
    let d = and_parts (leb (outs_of bs) 32) _ c.1 in
    (leb-true _ _ b.0, leb-true _ _ d.0, leb-true _ _ d.1)

read_whole : (bs : List ℕ) → whole bs ≡ true → sheet_read bs ≡ Ok (sheet_of bs, size_of bs)
read_whole bs w = cond-true (whole bs) _ _ w

read_nothing : (bs : List ℕ) → whole bs ≡ false → sheet_read bs ≡ Err Unreadable
read_nothing bs w = cond-false (whole bs) _ _ w

-- what comes before the count of the outs
abbrev front : Content → List ℕ
front s = head_bytes s ++ list_bytes s.ins

front_length : (s : Content) → Good s → length (front s) ≡ 14 + 40 * length s.ins
unfolding head_bytes
front_length s g = omega (arith, payments_length s.ins g.ins)

module _ (s : Content) (g : Good s) (rest : List ℕ) where
  abbrev following : List ℕ
  following = front s ++ (length s.outs ∷ (flat_map payment_bytes s.outs ++ rest))

  outs_said : outs_of following ≡ length s.outs
  unfolding head_bytes
  outs_said = get_or_at (front s) (length s.outs) (flat_map payment_bytes s.outs ++ rest) 0 (14 + 40 * length s.ins) (front_length s g)

  outs_read : payments_of (outs_of following) (drop (15 + 40 * ins_of following) following) ≡ s.outs
  unfolding head_bytes
  outs_read =
      let past : 15 + 40 * length s.ins ≡ 14 + 40 * length s.ins + 1 = omega arith in
      let left : drop (14 + 40 * length s.ins) following ≡ length s.outs ∷ (flat_map payment_bytes s.outs ++ rest) = drop_at (front s) _ (14 + 40 * length s.ins) (front_length s g) in
      let there : drop (15 + 40 * length s.ins) following ≡ flat_map payment_bytes s.outs ++ rest = ap (λ k. drop k following) past ∙ sym (drop-drop 1 (14 + 40 * length s.ins) following) ∙ ap (drop 1) left in
      ap (λ k. payments_of k (drop (15 + 40 * length s.ins) following)) outs_said ∙ ap (payments_of (length s.outs)) there ∙ payments_back s.outs g.outs rest

  content_read : sheet_of following ≡ s
  unfolding head_bytes
  content_read =
      content_joined (sheet_of following) s refl (number_back s.number g.number) (number_back s.own g.own) (number_back s.theirs g.theirs) (payments_back s.ins g.ins _) outs_read

  size_read : size_of following ≡ length (sheet_bytes s)
  unfolding head_bytes sheet_bytes
  size_read =
      ap (λ k. 15 + 40 * length s.ins + 40 * k) outs_said ∙ sym (length-append (front s) (list_bytes s.outs) ∙ omega (arith, front_length s g, payments_length s.outs g.outs))

  form : sheet_bytes s ++ rest ≡ following
  unfolding sheet_bytes
  form = append_assoc (front s) (list_bytes s.outs) rest

  enough : size_of following ≤ length following
  enough = omega (arith, size_read, ap length form, length-append (sheet_bytes s) rest)

  few : ins_of following ≤ 32
  unfolding head_bytes
  few = g.few_ins

  read_back : sheet_read (sheet_bytes s ++ rest) ≡ Ok (s, length (sheet_bytes s))
  read_back =
      let fewer : outs_of following ≤ 32 = omega (arith, outs_said, g.few_outs) in
      ap sheet_read form ∙ read_whole following (whole_from following few fewer enough) ∙ ap (λ (k : Content). Ok (k, size_of following)) content_read ∙ ap (λ (k : ℕ). Ok (s, k)) size_read

pub round_trip : RoundTrip
round_trip s g rest = read_back s g rest

-- payments with their count before them, read at a place
list_again : (at n : ℕ) (bs : List ℕ) → AreBytes bs → get_or bs at 0 ≡ n → at + (1 + 40 * n) ≤ length bs → AllByRecursion GoodPayment (payments_of n (drop (at + 1) bs)) × (length (payments_of n (drop (at + 1) bs)) ≡ n) × (take (1 + 40 * n) (drop at bs) ≡ list_bytes (payments_of n (drop (at + 1) bs)))
list_again at n bs bytes count h =
    let more : 40 * n ≤ length (drop (at + 1) bs) = simp length-drop (omega arith) in
    let read = payments_again n (drop (at + 1) bs) (All-drop _ (at + 1) bs bytes) more in
    let split : drop at bs ≡ get_or bs at 0 ∷ drop (at + 1) bs = drop_more bs at 0 (omega arith) in (
      read.0,
      read.1,
      take-add 1 (40 * n) (drop at bs) ∙ ap (λ cs. take 1 cs ++ take (40 * n) (drop 1 cs)) split ∙ ap (λ k. k ∷ take (40 * n) (drop (at + 1) bs)) (count ∙ sym read.1) ∙ ap (λ cs. length (payments_of n (drop (at + 1) bs)) ∷ cs) read.2,
    )

module _ (bs : List ℕ) (bytes : AreBytes bs) (few : ins_of bs ≤ 32) (fewer : outs_of bs ≤ 32) (all : size_of bs ≤ length bs) where
  number_there : (at : ℕ) → at + 4 ≤ length bs → (number_of (drop at bs) < 4294967296) × (take 4 (drop at bs) ≡ number_bytes (number_of (drop at bs)))
  number_there at h = number_again (drop at bs) (All-drop _ at bs bytes) (simp length-drop (omega arith))

  head_again : take 13 bs ≡ head_bytes (sheet_of bs)
  unfolding head_bytes
  head_again =
      let first : take 1 bs ≡ get_or bs 0 0 ∷ [] = take_more bs 0 0 (omega arith) in
      take-add 9 4 bs ∙ ap (λ cs. cs ++ take 4 (drop 9 bs)) (take-add 5 4 bs ∙ ap (λ cs. cs ++ take 4 (drop 5 bs)) (take-add 1 4 bs ∙ ap (λ cs. cs ++ take 4 (drop 1 bs)) first ∙ ap (λ cs. (get_or bs 0 0 ∷ []) ++ cs) (number_there 1 (omega arith)).1) ∙ ap (λ cs. (get_or bs 0 0 ∷ []) ++ number_bytes (number_of (drop 1 bs)) ++ cs) (number_there 5 (omega arith)).1) ∙ ap (λ cs. (get_or bs 0 0 ∷ []) ++ number_bytes (number_of (drop 1 bs)) ++ number_bytes (number_of (drop 5 bs)) ++ cs) (number_there 9 (omega arith)).1

  ins_again : AllByRecursion GoodPayment (sheet_of bs).ins × (length (sheet_of bs).ins ≡ ins_of bs) × (take (1 + 40 * ins_of bs) (drop 13 bs) ≡ list_bytes (sheet_of bs).ins)
  ins_again = list_again 13 (ins_of bs) bs bytes refl (omega arith)

  outs_again : AllByRecursion GoodPayment (sheet_of bs).outs × (length (sheet_of bs).outs ≡ outs_of bs) × (take (1 + 40 * outs_of bs) (drop (14 + 40 * ins_of bs) bs) ≡ list_bytes (sheet_of bs).outs)
  outs_again =
      let place : 14 + 40 * ins_of bs + 1 ≡ 15 + 40 * ins_of bs = omega arith in
      subst (λ k. AllByRecursion GoodPayment (payments_of (outs_of bs) (drop k bs)) × (length (payments_of (outs_of bs) (drop k bs)) ≡ outs_of bs) × (take (1 + 40 * outs_of bs) (drop (14 + 40 * ins_of bs) bs) ≡ list_bytes (payments_of (outs_of bs) (drop k bs)))) place (list_again (14 + 40 * ins_of bs) (outs_of bs) bs bytes refl (omega arith))

  good_again : Good (sheet_of bs)
  good_again =
      record {
        account = All-get_or _ bs 0 0 (omega arith) bytes;
        number = (number_there 1 (omega arith)).0;
        own = (number_there 5 (omega arith)).0;
        theirs = (number_there 9 (omega arith)).0;
        few_ins = omega (arith, ins_again.1);
        few_outs = omega (arith, outs_again.1);
        ins = ins_again.0;
        outs = outs_again.0;
      }

  bytes_again : take (size_of bs) bs ≡ sheet_bytes (sheet_of bs)
  unfolding sheet_bytes
  bytes_again =
      let size : size_of bs ≡ 13 + (1 + 40 * ins_of bs) + (1 + 40 * outs_of bs) = omega arith in
      let place : 13 + (1 + 40 * ins_of bs) ≡ 14 + 40 * ins_of bs = omega arith in
      let ins = take-add 13 (1 + 40 * ins_of bs) bs ∙ ap (λ cs. cs ++ take (1 + 40 * ins_of bs) (drop 13 bs)) head_again ∙ ap (λ cs. head_bytes (sheet_of bs) ++ cs) ins_again.2 in
      ap (λ k. take k bs) size ∙ take-add (13 + (1 + 40 * ins_of bs)) (1 + 40 * outs_of bs) bs ∙ ap (λ cs. cs ++ take (1 + 40 * outs_of bs) (drop (13 + (1 + 40 * ins_of bs)) bs)) ins ∙ ap (λ k. front (sheet_of bs) ++ take (1 + 40 * outs_of bs) (drop k bs)) place ∙ ap (λ cs. front (sheet_of bs) ++ cs) outs_again.2

pub only_written : OnlyWritten
only_written bs s n bytes e = by (whole bs) refl
  where
    by : (b : Bool) → whole bs ≡ b → Good s × (n ≤ length bs) × (take n bs ≡ sheet_bytes s)
    by true w =
        let both : ◌≡◌ {A = Result (Content × ℕ) Refusal} (Ok (sheet_of bs, size_of bs)) (Ok (s, n)) = sym (read_whole bs w) ∙ e in
        let same : ◌≡◌ {A = Content × ℕ} (sheet_of bs, size_of bs) (s, n) = cc in
        let parts = whole_parts bs w in
        subst (λ (r : Content × ℕ). Good r.0 × (r.1 ≤ length bs) × (take r.1 bs ≡ sheet_bytes r.0)) same (good_again bs bytes parts.0 parts.1 parts.2, parts.2, bytes_again bs bytes parts.0 parts.1 parts.2)
    by false w =
        let none : ◌≡◌ {A = Result (Content × ℕ) Refusal} (Err Unreadable) (Ok (s, n)) = sym (read_nothing bs w) ∙ e in
        let z : ◌≡◌ {A = ℕ} 0 1 = cc in absurd (omega arith)

-- what is written is bytes
number_bytes_lem : (n : ℕ) → AreBytes (number_bytes n)
number_bytes_lem n = (omega arith, (omega arith, (omega arith, (omega arith, tt))))

both_bytes : (xs ys : List ℕ) → AreBytes xs → AreBytes ys → AreBytes (xs ++ ys)
both_bytes = All-append (λ b. b < 256)

payments_bytes : (ps : List Payment) → AllByRecursion GoodPayment ps → AreBytes (flat_map payment_bytes ps)
payments_bytes [] g = tt
payments_bytes (p ∷ ps) g =
    both_bytes (payment_bytes p) (flat_map payment_bytes ps) (both_bytes (p.lock ++ number_bytes p.amount) (number_bytes p.end) (both_bytes p.lock (number_bytes p.amount) g.0.bytes (number_bytes_lem p.amount)) (number_bytes_lem p.end)) (payments_bytes ps g.1)

list_bytes_lem : (ps : List Payment) → length ps ≤ 32 → AllByRecursion GoodPayment ps → AreBytes (list_bytes ps)
list_bytes_lem ps few g = (omega arith, payments_bytes ps g)

head_bytes_lem : (s : Content) → Good s → AreBytes (head_bytes s)
unfolding head_bytes
head_bytes_lem s g =
    (g.account, both_bytes (number_bytes s.number ++ number_bytes s.own) (number_bytes s.theirs) (both_bytes (number_bytes s.number) (number_bytes s.own) (number_bytes_lem s.number) (number_bytes_lem s.own)) (number_bytes_lem s.theirs))

sheet_bytes_lem : (s : Content) → Good s → AreBytes (sheet_bytes s)
unfolding sheet_bytes
sheet_bytes_lem s g =
    both_bytes (front s) (list_bytes s.outs) (both_bytes (head_bytes s) (list_bytes s.ins) (head_bytes_lem s g) (list_bytes_lem s.ins g.few_ins g.ins)) (list_bytes_lem s.outs g.few_outs g.outs)

pub cut_short : CutShort
cut_short s g n h = by (whole (take n (sheet_bytes s))) refl
  where
    by : (b : Bool) → whole (take n (sheet_bytes s)) ≡ b → sheet_read (take n (sheet_bytes s)) ≡ Err Unreadable
    by false w = read_nothing (take n (sheet_bytes s)) w
    by true w =
        let cut : List ℕ = take n (sheet_bytes s) in
        let other = only_written cut (sheet_of cut) (size_of cut) (All-take _ n (sheet_bytes s) (sheet_bytes_lem s g)) (read_whole cut w) in
        let within : size_of cut ≤ n = omega (arith, other.1, length-take n (sheet_bytes s)) in
        let begins : sheet_bytes (sheet_of cut) ++ drop (size_of cut) (sheet_bytes s) ≡ sheet_bytes s ++ [] = ap (λ cs. cs ++ drop (size_of cut) (sheet_bytes s)) (sym other.2 ∙ take-take (size_of cut) n (sheet_bytes s) within) ∙ take-append-drop (size_of cut) (sheet_bytes s) ∙ sym (append-nil (sheet_bytes s)) in
        let both : ◌≡◌ {A = Result (Content × ℕ) Refusal} (Ok (sheet_of cut, length (sheet_bytes (sheet_of cut)))) (Ok (s, length (sheet_bytes s))) = sym (round_trip (sheet_of cut) other.0 _) ∙ ap sheet_read begins ∙ round_trip s g [] in
        let same : ◌≡◌ {A = Content × ℕ} (sheet_of cut, length (sheet_bytes (sheet_of cut))) (s, length (sheet_bytes s)) = cc in
        absurd (omega (arith, ap (λ r. r.1) same, ap length other.2, length-take (size_of cut) cut))

-- One line after the other: what each comes to, and what the node is then.
use Rattle.std.proofs.Common.{◌≡◌, ℕ, ◌<◌, ◌≤◌, true, false, eqb, List, [], length, set, is_some, Some, Ok, Err, sym, refl, ap, ◌∙◌, subst, arith}
use Rattle.std.proofs.lemmas.List.{get_or-set_same, get_or-set_other, length-set}
use Rattle.std.proofs.lemmas.Bool.{cond_both, cond-true, cond-false, or_from, lt-leb, le-ltb, eq-eqb}
use Rattle.digest.specs.Sha256.{sha256}
use Rattle.refusal.specs.declared.Refusal.TheVariants.{NotOpen, Mismatch}
use Rattle.sheet.specs.Contents.{Content, first_of}
use Rattle.account.specs.Accounts.{Standing, opened_of, signed_of, held_of, is_frozen}
use Rattle.node_state.specs.Nodes.{NodeState, account_at, with_account}
use Rattle.judgement.specs.Tests.{is_closed, has_key}
use Rattle.judgement.specs.Judgements.{next_with}
use Rattle.outcome.specs.Records.{acted_all}
use Rattle.outcome.specs.Outcomes.{Outcome, done, holding, learning}
use Rattle.rules.specs.declared.types.Message.TheVariants.{Key}
use Rattle.moments.specs.Runs.{Entry, message, outcome_of}
use Rattle.moments.proofs.Places.{noted_new}
use Rattle.goes_through.specs.Willing.{signs}

-- the node after an entry
abbrev pub after_entry : NodeState → Entry → NodeState
after_entry n e = acted_all (outcome_of n e).acts n

-- account i holds s now, and all else is as it was
pub record Holds (n m : NodeState) (i : ℕ) (s : Content) : Type 0 where
  pub here : account_at m i ≡ held_of (account_at n i) s
  pub others : (k : ℕ) → (k ≡ i → ⊥) → account_at m k ≡ account_at n k
  pub many : length m.accounts ≡ length n.accounts
  pub keys : m.key_of ≡ n.key_of

-- the neighbour's signature under the next
pub held_is : (m : NodeState) (i byte number : ℕ) (s : Content) → i < length m.accounts → is_frozen (account_at m i) ≡ false → (account_at m i).next ≡ Some s → byte ≤ 15 → number ≡ s.number →
    outcome_of m (signs i byte number) ≡ holding i (Ok s)
held_is m i byte number s there unfrozen next small same =
    ap (holding i)
    (cond-false (is_closed m i byte) (Err NotOpen) (next_with number (account_at m i).next) (or_from _ _ (or_from _ _ (lt-leb (length m.accounts) i there) unfrozen) (le-ltb 15 byte small))
    ∙ ap (next_with number) next
    ∙ cond-true (eqb number s.number) (Ok s) (Err Mismatch) (eq-eqb number s.number same))

-- an entry by which s is signed, and the neighbour's signature under it
pub record TwoTaken (n b : NodeState) (e f : Entry) (i : ℕ) (s : Content) : Type 0 where
  pub first : (outcome_of n e).answer ≡ Ok tt
  pub second : (outcome_of (after_entry n e) f).answer ≡ Ok tt
  pub now : Holds b (after_entry (after_entry n e) f) i s

pub signed_held : (b : NodeState) (i : ℕ) (s : Content) → i < length b.accounts →
    Holds b (with_account (with_account b i (signed_of (account_at b i) s)) i (held_of (account_at (with_account b i (signed_of (account_at b i) s)) i) s)) i s
signed_held b i s there =
    record {
      here = get_or-set_same list i (held_of (account_at m i) s) blank (omega (arith, long)) ∙ ap (λ (a : Standing). held_of a s) (get_or-set_same b.accounts i (signed_of (account_at b i) s) blank there);
      others = λ k ne. get_or-set_other list i k (held_of (account_at m i) s) blank ne ∙ get_or-set_other b.accounts i k (signed_of (account_at b i) s) blank ne;
      many = length-set list i (held_of (account_at m i) s) ∙ long;
      keys = refl;
    }
  where
    blank : Standing
    blank = opened_of (first_of 0 0 0)

    m : NodeState
    m = with_account b i (signed_of (account_at b i) s)

    list : List Standing
    list = set b.accounts i (signed_of (account_at b i) s)

    long : length list ≡ length b.accounts
    long = length-set b.accounts i (signed_of (account_at b i) s)

pub two_taken : (n b : NodeState) (e : Entry) (i byte number : ℕ) (s : Content) → i < length b.accounts → is_frozen (account_at b i) ≡ false → byte ≤ 15 → number ≡ s.number →
    (outcome_of n e).answer ≡ Ok tt → after_entry n e ≡ with_account b i (signed_of (account_at b i) s) → TwoTaken n b e (signs i byte number) i s
two_taken n b e i byte number s there unfrozen small same taken q =
    record {
      first = taken;
      second = subst (λ (z : NodeState). (outcome_of z (signs i byte number)).answer ≡ Ok tt) (sym q) (ap (λ (o : Outcome). o.answer) r);
      now =
          subst (λ (z : NodeState). Holds b (after_entry z (signs i byte number)) i s) (sym q)
          (subst (λ (o : Outcome). Holds b (acted_all o.acts m) i s) (sym r) (signed_held b i s there));
    }
  where
    m : NodeState
    m = with_account b i (signed_of (account_at b i) s)

    here : account_at m i ≡ signed_of (account_at b i) s
    here = get_or-set_same b.accounts i (signed_of (account_at b i) s) (opened_of (first_of 0 0 0)) there

    r : outcome_of m (signs i byte number) ≡ holding i (Ok s)
    r =
        held_is m i byte number s (omega (arith, length-set b.accounts i (signed_of (account_at b i) s)))
        (ap is_frozen here ∙ unfrozen) (ap (λ (a : Standing). a.next) here) small same

-- a key that comes, known or not
pub record KeyTaken (n : NodeState) (e : Entry) (lock : List ℕ) : Type 0 where
  pub answered : (outcome_of n e).answer ≡ Ok tt
  pub known : has_key (after_entry n e) lock ≡ true
  pub same : (after_entry n e).accounts ≡ n.accounts

pub key_taken_lem : (n : NodeState) (anybody : ℕ) (key lock : List ℕ) → sha256 key ≡ lock → KeyTaken n (message anybody (Key key)) lock
key_taken_lem n anybody key lock q =
    let r = cond_both (has_key n (sha256 key)) (done []) (learning key)
    (λ (o : Outcome). (o.answer ≡ Ok tt) × (has_key (acted_all o.acts n) (sha256 key) ≡ true) × ((acted_all o.acts n).accounts ≡ n.accounts))
    (λ e. (refl, e, refl)) (λ e. (refl, ap is_some (noted_new (sha256 key) key n.key_of), refl)) in
    record { answered = r.0; known = ap (has_key (after_entry n (message anybody (Key key)))) (sym q) ∙ r.1; same = r.2 }

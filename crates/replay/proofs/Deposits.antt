-- After the first sheets each account's held sheet keeps its money.
use Rattle.std.proofs.Common.{◌≡◌, ℕ, zero, suc, Bool, true, false, cond, eqb, ltb, List, [], ◌∷◌, length, get_or, set, Some, None, sym, refl, ap, ◌∙◌}
use Rattle.std.proofs.lemmas.Bool.{and_parts, eqb-true, false≢true}
use Rattle.sheet.specs.Contents.{Content, first_of}
use Rattle.change.specs.Totals.{total_of}
use Rattle.change.proofs.Standing.{none_some}
use Rattle.account.specs.Accounts.{Standing, opened_of, signed_of, held_of}
use Rattle.node_state.specs.Nodes.{NodeState, account_at}
use Rattle.outcome.specs.Records.{acted_on}
use Rattle.journal.specs.Records.{Recorded, signed_record, both_record, passed_record, key_record}
use Rattle.replay.specs.Fits.{fits, fits_first, fits_account, fits_both, is_next}
use Rattle.replay.specs.Takes.{taken}
use Rattle.replay.specs.Theorems.{replayed, act_of, DepositsStay}
use Rattle.replay.proofs.Again.{not_first}

-- one account is put, with as much money
held_set : (xs : List Standing) (j i : ℕ) (a d : Standing) → total_of a.held ≡ total_of (get_or xs j d).held → total_of (get_or (set xs j a) i d).held ≡ total_of (get_or xs i d).held
held_set [] j i a d h = refl
held_set (x ∷ xs) zero zero a d h = h
held_set (x ∷ xs) zero (suc i) a d h = refl
held_set (x ∷ xs) (suc j) zero a d h = refl
held_set (x ∷ xs) (suc j) (suc i) a d h = held_set xs j i a d h

both_total : (s : Content) (n : NodeState) (b : Bool) → cond b (fits_first s true n) (fits_both s n) ≡ true → total_of s ≡ total_of (account_at n s.account).held
both_total s n true e = absurd (false≢true e)
both_total s n false e =
    let p = and_parts (fits_account s n) (is_next (account_at n s.account).next s) e in
    let q = and_parts (ltb s.account (length n.accounts)) (eqb (total_of s) (total_of (account_at n s.account).held)) p.0 in
    eqb-true (total_of s) (total_of (account_at n s.account).held) q.1

one_stays : (r : Recorded) (n : NodeState) (i : ℕ) → fits r true n ≡ true → total_of (account_at (acted_on (act_of r) n) i).held ≡ total_of (account_at n i).held
one_stays (signed_record s) n i e = held_set n.accounts s.account i (signed_of (account_at n s.account) s) (opened_of (first_of 0 0 0)) refl
one_stays (both_record s) n i e =
    held_set n.accounts s.account i (held_of (account_at n s.account) s) (opened_of (first_of 0 0 0)) (both_total s n (eqb s.number 0) e)
one_stays (passed_record lock from to) n i e = refl
one_stays (key_record key) n i e = refl

pub deposits_stay : DepositsStay
deposits_stay n [] last e i = let same : (true, n) ≡ last = cc in ap (λ (z : Bool × NodeState). total_of (account_at z.1 i).held) (sym same)
deposits_stay n (r ∷ rs) last e i = by (fits r true n) refl e (λ k. deposits_stay (taken r n) rs last k i)
  where
    by : (f : Bool) → fits r true n ≡ f → cond f (replayed rs true (taken r n)) None ≡ Some last → (replayed rs true (taken r n) ≡ Some last → total_of (account_at last.1 i).held ≡ total_of (account_at (taken r n) i).held) → total_of (account_at last.1 i).held ≡ total_of (account_at n i).held
    by true q k more = more k ∙ (ap (λ (m : NodeState). total_of (account_at m i).held) (not_first r n q) ∙ one_stays r n i q)
    by false q k more = absurd (none_some k)

-- The node is what its records say, and what a stop within an entry leaves.
use Rattle.std.proofs.Common.{◌≡◌, ℕ, zero, suc, ◌+◌, ◌⊎◌, List, [], ◌∷◌, ◌++◌, get_or, take, set, Result, sym, refl, ap, ◌∙◌, inl, inr}
use Rattle.std.proofs.lemmas.Bool.{cond_both}
use Rattle.digest.specs.Sha256.{sha256}
use Rattle.refusal.specs.declared.Refusal.{Refusal}
use Rattle.sheet.specs.Contents.{Content, content_of, first_of}
use Rattle.account.specs.Accounts.{Standing, opened_of, signed_of, held_of}
use Rattle.change.specs.declared.types.Change.TheVariants.{Paying, Getting}
use Rattle.node_state.specs.Nodes.{NodeState, account_at, with_accounts}
use Rattle.judgement.specs.Tests.{is_under_way, has_key}
use Rattle.judgement.specs.Judgements.{to_settle, to_give_up, to_pass, to_accept, to_accept_both, to_hold}
use Rattle.outcome.specs.Acts.{Record, signed_in, both_in, passed_on, key_is, Act, recorded, synced, sent_sheet, sent_signature, shown_sheet, shown_key}
use Rattle.outcome.specs.Records.{written, acted_all}
use Rattle.outcome.specs.Outcomes.{Outcome, done, signing, accepting_both, holding, learning}
use Rattle.rules.specs.declared.types.Message.TheVariants.{Proposed, ProposedSigned, Signed, Key}
use Rattle.rules.specs.declared.types.Call.TheVariants.{Pass, Pay, Get, GiveUp}
use Rattle.moments.specs.Runs.{Deposit, Entry, message, call, outcome_of, Event, taken, cut_off, looked, restarted, each_of, looked_of, restarted_of, started_again, opened_all, History, happened, after, start_of}
use Rattle.moments.specs.Records.{records_of, records_by, records_after, written_all, StandsBy, Between, CutOff}
use Rattle.moments.proofs.Entries.{Prefixes, prefix_part, signing_by, passing_by, accepting_by, both_by, holding_by}

-- acts change the node by their records
acts_written : (acts : List Act) (n : NodeState) → acted_all acts n ≡ written_all (records_of acts) n
acts_written [] n = refl
acts_written (recorded r ∷ acts) n = acts_written acts (written r n)
acts_written (synced ∷ acts) n = acts_written acts n
acts_written (sent_sheet i s ∷ acts) n = acts_written acts n
acts_written (sent_signature i k ∷ acts) n = acts_written acts n
acts_written (shown_sheet i s ∷ acts) n = acts_written acts n
acts_written (shown_key i k ∷ acts) n = acts_written acts n

pub written_append : (rs qs : List Record) (n : NodeState) → written_all (rs ++ qs) n ≡ written_all qs (written_all rs n)
written_append [] qs n = refl
written_append (r ∷ rs) qs n = written_append rs qs (written r n)

-- a start and a record don't get in each other's way
again_set : (g : Standing → Standing) → ((k : ℕ) (a : Standing) → restarted_of k (g a) ≡ g (restarted_of k a)) → (d : Standing) (list : List Standing) (i j : ℕ) →
    each_of restarted_of i (set list j (g (get_or list j d))) ≡ set (each_of restarted_of i list) j (g (get_or (each_of restarted_of i list) j d))
again_set g h d [] i j = refl
again_set g h d (a ∷ list) i zero = ap (λ (z : Standing). z ∷ each_of restarted_of (i + 1) list) (h i a)
again_set g h d (a ∷ list) i (suc j) = ap (λ (zs : List Standing). restarted_of i a ∷ zs) (again_set g h d list (i + 1) j)

again_written : (r : Record) (n : NodeState) → started_again (written r n) ≡ written r (started_again n)
again_written (signed_in i s) n = ap (with_accounts n) (again_set (λ a. signed_of a s) (λ k a. refl) (opened_of (first_of 0 0 0)) n.accounts 0 i)
again_written (both_in i s) n = ap (with_accounts n) (again_set (λ a. held_of a s) (λ k a. refl) (opened_of (first_of 0 0 0)) n.accounts 0 i)
again_written (passed_on lock i j) n = refl
again_written (key_is k) n = refl

again_all : (rs : List Record) (n : NodeState) → started_again (written_all rs n) ≡ written_all rs (started_again n)
again_all [] n = refl
again_all (r ∷ rs) n = again_all rs (written r n) ∙ ap (written_all rs) (again_written r n)

pub again_acts : (acts : List Act) (n : NodeState) → started_again (acted_all acts n) ≡ written_all (records_of acts) (started_again n)
again_acts acts n = ap started_again (acts_written acts n) ∙ again_all (records_of acts) n

-- what isn't in the file is gone after a start, whatever it was
again_each : (f : ℕ → Standing → Standing) → ((k : ℕ) (a : Standing) → restarted_of k (f k a) ≡ restarted_of k a) → (list : List Standing) (i : ℕ) → each_of restarted_of i (each_of f i list) ≡ each_of restarted_of i list
again_each f h [] i = refl
again_each f h (a ∷ list) i = ap (λ (z : Standing). z ∷ each_of restarted_of (i + 1) (each_of f (i + 1) list)) (h i a) ∙ ap (λ (zs : List Standing). restarted_of i a ∷ zs) (again_each f h list (i + 1))

pub again_passing : (f : ℕ → Standing → Standing) → ((k : ℕ) (a : Standing) → restarted_of k (f k a) ≡ restarted_of k a) → (n : NodeState) → started_again (with_accounts n (each_of f 0 n.accounts)) ≡ started_again n
again_passing f h n = ap (with_accounts n) (again_each f h n.accounts 0)

again_event : (e : Event) (h : History) → started_again (happened e h).node ≡ written_all (records_by e h) (started_again h.node)
again_event (taken e) h = again_acts (outcome_of h.node e).acts h.node
again_event (cut_off e k) h =
    again_passing restarted_of (λ i a. refl) (acted_all (take k (outcome_of h.node e).acts) h.node) ∙ again_acts (take k (outcome_of h.node e).acts) h.node
again_event (looked tick seen sent) h = again_passing (looked_of tick seen sent) (λ i a. refl) h.node
again_event restarted h = again_passing restarted_of (λ i a. refl) h.node

again_run : (events : List Event) (h : History) → started_again (after events h).node ≡ written_all (records_after events h) (started_again h.node)
again_run [] h = refl
again_run (e ∷ events) h =
    again_run events (happened e h) ∙ ap (written_all (records_after events (happened e h))) (again_event e h) ∙ sym (written_append (records_by e h) (records_after events (happened e h)) (started_again h.node))

pub again_opened : (ds : List Deposit) (i : ℕ) → each_of restarted_of i (opened_all i ds) ≡ opened_all i ds
again_opened [] i = refl
again_opened (d ∷ ds) i = ap (λ (zs : List Standing). opened_of (first_of i d.own d.theirs) ∷ zs) (again_opened ds (i + 1))

pub stands_by : StandsBy
stands_by terms ds events =
    again_run events (start_of terms ds) ∙ ap (written_all (records_after events (start_of terms ds))) (ap (with_accounts (start_of terms ds).node) (again_opened ds 0))

-- a stop within an entry
module _ (n : NodeState) where
  abbrev Cuts : Entry → Outcome → Type 0
  Cuts e o = Prefixes (λ l. (acted_all l n ≡ n) ⊎ ((acted_all l n ≡ acted_all o.acts n) ⊎ Between e n (acted_all l n))) o.acts

  sign_cuts : (e : Entry) (i : ℕ) (r : Result Content Refusal) → Cuts e (signing i r)
  sign_cuts e i r = signing_by (Cuts e) (λ _. inl refl) i r (λ s _. (inl refl, (inr (inl refl), (inr (inl refl), inr (inl refl)))))

  hold_cuts : (e : Entry) (i : ℕ) (r : Result Content Refusal) → Cuts e (holding i r)
  hold_cuts e i r = holding_by (Cuts e) (λ _. inl refl) i r (λ s _. (inl refl, (inr (inl refl), inr (inl refl))))

  entry_cuts : (e : Entry) → Cuts e (outcome_of n e)
  entry_cuts (message i (Proposed t)) =
      accepting_by (Cuts (message i (Proposed t))) (λ _. inl refl) i (to_accept n i (content_of t)) (λ s _. (inl refl, (inr (inl refl), (inr (inl refl), inr (inl refl)))))
  entry_cuts (message i (ProposedSigned t x)) =
      let e : Entry = message i (ProposedSigned t x) in
      let next : Result Content Refusal = to_accept_both n i (content_of t) x in
      cond_both (is_under_way (account_at n i)) (holding i next) (accepting_both i next) (Cuts e) (λ _. hold_cuts e i next)
      (λ _. both_by (Cuts e) (λ _. inl refl) i next (λ s _. (inl refl, (inr (inr (s, refl)), (inr (inl refl), (inr (inl refl), inr (inl refl)))))))
  entry_cuts (message i (Signed x)) = hold_cuts (message i (Signed x)) i (to_hold n i x)
  entry_cuts (message i (Key k)) =
      cond_both (has_key n (sha256 k)) (done []) (learning k) (Cuts (message i (Key k))) (λ _. inl refl) (λ _. (inl refl, (inr (inl refl), inr (inl refl))))
  entry_cuts (call (Pass i j p)) =
      passing_by (Cuts (call (Pass i j p))) (λ _. inl refl) i j p.lock (to_pass n i j p)
      (λ s _. (inl refl, (inr (inr refl), (inr (inl refl), (inr (inl refl), inr (inl refl))))))
  entry_cuts (call (Pay i lock)) = sign_cuts (call (Pay i lock)) i (to_settle n i Paying lock)
  entry_cuts (call (Get i lock)) = sign_cuts (call (Get i lock)) i (to_settle n i Getting lock)
  entry_cuts (call (GiveUp i lock)) = sign_cuts (call (GiveUp i lock)) i (to_give_up n i lock)

pub cut_off_lem : CutOff
cut_off_lem n e k = prefix_part (λ (l : List Act). (acted_all l n ≡ n) ⊎ ((acted_all l n ≡ acted_all (outcome_of n e).acts n) ⊎ Between e n (acted_all l n))) k (outcome_of n e).acts (entry_cuts n e)

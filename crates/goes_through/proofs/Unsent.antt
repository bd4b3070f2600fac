-- Entries send nothing to the register.
use Rattle.std.proofs.Common.{◌≡◌, ℕ, ◌+◌, List, [], ◌∷◌, ◌++◌, map, refl, ap, ◌∙◌, append-nil}
use Rattle.std.proofs.lemmas.Bool.{cond_both}
use Rattle.digest.specs.Sha256.{sha256}
use Rattle.sheet.specs.Contents.{content_of}
use Rattle.change.specs.declared.types.Change.TheVariants.{Paying, Getting}
use Rattle.node_state.specs.Nodes.{NodeState, account_at}
use Rattle.judgement.specs.Tests.{is_under_way, has_key}
use Rattle.judgement.specs.Judgements.{to_settle, to_give_up, to_pass, to_accept, to_accept_both, to_hold}
use Rattle.outcome.specs.Outcomes.{Outcome, done, accepting_both, holding, learning}
use Rattle.rules.specs.declared.types.Message.TheVariants.{Proposed, ProposedSigned, Signed, Key}
use Rattle.rules.specs.declared.types.Call.TheVariants.{Pass, Pay, Get, GiveUp}
use Rattle.moments.specs.Runs.{Entry, message, call, outcome_of}
use Rattle.moments.proofs.Entries.{signing_by, passing_by, accepting_by, both_by, holding_by}
use Rattle.promise_told.specs.World.{World, Coming, node_of, terms_of, sent_off, entry, happens, run}

module _ (by : ℕ) where
  abbrev Unsent : Outcome → Type 0
  Unsent o = sent_off by o.acts ≡ []

  unsent : (n : NodeState) (e : Entry) → Unsent (outcome_of n e)
  unsent n (call (Pass i j p)) = passing_by Unsent (λ _. refl) i j p.lock (to_pass n i j p) (λ s _. refl)
  unsent n (call (Pay i lock)) = signing_by Unsent (λ _. refl) i (to_settle n i Paying lock) (λ s _. refl)
  unsent n (call (Get i lock)) = signing_by Unsent (λ _. refl) i (to_settle n i Getting lock) (λ s _. refl)
  unsent n (call (GiveUp i lock)) = signing_by Unsent (λ _. refl) i (to_give_up n i lock) (λ s _. refl)
  unsent n (message i (Proposed s)) = accepting_by Unsent (λ _. refl) i (to_accept n i (content_of s)) (λ t _. refl)
  unsent n (message i (ProposedSigned s x)) =
      let r = to_accept_both n i (content_of s) x in
      cond_both (is_under_way (account_at n i)) (holding i r) (accepting_both i r) Unsent (λ _. holding_by Unsent (λ _. refl) i r (λ t _. refl)) (λ _. both_by Unsent (λ _. refl) i r (λ t _. refl))
  unsent n (message i (Signed x)) = holding_by Unsent (λ _. refl) i (to_hold n i x) (λ t _. refl)
  unsent n (message i (Key key)) = cond_both (has_key n (sha256 key)) (done []) (learning key) Unsent (λ _. refl) (λ _. refl)

-- so the register, what is on its way to it and the time are as they were
pub record Untouched (w v : World) : Type 0 where
  pub time : v.now ≡ w.now
  pub pages : v.pages ≡ w.pages
  pub way : v.coming ≡ w.coming

pub untouched : (w : World) (list : List Entry) → Untouched w (run (map entry list) w)
untouched w [] = record { time = refl; pages = refl; way = refl }
untouched w (e ∷ list) =
    let r = untouched (happens (entry e) w) list in
    let one : (happens (entry e) w).coming ≡ w.coming = ap (λ (l : List Coming). w.coming ++ l) (unsent (w.now + (terms_of w).delay) (node_of w) e) ∙ append-nil w.coming in
    record { time = r.time; pages = r.pages; way = r.way ∙ one }

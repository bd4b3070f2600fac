-- An outcome that is a refusal has no acts.
use Rattle.std.proofs.Common.{◌≡◌, ℕ, Bool, true, false, cond, List, [], Ok, Err, Result, refl, ap, arith}
use Rattle.refusal.specs.declared.Refusal.{Refusal}
use Rattle.digest.specs.Sha256.{sha256}
use Rattle.sheet.specs.Contents.{Content, content_of}
use Rattle.change.specs.declared.types.Change.TheVariants.{Paying, Getting}
use Rattle.node_state.specs.Nodes.{NodeState, account_at}
use Rattle.judgement.specs.Tests.{is_under_way, has_key}
use Rattle.judgement.specs.Judgements.{to_settle, to_give_up, to_pass, to_accept, to_accept_both, to_hold}
use Rattle.outcome.specs.Records.{acted_all}
use Rattle.outcome.specs.Outcomes.{Outcome, done, signing, passing, accepting, accepting_both, holding, learning}
use Rattle.rules.specs.declared.types.Message.TheVariants.{Proposed, ProposedSigned, Signed, Key}
use Rattle.rules.specs.declared.types.Call.TheVariants.{Pass, Pay, Get, GiveUp}
use Rattle.moments.specs.Refused.{RefusedUnchanged}
use Rattle.moments.specs.Runs.{Entry, message, call, outcome_of}

abbrev Silent : Outcome → Type 0
Silent o = (e : Refusal) → o.answer ≡ Err e → o.acts ≡ []

taken_silent : (o : Outcome) → o.answer ≡ Ok tt → Silent o
taken_silent o h e g = let z : ◌≡◌ {A = ℕ} 0 1 = cc in absurd (omega arith)

cond_silent : (b : Bool) (o p : Outcome) → Silent o → Silent p → Silent (cond b o p)
cond_silent true o p x y = x
cond_silent false o p x y = y

signing_silent : (i : ℕ) (r : Result Content Refusal) → Silent (signing i r)
signing_silent i (Ok s) = taken_silent (signing i (Ok s)) refl
signing_silent i (Err f) = λ e h. refl

passing_silent : (i j : ℕ) (lock : List ℕ) (r : Result Content Refusal) → Silent (passing i j lock r)
passing_silent i j lock (Ok s) = taken_silent (passing i j lock (Ok s)) refl
passing_silent i j lock (Err f) = λ e h. refl

accepting_silent : (i : ℕ) (r : Result Content Refusal) → Silent (accepting i r)
accepting_silent i (Ok s) = taken_silent (accepting i (Ok s)) refl
accepting_silent i (Err f) = λ e h. refl

both_silent : (i : ℕ) (r : Result Content Refusal) → Silent (accepting_both i r)
both_silent i (Ok s) = taken_silent (accepting_both i (Ok s)) refl
both_silent i (Err f) = λ e h. refl

holding_silent : (i : ℕ) (r : Result Content Refusal) → Silent (holding i r)
holding_silent i (Ok s) = taken_silent (holding i (Ok s)) refl
holding_silent i (Err f) = λ e h. refl

entry_silent : (n : NodeState) (e : Entry) → Silent (outcome_of n e)
entry_silent n (message i (Proposed s)) = accepting_silent i (to_accept n i (content_of s))
entry_silent n (message i (ProposedSigned s g)) =
    let next : Result Content Refusal = to_accept_both n i (content_of s) g in
    cond_silent (is_under_way (account_at n i)) (holding i next) (accepting_both i next) (holding_silent i next) (both_silent i next)
entry_silent n (message i (Signed g)) = holding_silent i (to_hold n i g)
entry_silent n (message i (Key k)) =
    cond_silent (has_key n (sha256 k)) (done []) (learning k) (taken_silent (done []) refl) (taken_silent (learning k) refl)
entry_silent n (call (Pass i j p)) = passing_silent i j p.lock (to_pass n i j p)
entry_silent n (call (Pay i lock)) = signing_silent i (to_settle n i Paying lock)
entry_silent n (call (Get i lock)) = signing_silent i (to_settle n i Getting lock)
entry_silent n (call (GiveUp i lock)) = signing_silent i (to_give_up n i lock)

pub refused_unchanged : RefusedUnchanged
refused_unchanged n e refusal h =
    let none : (outcome_of n e).acts ≡ [] = entry_silent n e refusal h in
    (none, ap (λ acts. acted_all acts n) none)

-- The acts of each outcome are in order.
use Rattle.std.proofs.Common.{ℕ, List, [], Ok, Err, Result, refl, inl, inr}
use Rattle.std.proofs.lemmas.Bool.{cond_both}
use Rattle.digest.specs.Sha256.{sha256}
use Rattle.refusal.specs.declared.Refusal.{Refusal}
use Rattle.sheet.specs.Contents.{Content, content_of}
use Rattle.change.specs.declared.types.Change.TheVariants.{Paying, Getting}
use Rattle.node_state.specs.Nodes.{account_at}
use Rattle.outcome.specs.Outcomes.{Outcome, done, signing, passing, accepting, accepting_both, holding, learning}
use Rattle.judgement.specs.Tests.{is_under_way, has_key}
use Rattle.judgement.specs.Judgements.{to_settle, to_give_up, to_pass, to_accept, to_accept_both, to_hold}
use Rattle.rules.specs.declared.types.Message.TheVariants.{Proposed, ProposedSigned, Signed, Key}
use Rattle.rules.specs.declared.types.Call.TheVariants.{Pass, Pay, Get, GiveUp}
use Rattle.rules.specs.Order.{AllFollow, MessagesRecordedFirst, CallsRecordedFirst}

abbrev InOrder : Outcome → Type 0
InOrder o = AllFollow [] o.acts

signing_ordered : (i : ℕ) (r : Result Content Refusal) → InOrder (signing i r)
signing_ordered i (Ok s) = (tt, (tt, ((inl refl, refl), tt)))
signing_ordered i (Err e) = tt

passing_ordered : (i j : ℕ) (lock : List ℕ) (r : Result Content Refusal) → InOrder (passing i j lock r)
passing_ordered i j lock (Ok s) = (tt, (tt, (tt, ((inr (inl refl), refl), tt))))
passing_ordered i j lock (Err e) = tt

accepting_ordered : (i : ℕ) (r : Result Content Refusal) → InOrder (accepting i r)
accepting_ordered i (Ok s) = (tt, (tt, ((s, refl, (inl refl, refl)), tt)))
accepting_ordered i (Err e) = tt

accepting_both_ordered : (i : ℕ) (r : Result Content Refusal) → InOrder (accepting_both i r)
accepting_both_ordered i (Ok s) = (tt, (tt, (tt, ((s, refl, (inl refl, refl)), tt))))
accepting_both_ordered i (Err e) = tt

holding_ordered : (i : ℕ) (r : Result Content Refusal) → InOrder (holding i r)
holding_ordered i (Ok s) = (tt, (tt, tt))
holding_ordered i (Err e) = tt

pub messages_ordered : MessagesRecordedFirst
messages_ordered n i (Proposed s) = accepting_ordered i (to_accept n i (content_of s))
messages_ordered n i (ProposedSigned s signature) =
    let r = to_accept_both n i (content_of s) signature in
    cond_both (is_under_way (account_at n i)) (holding i r) (accepting_both i r) InOrder (λ _. holding_ordered i r) (λ _. accepting_both_ordered i r)
messages_ordered n i (Signed signature) = holding_ordered i (to_hold n i signature)
messages_ordered n i (Key key) =
    cond_both (has_key n (sha256 key)) (done []) (learning key) InOrder (λ _. tt) (λ _. (tt, (tt, tt)))

pub calls_ordered : CallsRecordedFirst
calls_ordered n (Pass i j p) = passing_ordered i j p.lock (to_pass n i j p)
calls_ordered n (Pay i lock) = signing_ordered i (to_settle n i Paying lock)
calls_ordered n (Get i lock) = signing_ordered i (to_settle n i Getting lock)
calls_ordered n (GiveUp i lock) = signing_ordered i (to_give_up n i lock)

-- What the node answers to each message and call, and what it does. Assumes nothing.
use Rattle.std.specs.Prelude.{ℕ, Bool, cond, List, [], Result}
use Rattle.digest.specs.Sha256.{sha256}
use Rattle.refusal.specs.declared.Refusal.{Refusal}
use Rattle.sheet.specs.declared.types.Payment.{Payment}
use Rattle.sheet.specs.Contents.{Content, content_of}
use Rattle.change.specs.declared.types.Change.TheVariants.{Paying, Getting}
use Rattle.node_state.specs.Nodes.{NodeState, account_at}
use Rattle.outcome.specs.Outcomes.{Outcome, done, signing, passing, accepting, accepting_both, holding, learning}
use Rattle.judgement.specs.declared.types.Signature.{Signature}
use Rattle.rules.specs.declared.types.Message.{Message}
use Rattle.rules.specs.declared.types.Message.TheVariants.{Proposed, ProposedSigned, Signed, Key}
use Rattle.rules.specs.declared.types.Call.{Call}
use Rattle.rules.specs.declared.types.Call.TheVariants.{Pass, Pay, Get, GiveUp}
use Rattle.judgement.specs.Tests.{is_under_way, has_key}
use Rattle.judgement.specs.Judgements.{to_settle, to_give_up, to_pass, to_accept, to_accept_both, to_hold}

abbrev pub paid : NodeState → ℕ → List ℕ → Outcome
paid n i lock = signing i (to_settle n i Paying lock)

abbrev pub got : NodeState → ℕ → List ℕ → Outcome
got n i lock = signing i (to_settle n i Getting lock)

abbrev pub given_up : NodeState → ℕ → List ℕ → Outcome
given_up n i lock = signing i (to_give_up n i lock)

abbrev pub passed : NodeState → (i j : ℕ) → Payment → Outcome
passed n i j p = passing i j p.lock (to_pass n i j p)

-- A sheet alone.
abbrev pub proposed : NodeState → ℕ → Content → Outcome
proposed n i s = accepting i (to_accept n i s)

-- A sheet with the neighbour's signature under it: the signature under the node's own next where one is under way, else a
-- proposal that the neighbour has signed.
abbrev pub taking_both : Bool → ℕ → Result Content Refusal → Outcome
taking_both underWay i next = cond underWay (holding i next) (accepting_both i next)

abbrev pub proposed_signed : NodeState → ℕ → Content → Signature → Outcome
proposed_signed n i s signature = taking_both (is_under_way (account_at n i)) i (to_accept_both n i s signature)

-- A signature alone.
abbrev pub signed : NodeState → ℕ → Signature → Outcome
signed n i signature = holding i (to_hold n i signature)

-- A key, from anybody. One that the node has already changes nothing.
abbrev pub key_taken : NodeState → List ℕ → Outcome
key_taken n key = cond (has_key n (sha256 key)) (done []) (learning key)

-- A message that comes with the number of an account.
abbrev pub message_of : NodeState → ℕ → Message → Outcome
message_of n i (Proposed s) = proposed n i (content_of s)
message_of n i (ProposedSigned s signature) = proposed_signed n i (content_of s) signature
message_of n i (Signed signature) = signed n i signature
message_of n i (Key key) = key_taken n key

-- What the owner asks for.
abbrev pub call_of : NodeState → Call → Outcome
call_of n (Pass i j p) = passed n i j p
call_of n (Pay i lock) = paid n i lock
call_of n (Get i lock) = got n i lock
call_of n (GiveUp i lock) = given_up n i lock

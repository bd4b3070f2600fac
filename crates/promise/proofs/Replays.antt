-- Every event of the world is, for the node, a list of events of its own.
use Rattle.std.proofs.Common.{◌≡◌, ℕ, zero, suc, ◌+◌, Bool, false, cond, ◌||◌, ltb, List, [], ◌∷◌, ◌++◌, map, get_or, take, Some, None, Option, sym, refl, ap, ◌∙◌, subst, arith}
use Rattle.std.proofs.lemmas.Bool.{cond_both}
use Rattle.std.specs.List.{slice_get}
use Rattle.refusal.specs.declared.Refusal.TheVariants.{Unreadable, TooLarge}
use Rattle.sheet.specs.Contents.{first_of}
use Rattle.digest.specs.Sha256.{sha256}
use Rattle.change.specs.Changes.{most}
use Rattle.account.specs.Accounts.{Standing, opened_of}
use Rattle.account.specs.declared.types.OnItsWay.{OnItsWay}
use Rattle.node_state.specs.Nodes.{NodeState, account_at, with_accounts, with_key}
use Rattle.judgement.specs.Tests.{has_key}
use Rattle.outcome.specs.Acts.{signed_in, both_in, passed_on, key_is, Act, recorded, synced, sent_sheet, sent_signature, shown_sheet, shown_key}
use Rattle.outcome.specs.Records.{acted_all}
use Rattle.outcome.specs.Outcomes.{Outcome, refused, done, learning}
use Rattle.rules.specs.declared.types.Message.TheVariants.{Key}
use Rattle.looking.specs.declared.types.Shown.{Shown}
use Rattle.looking.specs.declared.types.Shown.TheVariants as statement
use Rattle.looking.specs.Looking.{has_dispute, opens, shows_held, still_sent, new_keys, then_synced, learned, showing, showing_all, keys_to_show, look_taken, is_earlier, is_refused, look_of, each_from, looked_node}
use Rattle.looking.specs.Looking as look
use Rattle.moments.specs.Runs as alone
use Rattle.moments.specs.Runs.{Deposit, message, each_of, History, with_node, start_of, started_again}
use Rattle.promise.specs.World.{World, node_of, Event, tick, entry, looks, shows, reveals, arrives, restart, entry_cut, look_cut, Signed, Coming, sheet_for, key_for, shown, arrived, ticked, may_tick, look_acts, picture_of, happens, run, beginning}
use Rattle.promise.specs.Replay.{NodeAlone}

-- reached from a history by events of the node alone
abbrev By : History → History → Type 0
By h g = (list : List alone.Event) × (g ≡ alone.after list h)

after_append : (xs ys : List alone.Event) (h : History) → alone.after ys (alone.after xs h) ≡ alone.after (xs ++ ys) h
after_append [] ys h = refl
after_append (x ∷ xs) ys h = after_append xs ys (alone.happened x h)

by_then : (h g k : History) → By h g → By g k → By h k
by_then h g k a b = (a.0 ++ b.0, b.1 ∙ (ap (alone.after b.0) a.1 ∙ after_append a.0 b.0 h))

-- the acts record nothing but keys that are new
abbrev Learns : NodeState → List Act → Type 0
Learns n [] = Unit {0}
Learns n (recorded (key_is key) ∷ l) = (has_key n (sha256 key) ≡ false) × Learns (with_key n (sha256 key) key) l
Learns n (recorded (signed_in i s) ∷ l) = ⊥
Learns n (recorded (both_in i s) ∷ l) = ⊥
Learns n (recorded (passed_on lock i j) ∷ l) = ⊥
Learns n (synced ∷ l) = Learns n l
Learns n (sent_sheet i s ∷ l) = Learns n l
Learns n (sent_signature i k ∷ l) = Learns n l
Learns n (shown_sheet i s ∷ l) = Learns n l
Learns n (shown_key i k ∷ l) = Learns n l

learns_take : (k : ℕ) (n : NodeState) (l : List Act) → Learns n l → Learns n (take k l)
learns_take zero n l h = tt
learns_take (suc k) n [] h = tt
learns_take (suc k) n (recorded (key_is key) ∷ l) h = (h.0, learns_take k (with_key n (sha256 key) key) l h.1)
learns_take (suc k) n (recorded (signed_in i s) ∷ l) h = h
learns_take (suc k) n (recorded (both_in i s) ∷ l) h = h
learns_take (suc k) n (recorded (passed_on lock i j) ∷ l) h = h
learns_take (suc k) n (synced ∷ l) h = learns_take k n l h
learns_take (suc k) n (sent_sheet i s ∷ l) h = learns_take k n l h
learns_take (suc k) n (sent_signature i m ∷ l) h = learns_take k n l h
learns_take (suc k) n (shown_sheet i s ∷ l) h = learns_take k n l h
learns_take (suc k) n (shown_key i m ∷ l) h = learns_take k n l h

learns_append : (n : NodeState) (l m : List Act) → Learns n l → ((x : NodeState) → Learns x m) → Learns n (l ++ m)
learns_append n [] m h g = g n
learns_append n (recorded (key_is key) ∷ l) m h g = (h.0, learns_append (with_key n (sha256 key) key) l m h.1 g)
learns_append n (recorded (signed_in i s) ∷ l) m h g = h
learns_append n (recorded (both_in i s) ∷ l) m h g = h
learns_append n (recorded (passed_on lock i j) ∷ l) m h g = h
learns_append n (synced ∷ l) m h g = learns_append n l m h g
learns_append n (sent_sheet i s ∷ l) m h g = learns_append n l m h g
learns_append n (sent_signature i k ∷ l) m h g = learns_append n l m h g
learns_append n (shown_sheet i s ∷ l) m h g = learns_append n l m h g
learns_append n (shown_key i k ∷ l) m h g = learns_append n l m h g

learn : (h : History) (key : List ℕ) → has_key h.node (sha256 key) ≡ false →
    with_node h (with_key h.node (sha256 key) key) ≡ alone.happened (alone.taken (message 0 (Key key))) h
learn h key e = sym (ap (λ (b : Bool). with_node h (acted_all (cond b (done []) (learning key)).acts h.node)) e)

learns_by : (h : History) (l : List Act) → Learns h.node l → By h (with_node h (acted_all l h.node))
learns_by h [] e = ([], refl)
learns_by h (recorded (key_is key) ∷ l) e =
    let m : History = with_node h (with_key h.node (sha256 key) key) in
    by_then h m (with_node h (acted_all l m.node)) (alone.taken (message 0 (Key key)) ∷ [], learn h key e.0) (learns_by m l e.1)
learns_by h (recorded (signed_in i s) ∷ l) e = absurd e
learns_by h (recorded (both_in i s) ∷ l) e = absurd e
learns_by h (recorded (passed_on lock i j) ∷ l) e = absurd e
learns_by h (synced ∷ l) e = learns_by h l e
learns_by h (sent_sheet i s ∷ l) e = learns_by h l e
learns_by h (sent_signature i k ∷ l) e = learns_by h l e
learns_by h (shown_sheet i s ∷ l) e = learns_by h l e
learns_by h (shown_key i k ∷ l) e = learns_by h l e

learns_accounts : (n : NodeState) (l : List Act) → Learns n l → (acted_all l n).accounts ≡ n.accounts
learns_accounts n [] e = refl
learns_accounts n (recorded (key_is key) ∷ l) e = learns_accounts (with_key n (sha256 key) key) l e.1
learns_accounts n (recorded (signed_in i s) ∷ l) e = absurd e
learns_accounts n (recorded (both_in i s) ∷ l) e = absurd e
learns_accounts n (recorded (passed_on lock i j) ∷ l) e = absurd e
learns_accounts n (synced ∷ l) e = learns_accounts n l e
learns_accounts n (sent_sheet i s ∷ l) e = learns_accounts n l e
learns_accounts n (sent_signature i k ∷ l) e = learns_accounts n l e
learns_accounts n (shown_sheet i s ∷ l) e = learns_accounts n l e
learns_accounts n (shown_key i k ∷ l) e = learns_accounts n l e

-- a look's acts are such
new_learns : (n : NodeState) (l : List Shown) → Learns n (new_keys n l)
new_learns n [] = tt
new_learns n (statement.Dispute account number until ∷ l) = new_learns n l
new_learns n (statement.Key account key t ∷ l) =
    cond_both (has_key n (sha256 key)) (new_keys n l) (recorded (key_is key) ∷ new_keys (with_key n (sha256 key) key) l) (Learns n) (λ _. new_learns n l)
    (λ e. (e, new_learns (with_key n (sha256 key) key) l))

synced_learns : (n : NodeState) (l : List Act) → Learns n l → Learns n (then_synced l)
synced_learns n [] h = tt
synced_learns n (a ∷ l) h = learns_append n (a ∷ l) (synced ∷ []) h (λ x. tt)

keys_learns : (i : ℕ) (n : NodeState) (keys : List (List ℕ)) → Learns n (map (shown_key i) keys)
keys_learns i n [] = tt
keys_learns i n (k ∷ keys) = keys_learns i n keys

showing_learns : (m : NodeState) (t : ℕ) (l : List Shown) (i : ℕ) (a : Standing) (n : NodeState) → Learns n (showing m t l i a)
showing_learns m t l i a n =
    learns_append n (cond (shows_held m.terms.delay t i l a) (shown_sheet i a.held ∷ []) []) (map (shown_key i) (keys_to_show m t l i a))
    (cond_both (shows_held m.terms.delay t i l a) (shown_sheet i a.held ∷ []) [] (Learns n) (λ _. tt) (λ _. tt)) (λ x. keys_learns i x (keys_to_show m t l i a))

all_learns : (m : NodeState) (t : ℕ) (l : List Shown) (i : ℕ) (xs : List Standing) (n : NodeState) → Learns n (showing_all m t l i xs)
all_learns m t l i [] n = tt
all_learns m t l i (a ∷ xs) n = learns_append n (showing m t l i a) (showing_all m t l (i + 1) xs) (showing_learns m t l i a n) (λ x. all_learns m t l (i + 1) xs x)

learning_learns : (n : NodeState) (l : List Shown) → Learns n (look.learning n l)
learning_learns n l = synced_learns n (new_keys n l) (new_learns n l)

taken_learns : (n : NodeState) (t : ℕ) (l : List Shown) → Learns n (look_taken n t l)
taken_learns n t l = learns_append n (look.learning n l) (showing_all (learned n l) t l 0 n.accounts) (learning_learns n l) (λ x. all_learns (learned n l) t l 0 n.accounts x)

look_learns : (n : NodeState) (t : ℕ) (l : List Shown) → Learns n (look_of n t l).acts
look_learns n t l =
    cond_both (is_earlier t n.accounts) (refused Unreadable) (cond (ltb most t) (refused TooLarge) (done (look_taken n t l))) (λ (o : Outcome). Learns n o.acts) (λ _. tt)
    (λ _. cond_both (ltb most t) (refused TooLarge) (done (look_taken n t l)) (λ (o : Outcome). Learns n o.acts) (λ _. tt) (λ _. taken_learns n t l))

-- what each account keeps of a look, as a look of the node alone
each_same : (f g : ℕ → Standing → Standing) (d : Standing) (i : ℕ) (xs : List Standing) → ((m k : ℕ) → k ≡ i + m → f k (get_or xs m d) ≡ g k (get_or xs m d)) → each_from f i xs ≡ each_of g i xs
each_same f g d i [] h = refl
each_same f g d i (a ∷ xs) h =
    ap (λ (x : Standing). x ∷ each_from f (i + 1) xs) (h 0 i (omega arith)) ∙ ap (λ (l : List Standing). g i a ∷ l) (each_same f g d (i + 1) xs (λ m k e. h (suc m) k (omega arith)))

kept_by : (h : History) (delay t : ℕ) (l : List Shown) → By h (with_node h (with_accounts h.node (each_from (look.looked_of delay t l) 0 h.node.accounts)))
kept_by h delay t l =
    (alone.looked t seen sent ∷ [], ap (λ (xs : List Standing). with_node h (with_accounts h.node xs)) (each_same (look.looked_of delay t l) (alone.looked_of t seen sent) (opened_of (first_of 0 0 0)) 0 h.node.accounts same))
  where
    seen : ℕ → Bool
    seen k = has_dispute k l || opens delay t k l (account_at h.node k)

    sent : ℕ → Option OnItsWay
    sent k = (look.looked_of delay t l k (account_at h.node k)).sent

    same : (m k : ℕ) → k ≡ 0 + m → look.looked_of delay t l k (get_or h.node.accounts m (opened_of (first_of 0 0 0))) ≡ alone.looked_of t seen sent k (get_or h.node.accounts m (opened_of (first_of 0 0 0)))
    same m k e =
        let q : k ≡ m = omega arith in
        subst (λ (x : ℕ). look.looked_of delay t l k (account_at h.node x) ≡ alone.looked_of t seen sent k (account_at h.node x)) q refl

looked_by_lem : (h : History) (t : ℕ) (l : List Shown) → By h (with_node h (looked_node h.node t l))
looked_by_lem h t l =
    cond_both (is_refused h.node t) h.node (with_accounts (learned h.node l) (each_from (look.looked_of h.node.terms.delay t l) 0 h.node.accounts)) (λ (n : NodeState). By h (with_node h n))
    (λ _. ([], refl))
    (λ _. by_then h m _ (learns_by h (look.learning h.node l) (learning_learns h.node l))
    (subst (λ (xs : List Standing). By m (with_node h (with_accounts (learned h.node l) (each_from (look.looked_of h.node.terms.delay t l) 0 xs))))
    (learns_accounts h.node (look.learning h.node l) (learning_learns h.node l)) (kept_by m h.node.terms.delay t l)))
  where
    m : History
    m = with_node h (learned h.node l)

-- each event
shown_by : (o : Option Signed) (w : World) → By w.history (shown o w).history
shown_by None w = ([], refl)
shown_by (Some x) w = ([], refl)

arrived_by : (m : ℕ) (o : Option Coming) (w : World) → By w.history (arrived m o w).history
arrived_by m None w = ([], refl)
arrived_by m (Some (sheet_for i s by)) w = ([], refl)
arrived_by m (Some (key_for i key by)) w = ([], refl)

happens_by_lem : (e : Event) (w : World) → By w.history (happens e w).history
happens_by_lem tick w = cond_both (may_tick w) (ticked w) w (λ (x : World). By w.history x.history) (λ _. ([], refl)) (λ _. ([], refl))
happens_by_lem (entry e) w = (alone.taken e ∷ [], refl)
happens_by_lem looks w =
    cond_both (is_refused (node_of w) w.now) w _ (λ (x : World). By w.history x.history) (λ _. ([], refl)) (λ _. looked_by_lem w.history w.now (picture_of w))
happens_by_lem (shows m) w = shown_by (slice_get w.signed m) w
happens_by_lem (reveals i key) w = ([], refl)
happens_by_lem (arrives m) w = arrived_by m (slice_get w.coming m) w
happens_by_lem restart w = (alone.restarted ∷ [], refl)
happens_by_lem (entry_cut e k) w = (alone.cut_off e k ∷ [], refl)
happens_by_lem (look_cut k) w =
    let n : NodeState = acted_all (take k (look_acts w)) (node_of w) in
    by_then w.history (with_node w.history n) (with_node w.history (started_again n))
    (learns_by w.history (take k (look_acts w)) (learns_take k (node_of w) (look_acts w) (look_learns (node_of w) w.now (picture_of w)))) (alone.restarted ∷ [], refl)

run_by : (events : List Event) (w : World) → By w.history (run events w).history
run_by [] w = ([], refl)
run_by (e ∷ events) w = by_then w.history (happens e w).history (run events (happens e w)).history (happens_by_lem e w) (run_by events (happens e w))

pub node_alone : NodeAlone
node_alone terms ds events = run_by events (beginning terms ds)

-- A look that is taken: new keys, what is shown, and what the accounts keep.
use Rattle.std.proofs.Common.{◌≡◌, ℕ, true, List, is_err, Ok, Err, Result, ap, ◌∙◌, subst}
use Rattle.node_state.specs.Nodes.{NodeState, with_accounts}
use Rattle.outcome.specs.declared.types.Fault.{Fault}
use Rattle.outcome.specs.Acts.{Act}
use Rattle.outcome.specs.Logs.{extended, Begun}
use Rattle.looking.specs.declared.types.Shown.{Shown}
use Rattle.looking.specs.Looking.{learning, learned, showing_all, look_taken, looked_of, each_from}
use Rattle.looking.specs.Steps.{Taken}
use Rattle.looking.proofs.Doing.{begun_first, second_failed, both_done, no_error}
use Rattle.looking.proofs.Learnings.{learned_accounts, learned_terms}

module _ (n : NodeState) (tick : ℕ) (shown : List Shown) (log : List Act) where
  failed : (m : NodeState) (after : List Act) (r : Result (Unit {0}) Fault) → is_err r ≡ true → Begun log (look_taken n tick shown) after → Taken n tick shown log r m after
  failed m after (Ok x) e b = no_error (Taken n tick shown log (Ok x) m after) x e
  failed m after (Err f) e b = b

  pub learn_failed : (m : NodeState) (after : List Act) (r : Result (Unit {0}) Fault) → is_err r ≡ true → Begun log (learning n shown) after → Taken n tick shown log r m after
  learn_failed m after r e b =
      failed m after r e (begun_first log (learning n shown) (showing_all (learned n shown) tick shown 0 n.accounts) after b)

  -- m is the node once it has the new keys
  module _ (m : NodeState) (mid : List Act) (first : mid ≡ extended log (learning n shown)) (has : m ≡ learned n shown) where
    same_shown_lem : showing_all m tick shown 0 m.accounts ≡ showing_all (learned n shown) tick shown 0 n.accounts
    same_shown_lem =
        ap (λ x. showing_all x tick shown 0 x.accounts) has ∙ ap (showing_all (learned n shown) tick shown 0) (learned_accounts n shown)

    pub show_failed : (p : NodeState) (after : List Act) (r : Result (Unit {0}) Fault) → is_err r ≡ true → Begun mid (showing_all m tick shown 0 m.accounts) after → Taken n tick shown log r p after
    show_failed p after r e b =
        failed p after r e
        (second_failed log (learning n shown) (showing_all (learned n shown) tick shown 0 n.accounts) mid after first (subst (λ x. Begun mid x after) same_shown_lem b))

    same_accounts : with_accounts m (each_from (looked_of m.terms.delay tick shown) 0 m.accounts) ≡ with_accounts (learned n shown) (each_from (looked_of n.terms.delay tick shown) 0 n.accounts)
    same_accounts =
        ap (λ x. with_accounts x (each_from (looked_of x.terms.delay tick shown) 0 x.accounts)) has
        ∙ ap (λ t. with_accounts (learned n shown) (each_from (looked_of t.delay tick shown) 0 (learned n shown).accounts)) (learned_terms n shown)
        ∙ ap (λ a. with_accounts (learned n shown) (each_from (looked_of n.terms.delay tick shown) 0 a)) (learned_accounts n shown)

    pub look_taken_lem : (p : NodeState) (after : List Act) → after ≡ extended mid (showing_all m tick shown 0 m.accounts) → p ≡ with_accounts m (each_from (looked_of m.terms.delay tick shown) 0 m.accounts) → Taken n tick shown log (Ok tt) p after
    look_taken_lem p after shownAll noted = (
      both_done log (learning n shown) (showing_all (learned n shown) tick shown 0 n.accounts) mid after first (shownAll ∙ ap (extended mid) same_shown_lem),
      noted ∙ same_accounts,
    )

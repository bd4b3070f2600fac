-- What is shown in one account and in all of them, by its parts.
use Rattle.std.proofs.Common.{◌≡◌, ℕ, ◌+◌, ◌<◌, ◌≤◌, cond, List, [], ◌∷◌, ◌++◌, map, length, get_or, drop, sym, ap, ◌∙◌, subst, arith}
use Rattle.std.proofs.lemmas.List.{drop_more, at_drop_all, get_or-map, length-map}
use Rattle.account.specs.declared.types.Account.{Account}
use Rattle.account.specs.Accounts.{Standing, standing_of}
use Rattle.node_state.specs.Nodes.{NodeState}
use Rattle.outcome.specs.Acts.{Act, shown_sheet, shown_key}
use Rattle.outcome.specs.Logs.{extended, Begun}
use Rattle.looking.specs.declared.types.Shown.{Shown}
use Rattle.looking.specs.Looking.{shows_held, keys_to_show, showing, showing_all}
use Rattle.looking.proofs.Doing.{Left, left_less, left_failed, begun_first, second_failed, both_done}

module _ (n : NodeState) (tick : ℕ) (shown : List Shown) (i : ℕ) where
  -- delay is what the function has of the terms, keys is what it has gathered
  module _ (a : Standing) (delay : ℕ) (ed : delay ≡ n.terms.delay) (log : List Act) where
    abbrev sheet_with : ℕ → List Act
    sheet_with d = cond (shows_held d tick i shown a) (shown_sheet i a.held ∷ []) []

    pub sheet_failed : (after : List Act) → Begun log (sheet_with delay) after → Begun log (showing n tick shown i a) after
    sheet_failed after h =
        begun_first log (sheet_with n.terms.delay) (map (shown_key i) (keys_to_show n tick shown i a)) after
        (subst (λ d. Begun log (sheet_with d) after) ed h)

    module _ (mid : List Act) (first : mid ≡ extended log (sheet_with delay)) (keys : List (List ℕ)) (ek : keys ≡ keys_to_show n tick shown i a) where
      pub keys_failed : (after : List Act) → Begun mid (map (shown_key i) keys) after → Begun log (showing n tick shown i a) after
      keys_failed after h =
          second_failed log (sheet_with n.terms.delay) (map (shown_key i) (keys_to_show n tick shown i a)) mid after
          (first ∙ ap (λ d. extended log (sheet_with d)) ed) (subst (λ k. Begun mid (map (shown_key i) k) after) ek h)

      pub shown_both : (after : List Act) → after ≡ extended mid (map (shown_key i) keys) → after ≡ extended log (showing n tick shown i a)
      shown_both after h =
          both_done log (sheet_with n.terms.delay) (map (shown_key i) (keys_to_show n tick shown i a)) mid after
          (first ∙ ap (λ d. extended log (sheet_with d)) ed) (h ∙ ap (λ k. extended mid (map (shown_key i) k)) ek)

  -- accounts from i on are left; xs are those that the function goes through
  module _ (start all log : List Act) (xs : List Account) (same : map standing_of xs ≡ n.accounts) where
    -- x is the next of them
    module _ (x : Account) (h : i < length xs) (read : get_or xs i x ≡ x) (l : Left start all log (showing_all n tick shown i (drop i n.accounts))) where
      here : Left start all log (showing n tick shown i (standing_of x) ++ showing_all n tick shown (i + 1) (drop (i + 1) n.accounts))
      here =
          let within : i < length n.accounts = omega (arith, length-map xs standing_of, ap length same) in
          let there : get_or n.accounts i (standing_of x) ≡ standing_of x = ap (λ ys. get_or ys i (standing_of x)) (sym same) ∙ get_or-map standing_of xs i x (standing_of x) h ∙ ap standing_of read in
          subst (λ a. Left start all log (showing n tick shown i a ++ showing_all n tick shown (i + 1) (drop (i + 1) n.accounts))) there
          (subst (λ ys. Left start all log (showing_all n tick shown i ys)) (drop_more n.accounts i (standing_of x) within) l)

      pub account_more : (mid : List Act) → mid ≡ extended log (showing n tick shown i (standing_of x)) → Left start all mid (showing_all n tick shown (i + 1) (drop (i + 1) n.accounts))
      account_more mid e =
          left_less start all log (showing n tick shown i (standing_of x)) (showing_all n tick shown (i + 1) (drop (i + 1) n.accounts)) mid here e

      pub account_failed : (after : List Act) → Begun log (showing n tick shown i (standing_of x)) after → Begun start all after
      account_failed after b =
          left_failed start all log (showing n tick shown i (standing_of x)) (showing_all n tick shown (i + 1) (drop (i + 1) n.accounts)) after here b

    pub accounts_done : length xs ≤ i → Left start all log (showing_all n tick shown i (drop i n.accounts)) → log ≡ extended start all
    accounts_done h l =
        let past : length n.accounts ≤ i = omega (arith, length-map xs standing_of, ap length same) in
        sym (at_drop_all (λ ys. extended log (showing_all n tick shown i ys)) n.accounts i past) ∙ l.whole

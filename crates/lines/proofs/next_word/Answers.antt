use Rattle.std.proofs.Common.{◌≡◌, ◌==◌, ℕ, List, [], length, take, drop, ◌-◌, ◌<◌, IfSome, Option, unwrap_or, ◌≤◌, subst, refl, ap, sym, ◌∙◌, Some, None, arith, rules, not, length-drop, length-take, Bor}
use borrow.Author.Tests.{tests}
use Rattle.std.specs.Option.{option_map}
use Rattle.std.specs.List.{position}
use Rattle.std.proofs.lemmas.Iterator.{YieldsList-from_slice}
use Rattle.std.proofs.lemmas.Iterator.Search.{position_from_yields_List}
use Rattle.lines.proofs.Seeks.{found_at, found_none, seek_is_not, first_none, first_some, words_from}
use Rattle.lines.specs.Lines.{First, word_and_rest}
use Rattle.lines.proofs.next_word.Goals as goal

pub returns-in_err-start : goal.returns-in_err-start
returns-in_err-start c =
    let e : c.position.result ≡ position (λ x. not (x == 32)) c.args.line.now = position_from_yields_List (λ x. not (x == 32)) _ _ c.position.result c.position.ensures.ran (YieldsList-from_slice c.args.line.now cc) (λ x b q k. search (rules, tests)) in
    let h = found_none (λ x. not (x == 32)) c.args.line.now (sym c.in_err-start.was ∙ e) in
    let s = sym (seek_is_not 32 c.args.line.now) in
    let v = first_none c.args.line.now _ s (omega arith) in
    subst (λ o. First c.args.line.now (option_map word_and_rest o)) (sym c.from_residual.ensures) (record { value = v; split = words_from c.args.line.now _ v; shorter = tt })

-- a word with what followed the cut after it, if anything did
unwrapped : (o : Option (Bor (List ℕ))) (b : Bor (List ℕ)) → b.now ≡ [] → (unwrap_or o b).now ≡ unwrap_or (option_map (λ x. x.now) o) []
unwrapped None b h = h
unwrapped (Some x) b h = refl

rest_less : (o : Option (Bor (List ℕ))) (n m : ℕ) → IfSome (option_map (λ x. x.now) o) (λ t. length t < n) → n ≤ m → 0 < m → length (unwrap_or (option_map (λ x. x.now) o) []) < m
rest_less None n m h le some = omega arith
rest_less (Some x) n m h le some = omega arith

pub returns : goal.returns
returns c =
    let line : List ℕ = c.args.line.now in
    let start = c.in_ok-start.start in
    let x : List ℕ = c.part_at-found.result.text.now in
    let o = c.part_at-found.result.rest in
    let e : c.position.result ≡ position (λ x. not (x == 32)) c.args.line.now = position_from_yields_List (λ x. not (x == 32)) _ _ c.position.result c.position.ensures.ran (YieldsList-from_slice c.args.line.now cc) (λ x b q k. search (rules, tests)) in
    let h = found_at (λ x. not (x == 32)) c.args.line.now start (sym c.in_ok-start.was ∙ e) in
    let rest : c.unwrap_or.result.now ≡ unwrap_or (option_map (λ x. x.now) o) [] = ap (λ b. b.now) c.unwrap_or.ensures ∙ unwrapped o _ refl in
    let v = ap (λ t. Some (x, t)) rest ∙ first_some line start (h.0 ∙ sym (seek_is_not 32 line)) x _ h.1 c.part_at-found.ensures.value in
    let within : length (take (length line - start) (drop start line)) ≤ length line = simp (length-take, length-drop) (omega arith) in
    let less = rest_less o _ (length line) c.part_at-found.ensures.shorter within (omega arith) in
    record { value = v; split = words_from line _ v; shorter = rw rest less }

use Rattle.std.proofs.Common.{◌≡◌, ◌==◌, sym, ◌∙◌, arith, rules, length-drop, length-take}
use borrow.Author.Tests.{tests}
use Rattle.std.specs.List.{position}
use Rattle.std.proofs.lemmas.Iterator.{YieldsList-from_slice}
use Rattle.std.proofs.lemmas.Iterator.Search.{position_from_yields_List}
use Rattle.lines.proofs.Seeks.{found_at, found_none, seek_is, cut_whole, cut_found, split_from}
use Rattle.lines.proofs.part_at.Goals as goal

pub returns-in-Some : goal.returns-in-Some
returns-in-Some c =
    let e : c.position.result ≡ position (λ x. x == c.args.b) c.args.text.now = position_from_yields_List (λ x. x == c.args.b) _ _ c.position.result c.position.ensures.ran (YieldsList-from_slice c.args.text.now cc) (λ x b q k. search (rules, tests)) in
    let h = found_at (λ x. x == c.args.b) c.args.text.now c.in-Some.at (sym c.in-Some.is ∙ e) in
    let v = cut_found c.args.b c.args.text.now _ (h.0 ∙ sym (seek_is c.args.b c.args.text.now)) h.1 in
    record { value = v; split = split_from c.args.b c.args.text.now _ _ v; shorter = simp (length-take, length-drop) (omega arith) }

pub returns-in-None : goal.returns-in-None
returns-in-None c =
    let e : c.position.result ≡ position (λ x. x == c.args.b) c.args.text.now = position_from_yields_List (λ x. x == c.args.b) _ _ c.position.result c.position.ensures.ran (YieldsList-from_slice c.args.text.now cc) (λ x b q k. search (rules, tests)) in
    let h = found_none (λ x. x == c.args.b) c.args.text.now (sym c.in-None.is ∙ e) in
    let v = cut_whole c.args.b c.args.text.now _ (sym (seek_is c.args.b c.args.text.now)) h in
    record { value = v; split = split_from c.args.b c.args.text.now _ _ v; shorter = tt }

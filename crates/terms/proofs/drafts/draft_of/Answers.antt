use Rattle.std.proofs.Common.{◌≡◌, ◌+◌, rules, tests, length, drop, Err, Result, sym, ap, ◌∙◌}
use Rattle.std.proofs.lemmas.List.{length_push}
use Rattle.std.proofs.lemmas.Iterator.Consumers.{YieldsList-at, YieldsList-from_enumerate}
use Rattle.std.proofs.lemmas.Iterator.Splits.{YieldsList-from_slice_split}
use Rattle.lines.specs.Lines.{parts}
use Rattle.terms.specs.declared.types.Draft.{Draft}
use Rattle.terms.specs.declared.types.Fault.{Fault}
use Rattle.terms.specs.Reading.{all_say, on_draft}
use Rattle.terms.proofs.Lines.{ends, say_next, say_end, turn_of, end_of}
use Rattle.terms.proofs.drafts.draft_of.Goals as goal

pub returns-in_err-draft : goal.returns-in_err-draft
returns-in_err-draft c =
    let t = turn_of c.loop-i.yielded _ c.loop-i.yielded_by _ _ (c.in-Some.i, c.in-Some.line) c.in-Some.is c.next.ensures.steps (YieldsList-from_enumerate (YieldsList-at (cc) (YieldsList-from_slice_split {s = c.split.result} _ ends c.args.text.now c.split.ensures.rest c.split.ensures.done c.split.ensures.closure (λ x r q k. search (rules, tests)))) (cc)) in
    let n = length c.loop-i.yielded in
    let same : c.from_residual.result ≡ Err c.in_err-draft.field-0.0 = search rules in
    same
    ∙ (ap (λ (o : Result Draft Fault). on_draft o (λ f. all_say f (1 + (n + 1)) (drop (n + 1) (parts 10 c.args.text.now)))) (sym c.in_err-draft.was ∙ c.with_line.ensures)
    ∙ (sym (say_next c.args.text.now n c.in-Some.i c.in-Some.line.now t.0 t.1 c.loop-i.draft) ∙ c.loop-i.invariant))

pub loop-i-preserved : goal.loop-i-preserved
loop-i-preserved c =
    let t = turn_of c.loop-i.yielded _ c.loop-i.yielded_by _ _ (c.in-Some.i, c.in-Some.line) c.in-Some.is c.next.ensures.steps (YieldsList-from_enumerate (YieldsList-at (cc) (YieldsList-from_slice_split {s = c.split.result} _ ends c.args.text.now c.split.ensures.rest c.split.ensures.done c.split.ensures.closure (λ x r q k. search (rules, tests)))) (cc)) in
    let n = length c.loop-i.yielded in
    ap (λ k. all_say c.in_ok-draft.draft (1 + k) (drop k (parts 10 c.args.text.now))) (length_push c.loop-i.yielded (c.in-Some.i, c.in-Some.line))
    ∙ (ap (λ (o : Result Draft Fault). on_draft o (λ f. all_say f (1 + (n + 1)) (drop (n + 1) (parts 10 c.args.text.now)))) (sym c.in_ok-draft.was ∙ c.with_line.ensures)
    ∙ (sym (say_next c.args.text.now n c.in-Some.i c.in-Some.line.now t.0 t.1 c.loop-i.draft) ∙ c.loop-i.invariant))

pub returns : goal.returns
returns c =
    let t = end_of c.loop-i.yielded _ c.loop-i.yielded_by _ _ c.in-None.is c.next.ensures.steps (YieldsList-from_enumerate (YieldsList-at (cc) (YieldsList-from_slice_split {s = c.split.result} _ ends c.args.text.now c.split.ensures.rest c.split.ensures.done c.split.ensures.closure (λ x r q k. search (rules, tests)))) (cc)) in
    sym (say_end c.args.text.now (length c.loop-i.yielded) c.loop-i.draft t) ∙ c.loop-i.invariant

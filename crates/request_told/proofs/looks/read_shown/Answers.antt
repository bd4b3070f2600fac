use Rattle.request_told.proofs.Statements.{word_more}
use Rattle.request_told.proofs.looks.read_shown.Goals as goal

pub loop-word-preserved : goal.loop-word-preserved
loop-word-preserved c =
    word_more _ _ _ c.loop-word.rest.now c.in-Some.word.text.now _ _ c.loop-word.invariant c.in-Some.ensures.split c.in-Some-read_statement.ensures c.in_ok-push.ensures.items

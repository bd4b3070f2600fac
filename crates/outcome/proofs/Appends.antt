-- A log with acts after it, one by one and all at once.
use Rattle.std.proofs.Common.{suc, [], ◌∷◌, ◌++◌, sym, ◌∙◌, inl, inr, append_assoc, append-nil}
use Rattle.outcome.specs.Logs.{ExtendedIsAppended, BegunIsFirstPart}

pub extended_appended : ExtendedIsAppended
extended_appended log [] = sym (append-nil log)
extended_appended log (a ∷ others) = extended_appended (log ++ a ∷ []) others ∙ append_assoc log (a ∷ []) others

pub begun_first : BegunIsFirstPart
begun_first log [] after e = (0, e ∙ sym (append-nil log))
begun_first log (a ∷ others) after (inl e) = (0, e ∙ sym (append-nil log))
begun_first log (a ∷ others) after (inr b) =
    let r = begun_first (log ++ a ∷ []) others after b in (suc r.0, r.1 ∙ append_assoc log (a ∷ []) _)

use Rattle.std.proofs.Common.{sym, ap, ◌∙◌}
use Rattle.std.proofs.lemmas.Result.{on_err_weaker}
use Rattle.trace_stream.proofs.serving.finish_if_due.Goals as goal

pub returns-then-is_due-clause-err : goal.returns-then-is_due-clause-err
returns-then-is_due-clause-err g c = λ start seen p e stands written.
    on_err_weaker c.finish.result (λ put. (sym (ap (λ q. (g.A.Action.meaning q).due) e) ∙ sym c.is_due.ensures ∙ c.if-is_due.true, put))
    (c.finish.ensures.err start seen p e stands written)

use Rattle.std.proofs.Common.{rules, [], ◌++◌, ap, ◌∙◌, sym, subst, append-nil}
use Rattle.std.proofs.lemmas.Result.{on_ok_weaker, on_err_weaker}
use Rattle.std.specs.Io.KnownBytes.{Appends}
use Rattle.std.proofs.KnownBytes.{Appends-trans}
use Rattle.trace_io.specs.Bytes.{AppendsPrefix}
use Rattle.trace_stream.proofs.Prefixes.{prefix_join, prefix_more, AppendsPrefix-append, front_written}
use Rattle.trace_stream.proofs.serving.finish.Goals as goal

pub returns-in_err-flush-clause-err : goal.returns-in_err-flush-clause-err
returns-in_err-flush-clause-err g c = λ start seen p e stands written.
    let put = AppendsPrefix-append _ _ ((g.A.Action.meaning p).text seen) ((g.A.Action.meaning p).ending seen) (prefix_join _ _ _ _ _ written c.in_err-flush.ensures.err) in
    search rules

pub returns-in_err-pour_all-clause-err : goal.returns-in_err-pour_all-clause-err
returns-in_err-pour_all-clause-err g c = λ start seen p e stands written.
    let text = (g.A.Action.meaning p).text seen in
    let now = g.O.Sink.held c.pour_all.new.output in
    let so_far = front_written start _ (g.O.Sink.held c.flush.new.sink) text _ written c.in_ok-flush.ensures.ok in
    let gained = c.finish.ensures.ended seen stands ∙ ap (λ q. (g.A.Action.meaning q).ending seen) e in
    let put = subst (λ l. AppendsPrefix start now (text ++ l)) gained
    (prefix_more start (g.O.Sink.held c.flush.new.sink) now text [] _ (record { front = text; took = so_far; all = sym (append-nil text) }) c.in_err-pour_all.ensures.err) in
    search rules

pub returns-clause-ok : goal.returns-clause-ok
returns-clause-ok g c = λ start seen p e stands written.
    let text = (g.A.Action.meaning p).text seen in
    let first = g.O.Sink.held c.flush.new.sink in
    let last = g.O.Sink.held c.flush-2.new.sink in
    let so_far = front_written start _ first text _ written c.in_ok-flush.ensures.ok in
    let gained = c.finish.ensures.ended seen stands ∙ ap (λ q. (g.A.Action.meaning q).ending seen) e in
    on_ok_weaker c.flush-2.result
    (λ put. subst (λ l. Appends start last (text ++ l)) gained
    (Appends-trans start first last text _ so_far (front_written first _ last _ _ c.in_ok-pour_all.ensures.ok put)))
    c.flush-2.ensures.ok

pub returns-clause-err : goal.returns-clause-err
returns-clause-err g c = λ start seen p e stands written.
    let text = (g.A.Action.meaning p).text seen in
    let first = g.O.Sink.held c.flush.new.sink in
    let last = g.O.Sink.held c.flush-2.new.sink in
    let so_far = front_written start _ first text _ written c.in_ok-flush.ensures.ok in
    let gained = c.finish.ensures.ended seen stands ∙ ap (λ q. (g.A.Action.meaning q).ending seen) e in
    on_err_weaker c.flush-2.result
    (λ put. subst (λ l. AppendsPrefix start last (text ++ l)) gained
    (prefix_more start first last text [] _ (record { front = text; took = so_far; all = sym (append-nil text) })
    (prefix_join first _ last _ _ c.in_ok-pour_all.ensures.ok put)))
    c.flush-2.ensures.err

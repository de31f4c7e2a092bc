use Rattle.std.proofs.Common.{sym, ◌∙◌, inl, inr}
use Rattle.trace_stream.proofs.Parts.{served_at_end, served_stopped, served_read_failed, served_over_limit, served_in_part, served_to_end, text_in_part, all_in_part, over_in_part, all_read, all_stopped, stopped_in_part}
use Rattle.trace_stream.proofs.Telling.{told_kept}
use Rattle.trace_stream.proofs.serving.serve.Goals as goal
use Rattle.trace_stream.proofs.serving.serve.Goals.{in-AtEnd+in-Ok, in-AtEnd+in-Err, in-FaultFound+in-Ok-finish, in-FaultFound+in-Err-finish, in-ReadFailed+in-Ok-finish_if_due, in-ReadFailed+in-Err-finish_if_due, in-WriteFailed, in-OverLimit+in-Ok-finish_if_due-2, in-OverLimit+in-Err-finish_if_due-2}

pub returns-clause-served : goal.returns-clause-served
returns-clause-served g c =
    let plan = g.A.Action.plan c.args.action.now in
    let m = g.A.Action.meaning plan in
    let lawful = g.met.A.Action.lawful plan in
    let limit = c.args.limit in
    elim c.match-pump.branch [
      | in-AtEnd+in-Ok w ↦
          let p = w.in-AtEnd.ensures.pumped in
          rw (w.result-is, w.output-is, w.action-is, w.buffers-inside-is)
          (served_at_end _ _ (told_kept _ _ _ _ _ w.in-Ok.ensures.stands) _ _ _ _ _ _ p (w.in-Ok.ensures.ok _ p.seen _ w.in-AtEnd.ensures.same p.outcome.0.read.read p.outcome.0.written))
      | in-AtEnd+in-Err w ↦
          let p = w.in-AtEnd.ensures.pumped in
          rw (w.result-is, w.output-is, w.action-is, w.buffers-inside-is)
          (served_to_end _ _ (told_kept _ _ _ _ _ w.in-Err.ensures.stands) _ _ _ _ _ _ _ p p.outcome.0.read _ (w.in-Err.ensures.err _ p.seen _ w.in-AtEnd.ensures.same p.outcome.0.read.read p.outcome.0.written)
          (inl (all_read m.faulty limit _ p.seen p.extra p.outcome.1 p.within p.outcome.2)) (all_in_part m.text m.ending limit p.seen p.extra p.outcome.1 p.within))
      | in-FaultFound+in-Ok-finish w ↦
          let p = w.in-FaultFound.ensures.pumped in
          rw (w.result-is, w.output-is, w.action-is, w.buffers-inside-is)
          (served_stopped _ _ (told_kept _ _ _ _ _ w.in-Ok-finish.ensures.stands) _ _ _ _ _ _ lawful p (w.in-Ok-finish.ensures.ok _ p.seen _ w.in-FaultFound.ensures.same p.outcome.0.read.read p.outcome.0.written))
      | in-FaultFound+in-Err-finish w ↦
          let p = w.in-FaultFound.ensures.pumped in
          rw (w.result-is, w.output-is, w.action-is, w.buffers-inside-is)
          (served_to_end _ _ (told_kept _ _ _ _ _ w.in-Err-finish.ensures.stands) _ _ _ _ _ _ _ p p.outcome.0.read _ (w.in-Err-finish.ensures.err _ p.seen _ w.in-FaultFound.ensures.same p.outcome.0.read.read p.outcome.0.written)
          (inl (all_stopped m limit _ p.seen p.extra lawful p.outcome.0.fault.broken p.within))
          (stopped_in_part m limit p.seen p.extra lawful p.outcome.0.fault.broken p.within))
      | in-ReadFailed+in-Ok-finish_if_due w ↦
          let p = w.in-ReadFailed.ensures.pumped in
          rw (w.result-is, w.output-is, w.action-is, w.buffers-inside-is)
          (served_read_failed _ _ (told_kept _ _ _ _ _ w.in-Ok-finish_if_due.ensures.stands) _ _ _ _ _ _ p (w.in-Ok-finish_if_due.ensures.ok _ p.seen _ w.in-ReadFailed.ensures.same p.outcome.0.read.read p.outcome.0.written))
      | in-ReadFailed+in-Err-finish_if_due w ↦
          let p = w.in-ReadFailed.ensures.pumped in
          let put = w.in-Err-finish_if_due.ensures.err _ p.seen _ w.in-ReadFailed.ensures.same p.outcome.0.read.read p.outcome.0.written in
          rw (w.result-is, w.output-is, w.action-is, w.buffers-inside-is)
          (served_to_end _ _ (told_kept _ _ _ _ _ w.in-Err-finish_if_due.ensures.stands) _ _ _ _ _ _ _ p p.outcome.0.read _ put.1 (inr put.0) (all_in_part m.text m.ending limit p.seen p.extra p.outcome.1 p.within))
      | in-WriteFailed w ↦
          let p = w.in-WriteFailed.ensures.pumped in
          rw (w.result-is, w.output-is, w.action-is, w.buffers-inside-is)
          (served_in_part _ _ (λ seen told. told) _ _ _ _ _ _ _ p p.outcome.1 _ p.outcome.0 (text_in_part m.text limit p.seen p.extra lawful.text_grows p.within))
      | in-OverLimit+in-Ok-finish_if_due-2 w ↦
          let p = w.in-OverLimit.ensures.pumped in
          rw (w.result-is, w.output-is, w.action-is, w.buffers-inside-is)
          (served_over_limit _ _ (told_kept _ _ _ _ _ w.in-Ok-finish_if_due-2.ensures.stands) _ _ _ _ _ _ p (w.in-Ok-finish_if_due-2.ensures.ok _ p.seen _ w.in-OverLimit.ensures.same p.outcome.0.read.read p.outcome.0.written))
      | in-OverLimit+in-Err-finish_if_due-2 w ↦
          let p = w.in-OverLimit.ensures.pumped in
          let put = w.in-Err-finish_if_due-2.ensures.err _ p.seen _ w.in-OverLimit.ensures.same p.outcome.0.read.read p.outcome.0.written in
          rw (w.result-is, w.output-is, w.action-is, w.buffers-inside-is)
          (served_to_end _ _ (told_kept _ _ _ _ _ w.in-Err-finish_if_due-2.ensures.stands) _ _ _ _ _ _ _ p p.outcome.0.read _ put.1 (inr put.0) (over_in_part m.text m.ending limit p.seen p.extra p.outcome.1))
    ]

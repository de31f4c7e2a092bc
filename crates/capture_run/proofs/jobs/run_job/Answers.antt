use Rattle.std.proofs.Common.{sym, subst}
use Rattle.capture_run.specs.Actions.{HasDone}
use Rattle.capture_run.specs.Run.{Streams, streams}
use Rattle.capture_run.proofs.Running.{done_unopened}
use Rattle.capture_run.proofs.jobs.run_job.Goals as goal

pub returns-in_default-clause-ran : goal.returns-in_default-clause-ran
returns-in_default-clause-ran g c =
    let left = g.I.Source.left c.args.input.now in
    let held = g.O.Sink.held c.args.output.now in
    let old : Streams = streams left held (g.N.Sink.held c.args.notes.now) (g.N.Sink.faults c.args.notes.now) in
    let new = c.note_no_memory.new.notes in
    subst (HasDone c.args.job.task c.args.job.limit old _) (sym c.note_no_memory.ensures.status)
    (done_unopened c.args.job.task c.args.job.limit old (g.N.Sink.held new) (g.N.Sink.faults new)
    c.note_no_memory.ensures.noted)

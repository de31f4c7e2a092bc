use Rattle.std.proofs.Common.{◌≡◌, List, ℕ, true, sym, subst, ◌∙◌, inl, inr, refl, [], ap}
use Rattle.std.proofs.lemmas.Result.{IfOk-at_ok}
use Rattle.trace_stream.specs.Recent.{last_sixteen}
use Rattle.trace_stream.specs.Told.{Noted, told}
use Rattle.capture_run.specs.Run.{HasRun, task_of, Streams, streams}
use Rattle.capture_run.proofs.Running.{run_done, run_late, run_over, run_read_failed, run_stopped, run_write_failed}
use Rattle.capture_run.proofs.Running.{run_unopened}
use Rattle.capture_run.proofs.jobs.run_action.Goals as goal

pub serve-outcome-requires-clause-fresh : goal.serve-outcome-requires-clause-fresh
serve-outcome-requires-clause-fresh g c =
    IfOk-at_ok _ c.in-Ok.is c.requires.fresh c.args.buffers.now c.requires.empty.0 c.requires.empty.1

pub returns-then-ending-clause-ran : goal.returns-then-ending-clause-ran
returns-then-ending-clause-ran g c = λ p opened.
    let k = c.in-AtEnd.ensures.served in
    let e = c.ending-ending.ensures in
    let mid : Noted = told (g.N.Sink.held c.serve-outcome.new.notes) (g.N.Sink.faults c.serve-outcome.new.notes) in
    let late = sym (e.late k.fed k.holds.read) ∙ c.if-ending.true in
    run_late g.A.Action.meaning g.A.Action.noted g.A.CommandAction.notes _ _ p c.serve-outcome.ensures.same
    (IfOk-at_ok _ c.in-Ok.is opened) _ _ _ mid c.serve-outcome.new.buffers.recent _
    c.note_fault.ensures.later c.ending-ending.result.fault _ e.status e.exact k c.note_fault.ensures.status
    c.note_fault.ensures.noted late (e.fault k.fed _ k.holds.read (inr late))

pub returns-in-AtEnd-clause-ran : goal.returns-in-AtEnd-clause-ran
returns-in-AtEnd-clause-ran g c = λ p opened.
    let k = c.in-AtEnd.ensures.served in
    let e = c.ending-ending.ensures in
    let mid : Noted = told (g.N.Sink.held c.serve-outcome.new.notes) (g.N.Sink.faults c.serve-outcome.new.notes) in
    run_done g.A.Action.meaning g.A.Action.noted g.A.CommandAction.notes _ _ p c.serve-outcome.ensures.same
    (IfOk-at_ok _ c.in-Ok.is opened) _ _ _ mid c.serve-outcome.new.buffers.recent _
    c.note_done.ensures.later _ k _ c.note_done.ensures.status c.note_done.ensures.noted
    (sym (e.late k.fed k.holds.read) ∙ c.if-ending.false) (e.done k.fed k.holds.read)

pub returns-in-FaultFound-clause-ran : goal.returns-in-FaultFound-clause-ran
returns-in-FaultFound-clause-ran g c = λ p opened.
    let k = c.in-FaultFound.ensures.served in
    let e = c.ending.ensures in
    let mid : Noted = told (g.N.Sink.held c.serve-outcome.new.notes) (g.N.Sink.faults c.serve-outcome.new.notes) in
    let same = c.serve-outcome.ensures.same in
    let now = g.A.Action.plan c.serve-outcome.new.action in
    let sound : (seen : List ℕ) → (g.A.CommandAction.notes now).exact ≡ true →
    (g.A.Action.meaning (g.A.Action.plan c.in-Ok.action)).faulty seen → ⊥ =
    λ seen exact faulty. e.sound seen exact (subst (λ q. (g.A.Action.meaning q).faulty seen) (sym same) faulty) in
    run_stopped g.A.Action.meaning g.A.Action.noted g.A.CommandAction.notes _ _ p same
    (IfOk-at_ok _ c.in-Ok.is opened) _ _ _ mid c.serve-outcome.new.buffers.recent _
    c.note_fault-in-FaultFound.ensures.later c.ending.result.fault _ e.status e.exact k
    c.note_fault-in-FaultFound.ensures.status c.note_fault-in-FaultFound.ensures.noted sound
    (e.fault k.fed _ k.holds.read (inl (k.outcome.2 ∙ sym (ap last_sixteen k.feeds))))

pub returns-in-ReadFailed-clause-ran : goal.returns-in-ReadFailed-clause-ran
returns-in-ReadFailed-clause-ran g c = λ p opened.
    let mid : Noted = told (g.N.Sink.held c.serve-outcome.new.notes) (g.N.Sink.faults c.serve-outcome.new.notes) in
    run_read_failed g.A.Action.meaning g.A.Action.noted g.A.CommandAction.notes _ _ p refl
    (IfOk-at_ok _ c.in-Ok.is opened) _ _ _ mid c.serve-outcome.new.buffers.recent _
    c.note.ensures.later c.in-ReadFailed.ensures.served c.note.ensures.noted

pub returns-in-WriteFailed-clause-ran : goal.returns-in-WriteFailed-clause-ran
returns-in-WriteFailed-clause-ran g c = λ p opened.
    let mid : Noted = told (g.N.Sink.held c.serve-outcome.new.notes) (g.N.Sink.faults c.serve-outcome.new.notes) in
    run_write_failed g.A.Action.meaning g.A.Action.noted g.A.CommandAction.notes _ _ p refl
    (IfOk-at_ok _ c.in-Ok.is opened) _ _ _ mid c.serve-outcome.new.buffers.recent _
    c.note-in-WriteFailed.ensures.later c.in-WriteFailed.ensures.served c.note-in-WriteFailed.ensures.noted

pub returns-clause-ran : goal.returns-clause-ran
returns-clause-ran g c = λ p opened.
    let e = c.ending-in-OverLimit.ensures in
    let mid : Noted = told (g.N.Sink.held c.serve-outcome.new.notes) (g.N.Sink.faults c.serve-outcome.new.notes) in
    run_over g.A.Action.meaning g.A.Action.noted g.A.CommandAction.notes _ _ p c.serve-outcome.ensures.same
    (IfOk-at_ok _ c.in-Ok.is opened) _ _ _ mid c.serve-outcome.new.buffers.recent _
    c.note_over.ensures.later c.ending-in-OverLimit.result.fault _ e.status e.exact c.in-OverLimit.ensures.served
    c.note_over.ensures.status c.note_over.ensures.noted (λ bytes exact. e.size bytes [] exact)

pub returns-in_default-clause-ran : goal.returns-in_default-clause-ran
returns-in_default-clause-ran g c = λ p opened.
    let left = g.I.Source.left c.args.input.now in
    let held = g.O.Sink.held c.args.output.now in
    let old : Streams = streams left held (g.N.Sink.held c.args.notes.now) (g.N.Sink.faults c.args.notes.now) in
    let new = c.note_no_memory.new.notes in
    let task = task_of (g.A.Action.meaning p) (g.A.Action.noted p) (g.A.CommandAction.notes p) in
    subst (HasRun task c.args.limit old _) (sym c.note_no_memory.ensures.status)
    (run_unopened c.args.limit old (g.N.Sink.held new) (g.N.Sink.faults new) c.note_no_memory.ensures.noted task)

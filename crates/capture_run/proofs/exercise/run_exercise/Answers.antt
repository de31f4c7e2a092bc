use Rattle.std.proofs.Common.{arith, []}
use Rattle.trace_stream.specs.Told.{told}
use Rattle.trace_stream.proofs.Telling.{notes_more}
use Rattle.trace_stream.specs.declared.limits.TheConstants.{GREATEST_CAPTURE}
use Rattle.trace_stream.specs.declared.outcome.Outcome.TheVariants.{WriteFailed}
use Rattle.capture_exercise.specs.Exerciser.{plan_of}
use Rattle.capture_exercise.specs.Source.{left_of}
use Rattle.capture_run.specs.Run.{Streams, streams}
use Rattle.capture_run.proofs.Exercised.{served_for, made_all, made_failed, few_left}
use Rattle.capture_run.proofs.exercise.run_exercise.Goals as goal

pub returns-in-WriteFailed-clause-made : goal.returns-in-WriteFailed-clause-made
returns-in-WriteFailed-clause-made g c = λ left.
    let before = c.args.notes.now in
    let mid = c.serve-outcome.new.notes in
    let held = g.O.Sink.held c.args.output.now in
    let now = g.O.Sink.held c.serve-outcome.new.output in
    let old : Streams = streams left held (g.N.Sink.held before) (g.N.Sink.faults before) in
    let new : Streams = streams left now (g.N.Sink.held c.note.new.notes) (g.N.Sink.faults c.note.new.notes) in
    let served = served_for _ WriteFailed (plan_of c.new-action.result) (left_of c.new-rest.result) c.args.items c.args.lose
    GREATEST_CAPTURE c.capture_len-capture.result c.exercise_plan.result held now _ c.serve-outcome.new.buffers.recent
    c.new-action.ensures.plan c.capture_len-capture.ensures.len c.exercise_plan.ensures.value c.new-rest.ensures.left
    c.in-WriteFailed.ensures.served in
    made_failed _ c.args.items c.args.lose GREATEST_CAPTURE left old new _ c.serve-outcome.new.buffers.recent served
    (notes_more (told (g.N.Sink.held before) (g.N.Sink.faults before)) (told (g.N.Sink.held mid) (g.N.Sink.faults mid))
    (told (g.N.Sink.held c.note.new.notes) (g.N.Sink.faults c.note.new.notes)) [] _
    c.in-WriteFailed.ensures.served.holds.gained c.in-WriteFailed.ensures.served.holds.later c.note.ensures.noted
    c.note.ensures.later)

pub returns-clause-made : goal.returns-clause-made
returns-clause-made g c = λ left.
    let before = c.args.notes.now in
    let mid = c.serve-outcome.new.notes in
    let held = g.O.Sink.held c.args.output.now in
    let now = g.O.Sink.held c.serve-outcome.new.output in
    let old : Streams = streams left held (g.N.Sink.held before) (g.N.Sink.faults before) in
    let new : Streams = streams left now (g.N.Sink.held mid) (g.N.Sink.faults mid) in
    let outcome = c.serve-outcome.result in
    let served = served_for _ outcome (plan_of c.new-action.result) (left_of c.new-rest.result) c.args.items c.args.lose
    GREATEST_CAPTURE c.capture_len-capture.result c.exercise_plan.result held now _ c.serve-outcome.new.buffers.recent
    c.new-action.ensures.plan c.capture_len-capture.ensures.len c.exercise_plan.ensures.value c.new-rest.ensures.left
    c.serve-outcome.ensures.served in
    let few = few_left c.args.items c.args.lose c.capture_len-capture.result c.capture_len-capture.ensures.len
    c.capture_len-capture.ensures.few in
    made_all _ c.args.items c.args.lose GREATEST_CAPTURE left old new _ c.serve-outcome.new.buffers.recent outcome
    c.in_default.not-WriteFailed (λ e. let rose = c.serve-outcome.ensures.causes.read_cause e in omega (arith, rose)) few served served.holds.gained

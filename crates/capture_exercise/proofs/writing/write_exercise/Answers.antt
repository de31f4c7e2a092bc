use Rattle.std.proofs.Common.{ℕ, refl, List, length, ap, ◌∙◌, subst, arith}
use Rattle.capture_exercise.specs.Names.{AppendsPrefix}
use Rattle.capture_exercise.specs.Exercise.{exercise_capture}
use Rattle.capture_exercise.specs.Maker.{to_come}
use Rattle.capture_exercise.specs.Source.{left_of, pending}
use Rattle.capture_exercise.proofs.Giving.{front_given, front_stopped, whole_given}
use Rattle.capture_exercise.proofs.writing.write_exercise.Goals as goal

pub returns-in_err-write_whole-clause-front : goal.returns-in_err-write_whole-clause-front
returns-in_err-write_whole-clause-front g c =
    let s = c.loop-source.source in
    let mid = g.O.Sink.held c.loop-source.output in
    let new = g.O.Sink.held c.write_whole.new.sink in
    front_stopped (g.O.Sink.held c.args.output.now) mid new (exercise_capture c.args.items) (pending s) (to_come s.maker)
    c.loop-source.invariant.part
    (subst (λ (l : List ℕ). AppendsPrefix mid new l) c.pending-piece.ensures c.write_whole.ensures.front)

pub loop-source-preserved : goal.loop-source-preserved
loop-source-preserved g c =
    let s = c.loop-source.source in
    let mid = g.O.Sink.held c.loop-source.output in
    let new = g.O.Sink.held c.write_whole.new.sink in
    let after = c.refill-in-loop-source in
    let items = after.ensures.same.items ∙ c.advance.ensures.same.items ∙ c.loop-source.invariant.items in
    record {
      part =
          front_given (g.O.Sink.held c.args.output.now) mid new (exercise_capture c.args.items) (left_of s) c.pending-piece.result.now
          (left_of after.new.self) c.loop-source.invariant.part c.in_ok-write_whole.ensures.whole
          (whole_given (left_of s) (pending s) (left_of c.advance.new.self) (left_of after.new.self) c.pending-piece.result.now
          (length c.pending-piece.result.now) c.advance.ensures.given c.pending-piece.ensures refl after.ensures.left);
      later = omega (arith, c.write_whole.ensures.cause.later, c.loop-source.invariant.later);
      items = items;
      end = after.ensures.end;
      made = λ h. after.ensures.made h ∙ ap (λ (n : ℕ). length (exercise_capture n)) items;
    }

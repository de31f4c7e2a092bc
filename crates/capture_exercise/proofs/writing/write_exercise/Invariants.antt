use Rattle.std.proofs.Common.{◌≡◌, ◌≤◌, length, []}
use Rattle.capture_exercise.specs.Names.{TakesFront}
use Rattle.capture_exercise.specs.Exercise.{exercise_capture}
use Rattle.capture_exercise.specs.Source.{items_of, pending, left_of, made_by}
use Rattle.capture_exercise.proofs.writing.write_exercise.Given as goal

abbrev pub invariant-loop-source : goal.invariant-loop-source
invariant-loop-source g l = record {
  part : TakesFront (g.O.Sink.held l.initial.output) (g.O.Sink.held l.output) (exercise_capture l.items) (left_of l.source);
  later : g.O.Sink.faults l.initial.output ≤ g.O.Sink.faults l.output;
  items : items_of l.source ≡ l.items;
  end : pending l.source ≡ [] → left_of l.source ≡ [];
  made : pending l.source ≡ [] → made_by l.source ≡ length (exercise_capture l.items);
}

abbrev pub decreases-loop-source : goal.decreases-loop-source
decreases-loop-source g l = length (left_of l.source)

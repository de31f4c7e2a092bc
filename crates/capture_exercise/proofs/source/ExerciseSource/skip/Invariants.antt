use Rattle.std.proofs.Common.{◌≡◌, drop}
use Rattle.capture_exercise.specs.Source.{left_of, IsSame}
use Rattle.capture_exercise.proofs.source.ExerciseSource.skip.Given as goal

abbrev pub invariant-loop-rest : goal.invariant-loop-rest
invariant-loop-rest l = record {
  left : drop l.rest (left_of l.self) ≡ drop l.count (left_of l.initial.self);
  same : IsSame l.initial.self l.self;
}

abbrev pub decreases-loop-rest : goal.decreases-loop-rest
decreases-loop-rest l = l.rest

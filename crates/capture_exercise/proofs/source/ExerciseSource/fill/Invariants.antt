use Rattle.std.proofs.Common.{◌≡◌, ◌≤◌, ◌-◌, ◌++◌, length, take}
use Rattle.capture_exercise.specs.Source.{left_of, IsSame}
use Rattle.capture_exercise.proofs.source.ExerciseSource.fill.Given as goal

abbrev pub invariant-loop-filled : goal.invariant-loop-filled
invariant-loop-filled l = record {
  within : l.filled ≤ length l.buf;
  bytes : take l.filled l.buf ++ left_of l.self ≡ left_of l.initial.self;
  same : IsSame l.initial.self l.self;
}

abbrev pub decreases-loop-filled : goal.decreases-loop-filled
decreases-loop-filled l = length l.buf - l.filled

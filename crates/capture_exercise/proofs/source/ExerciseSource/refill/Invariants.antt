use Rattle.std.proofs.Common.{◌≡◌}
use Rattle.capture_exercise.specs.Source.{left_of, pieces_left, IsSame}
use Rattle.capture_exercise.proofs.source.ExerciseSource.refill.Given as goal

abbrev pub invariant-loop-self : goal.invariant-loop-self
invariant-loop-self l = record { left : left_of l.self ≡ left_of l.initial.self; same : IsSame l.initial.self l.self }

abbrev pub decreases-loop-self : goal.decreases-loop-self
decreases-loop-self l = pieces_left l.self

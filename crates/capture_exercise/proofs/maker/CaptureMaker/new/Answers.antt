use Prim.{∣◌∣₁}
use Rattle.capture_exercise.specs.Exercise.{exercise_port}
use Rattle.capture_exercise.proofs.Making.{later_first}
use Rattle.capture_exercise.proofs.maker.CaptureMaker.new.Goals as goal

pub invariant_of-result-clause-stands : goal.invariant_of-result-clause-stands
invariant_of-result-clause-stands c = λ _. ∣ c.new-2.ensures.fresh exercise_port c.new.ensures.stands ∣₁

pub returns-clause-bytes : goal.returns-clause-bytes
returns-clause-bytes c = later_first c.args.items

use Rattle.capture_exercise.specs.Maker.{made_by, to_come}
use Rattle.capture_exercise.proofs.Giving.{told}
use Rattle.capture_exercise.proofs.source.ExerciseSource.advance.Goals as goal

pub returns-clause-given : goal.returns-clause-given
returns-clause-given c =
    let self = c.args.self.now in
    told (made_by self.maker) (to_come self.maker) self.given c.args.count

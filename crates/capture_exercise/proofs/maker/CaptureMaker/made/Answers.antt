use Rattle.capture_exercise.proofs.maker.CaptureMaker.made.Goals as goal

pub returns-clause-few : goal.returns-clause-few
returns-clause-few c = c.kept.ensures.few c.args.self.now.turns

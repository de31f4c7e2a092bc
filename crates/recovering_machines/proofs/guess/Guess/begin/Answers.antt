use Rattle.recovering_machines.proofs.ReadingOn.{begins}
use Rattle.recovering_machines.proofs.guess.Guess.begin.Goals as goal

pub returns-clause-goes : goal.returns-clause-goes
returns-clause-goes c =
    let z = c.aligned_after-self in
    begins c.args.self.now.machine z.result c.args.half c.args.at c.args.byte z.ensures.reads z.ensures.mode
    z.ensures.list z.ensures.sound

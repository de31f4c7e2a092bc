use Rattle.frame_runs.proofs.Ends.{first_place, no_place}
use Rattle.frame_runs.proofs.pairs.RunEnds.next.Goals as goal

pub returns-then-self-eq0-clause-none : goal.returns-then-self-eq0-clause-none
returns-then-self-eq0-clause-none c = λ _. no_place c.args.self.now.bits c.if-self-eq0.true

pub returns-clause-some : goal.returns-clause-some
returns-clause-some c = first_place c.args.self.now.bits c.args.self.now.few c.if-self-eq0.false

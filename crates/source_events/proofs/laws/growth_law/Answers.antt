use Rattle.source_events.specs.Plan.{sources_by}
use Rattle.source_events.proofs.Captures.{stays_same, grows}
use Rattle.source_events.proofs.Lawful.{plan_lawful}
use Rattle.source_events.proofs.laws.growth_law.Goals as goal

pub returns-clause-stays : goal.returns-clause-stays
returns-clause-stays c = λ plan xs ys h. stays_same (sources_by plan) (plan_lawful plan) plan.frames xs ys h

pub returns-clause-grows : goal.returns-clause-grows
returns-clause-grows c = λ plan xs ys. grows (sources_by plan) (plan_lawful plan) plan.frames xs ys

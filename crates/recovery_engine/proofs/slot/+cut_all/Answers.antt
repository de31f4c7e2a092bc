use Rattle.recovery_engine.proofs.Owning.{cut_first}
use Rattle.recovery_engine.proofs.slot.+cut_all.Goals as goal

pub returns-clause-cut : goal.returns-clause-cut
returns-clause-cut t c =
    cut_first c.in-Some.slot.now c.in-Some.rest.now c.args.slots.now c.cut_all.new.slots c.cut.new.self
    c.in-Some.ensures.cases.0 c.cut.ensures.cut c.cut_all.ensures.cut

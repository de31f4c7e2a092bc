use Rattle.std.proofs.Common.{◌∙◌, sym}
use Rattle.source_merge.specs.Answering.{fault_of}
use Rattle.source_merge.specs.Engine.{plan_of}
use Rattle.recovery_laws.proofs.Ends.{ends}
use Rattle.source_merge.proofs.Taking.{none_of}
use Rattle.source_merge.proofs.engine.Engine.finish.Goals as goal

pub returns : goal.returns
returns c = λ u h.
    let self = c.args.self.now in
    let plan = plan_of self in
    let none = none_of (fault_of plan u) (sym h.live ∙ c.requires) in
    c.finish.ensures u (h.going c.requires) ∙ (ends plan self.sound 0 _ u h.rising none).tails

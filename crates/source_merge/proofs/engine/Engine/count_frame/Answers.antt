use Rattle.std.proofs.Common.{◌∙◌, ap, refl, sym}
use Rattle.source_events.specs.declared.plan.Plan.{Plan}
use Rattle.source_merge.specs.Counting.{maps_none}
use Rattle.source_merge.proofs.Counted.{counted}
use Rattle.source_merge.proofs.engine.Engine.count_frame.Goals as goal

pub returns-clause-list : goal.returns-clause-list
returns-clause-list c =
    counted c.args.at c.args.piece.now c.in_ok-bytes.bytes c.args.self.now _ c.requires.live c.requires.offsets.0
    (ap (λ (p : Plan). maps_none p) (sym c.plan.ensures) ∙ sym c.maps_none.ensures
    ∙ c.if-not-maps_none.false)
    c.in_ok-bytes.ensures.counts refl refl c.requires.live

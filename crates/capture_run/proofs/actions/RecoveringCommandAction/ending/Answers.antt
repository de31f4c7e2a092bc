use Rattle.std.proofs.Common.{ap, sym, ◌∙◌}
use Rattle.recovery_listing.specs.Listing.{is_faulty}
use Rattle.source_events.specs.declared.plan.Plan.{Plan}
use Rattle.capture_run.specs.declared.actions.Ending.{Ending}
use Rattle.capture_run.proofs.actions.RecoveringCommandAction.ending.Goals as goal

pub returns-clause-late : goal.returns-clause-late
returns-clause-late g c = λ seen stands.
    ap (λ (e : Ending). e.is_late) c.of_recovery.ensures ∙ c.is_faulty.ensures seen stands
    ∙ ap (λ (p : Plan). is_faulty p seen) (sym (g.met.A.Account.captured _ _))

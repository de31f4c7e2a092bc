use Rattle.std.proofs.Common.{◌∙◌, length}
use Rattle.trace_values.specs.Placed.{placed}
use Rattle.source_events.proofs.Captures.{capture_rises}
use Rattle.recovery_report.specs.Report.{report}
use Rattle.recovery_laws.proofs.Guessed.{no_guess}
use Rattle.capture_actions.proofs.Kinded.{sum_of_kinds}
use Rattle.recovering_machines.specs.Hearing.{seen_in}
use Rattle.recovery_listing.proofs.Seen.{seen_items}
use Rattle.recovery_listing.proofs.kind_laws.sum_law.Goals as goal

pub returns : goal.returns
returns c = λ plan bytes source.
    let es = report plan (placed bytes) in
    sum_of_kinds source (seen_in es)
    ∙ seen_items source es (no_guess plan 0 (length bytes) (placed bytes) (capture_rises bytes))

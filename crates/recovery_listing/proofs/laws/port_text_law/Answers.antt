use Rattle.trace_values.specs.Placed.{placed}
use Rattle.recovery_report.specs.Report.{report_with}
use Rattle.capture_actions.specs.PortText.{source_of}
use Rattle.capture_actions.proofs.Values.{values_chosen}
use Rattle.recovering_machines.specs.Hearing.{seen_in}
use Rattle.recovery_listing.proofs.laws.port_text_law.Goals as goal

pub returns : goal.returns
returns c = λ p bytes.
    values_chosen p.plan.port (source_of p.plan.plan) (seen_in (report_with p.guesses p.plan.plan (placed bytes)))

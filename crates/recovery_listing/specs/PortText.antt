-- What `text` writes and notes of a recovering report: the values that software wrote to one stimulus port of an ITM
-- source, those of guesses too where they are said, and the lines of faults.
use Rattle.std.specs.Prelude.{ℕ, List, [], false}
use Rattle.trace_values.specs.Placed.{placed}
use Rattle.recovery_report.specs.Report.{report_with}
use Rattle.trace_stream.specs.Served.{Meaning}
use Rattle.capture_actions.specs.PortText.{source_of, values_in}
use Rattle.capture_actions.specs.declared.port_text_plan.PortTextPlan.{PortTextPlan}
use Rattle.recovery_listing.specs.FaultLines.{noted_faults}
use Rattle.recovering_machines.specs.Hearing.{seen_in}
use Rattle.recovery_listing.specs.declared.going_on.GoingOn.{GoingOn}

-- the values in the report of a capture, and what is noted of it
abbrev pub port_text : GoingOn PortTextPlan → List ℕ → List ℕ
port_text p bytes =
    values_in (source_of p.plan.plan) p.plan.port (seen_in (report_with p.guesses p.plan.plan (placed bytes)))

abbrev pub noted_text : GoingOn PortTextPlan → List ℕ → List ℕ
noted_text p bytes = noted_faults p.plan.plan bytes

-- all that `text` writes of the bytes of a capture: no fault ends it, and nothing comes after the values
abbrev pub port_text_meaning : GoingOn PortTextPlan → Meaning
port_text_meaning p = record { faulty = λ bytes. ⊥; text = port_text p; ending = λ bytes. []; due = false }

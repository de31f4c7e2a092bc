-- What `check` writes of a recovering report: how many faults it has, the counts, and the end lines.
use Rattle.std.specs.Prelude.{ℕ, List, [], ◌++◌, false}
use Rattle.trace_values.specs.Placed.{placed}
use Rattle.source_events.specs.declared.plan.Plan.{Plan}
use Rattle.recovery_report.specs.Counts.{faults_of, port_counts_of, source_counts_of}
use Rattle.recovery_report.specs.Report.{tails_of}
use Rattle.trace_stream.specs.Served.{Meaning}
use Rattle.trace_text.specs.CountText.{faults_line}
use Rattle.capture_actions.specs.Summary.{counts_by}

-- the summary
abbrev pub summary : Plan → List ℕ → List ℕ
summary plan bytes =
    let u = placed bytes in
    faults_line (faults_of plan u)
    ++ counts_by (port_counts_of plan u) (source_counts_of plan u) (tails_of plan u)

-- no fault ends it, and nothing is written before the end
abbrev pub at_end : (List ℕ → List ℕ) → Meaning
at_end ending = record { faulty = λ bytes. ⊥; text = λ bytes. []; ending = ending; due = false }

-- all that `check` makes of the bytes of a capture
abbrev pub check_meaning : Plan → Meaning
check_meaning plan = at_end (summary plan)

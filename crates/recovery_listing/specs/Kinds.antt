-- What `check` with the kinds of items writes of a recovering report: after the line of a mapped source one for each
-- word with which its items begin.
use Rattle.std.specs.Prelude.{ℕ, List, ◌++◌}
use Rattle.trace_values.specs.Placed.{placed}
use Rattle.source_events.specs.declared.plan.Plan.{Plan}
use Rattle.recovery_report.specs.Counts.{faults_of, port_counts_of, source_counts_of}
use Rattle.recovery_report.specs.Report.{report, tails_of}
use Rattle.trace_stream.specs.Served.{Meaning}
use Rattle.trace_text.specs.CountText.{faults_line, port_counts_text}
use Rattle.trace_text.specs.EndText.{tails_text}
use Rattle.capture_actions.specs.Kinds.{all_lines}
use Rattle.recovering_machines.specs.Hearing.{seen_in}
use Rattle.recovery_listing.specs.Summary.{at_end}

-- the summary: how many faults there are, the counts of the port and of all sources with the kinds of the items that
-- were read, and the end lines
abbrev pub kinds_summary : Plan → List ℕ → List ℕ
kinds_summary plan bytes =
    let u = placed bytes in
    let port = port_counts_of plan u in
    (faults_line (faults_of plan u) ++ port_counts_text port.fulls port.halves port.frames)
    ++ (all_lines plan (source_counts_of plan u) (seen_in (report plan u)) ++ tails_text (tails_of plan u))

-- all that `check` with kinds makes of the bytes of a capture
abbrev pub kinds_meaning_on : Plan → Meaning
kinds_meaning_on plan = at_end (kinds_summary plan)

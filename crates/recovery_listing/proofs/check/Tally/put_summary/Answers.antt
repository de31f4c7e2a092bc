use Rattle.std.proofs.Common.{ℕ, List, ◌++◌, ◌∙◌, ap, append_assoc}
use Rattle.trace_values.specs.Placed.{placed}
use Rattle.source_events.specs.declared.tails.Tails.{Tails}
use Rattle.trace_text.specs.CountText.{faults_line, port_counts_text}
use Rattle.trace_text.specs.EndText.{tails_text}
use Rattle.trace_values.specs.declared.limits.TheConstants.{ID_COUNT}
use Rattle.capture_actions.specs.Summary.{sources_text}
use Rattle.recovery_report.specs.Counts.{faults_of, port_counts_of, source_counts_of}
use Rattle.recovery_report.specs.Report.{tails_of}
use Rattle.recovery_listing.specs.Counting.{plan_of}
use Rattle.recovery_listing.proofs.check.Tally.put_summary.Goals as goal

pub returns : goal.returns
returns c = λ seen h.
    let plan = plan_of c.args.engine.now in
    let u = placed seen in
    let port = port_counts_of plan u in
    let out = c.args.outlet.now in
    let faults : List ℕ = faults_line (faults_of plan u) in
    let head : List ℕ = port_counts_text port.fulls port.halves port.frames in
    let sources : List ℕ = sources_text (source_counts_of plan u) ID_COUNT in
    let tails : List ℕ = tails_text (tails_of plan u) in
    c.print_tails.ensures.lines
    ∙ ap (λ (t : Tails). c.put_sources.new.outlet ++ tails_text t) (c.finish.ensures u h.read)
    ∙ ap (λ (l : List ℕ). l ++ tails)
    (c.put_sources.ensures.text seen h ∙ ap (λ (l : List ℕ). l ++ sources) (c.put_head.ensures.text seen h))
    ∙ append_assoc (out ++ (faults ++ head)) sources tails
    ∙ append_assoc out (faults ++ head) (sources ++ tails)
    ∙ ap (λ (l : List ℕ). out ++ l) (append_assoc faults head (sources ++ tails))

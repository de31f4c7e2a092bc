use Rattle.std.proofs.Common.{ℕ, List, ◌++◌, ◌∙◌, ap, append_assoc}
use Rattle.trace_values.specs.Placed.{placed}
use Rattle.source_events.specs.declared.tails.PortCounts.{PortCounts}
use Rattle.trace_text.specs.CountText.{faults_line, port_counts_text}
use Rattle.recovery_report.specs.Counts.{faults_of, port_counts_of}
use Rattle.recovery_report.specs.Report.{report}
use Rattle.recovery_listing.specs.Counting.{plan_of}
use Rattle.recovery_listing.proofs.counting.put_head.Goals as goal

pub returns-clause-text : goal.returns-clause-text
returns-clause-text c = λ seen h.
    let plan = plan_of c.args.engine.now in
    let u = placed seen in
    let port = port_counts_of plan u in
    let out = c.args.outlet.now in
    let head : List ℕ = port_counts_text port.fulls port.halves port.frames in
    c.put-2.ensures.text
    ∙ ap (λ (p : PortCounts). c.put.new.self ++ port_counts_text p.fulls p.halves p.frames)
    (c.port_counts-counts.ensures u h.read)
    ∙ ap (λ (l : List ℕ). l ++ head)
    (c.put.ensures.text ∙ ap (λ (n : ℕ). out ++ faults_line n) (c.faults-faults.ensures (report plan u) h.heard))
    ∙ append_assoc out (faults_line (faults_of plan u)) head

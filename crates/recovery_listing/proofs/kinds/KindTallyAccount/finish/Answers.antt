use Rattle.std.proofs.Common.{◌∙◌, ◌++◌, ℕ, List, ap, subst}
use Rattle.trace_values.specs.Placed.{placed}
use Rattle.source_events.specs.declared.event.Event.{Event}
use Rattle.source_events.specs.declared.packet.Packet.{Packet}
use Rattle.source_events.specs.declared.plan.Plan.{Plan}
use Rattle.source_events.specs.declared.tails.Tails.{Tails}
use Rattle.stretch_readings.specs.declared.heard.Heard.{Heard}
use Rattle.trace_text.specs.CountText.{faults_line, port_counts_text}
use Rattle.trace_text.specs.EndText.{tails_text}
use Rattle.capture_actions.specs.Kinds.{all_lines, lines_by}
use Rattle.capture_actions.specs.KindCounts.{HasCounted}
use Rattle.capture_actions.specs.KindLines.{counted_line}
use Rattle.capture_actions.proofs.Parts.{lines_are}
use Rattle.recovery_report.specs.Counts.{faults_of, port_counts_of, source_counts_of}
use Rattle.recovery_report.specs.Report.{report}
use Rattle.recovery_engine.specs.Heard.{HasHeard}
use Rattle.recovery_listing.specs.Account.{read_by}
use Rattle.recovery_listing.specs.Counting.{HasTallied, plan_of}
use Rattle.recovering_machines.specs.Hearing.{seen_in}
use Rattle.recovery_listing.specs.SureLaws.{events_sure}
use Rattle.recovery_listing.proofs.kinds.KindTallyAccount.finish.Goals as goal

pub returns-clause-ended : goal.returns-clause-ended
returns-clause-ended c = λ seen read s.
    let old = c.args.self.now in
    let engine = c.args.engine.now in
    let how = read_by engine in
    let plan = plan_of engine in
    let u = placed seen in
    let es = seen_in (report plan u) in
    let counts = c.all_counts-counts.result in
    let port = port_counts_of plan u in
    let head : List ℕ = faults_line (faults_of plan u) ++ port_counts_text port.fulls port.halves port.frames in
    let sure = events_sure how seen s.sure in
    let tallied : HasTallied engine old.counts.heard seen = record {
      read = read;
      heard = subst (λ (es : List (Event (Heard Packet))). HasHeard old.counts.heard es) sure s.heard;
    } in
    let kinds = subst (λ (es : List (Event (Heard Packet))). HasCounted old.counts.kinds (seen_in es)) sure s.kinds in
    let lines : List ℕ = lines_by (counted_line plan old.counts.kinds counts) 0 127 in
    c.of-self.ensures old.plan old.counts.kinds (tails_text c.finish.result) c.put_head.new.outlet
    ∙ ap (λ (p : Plan). c.put_head.new.outlet
    ++ (lines_by (counted_line p old.counts.kinds counts) 0 127 ++ tails_text c.finish.result)) s.plan
    ∙ ap (λ (l : List ℕ). l ++ (lines ++ tails_text c.finish.result))
    (c.put_head.ensures.text seen tallied ∙ ap (λ (l : List ℕ). l ++ head) c.requires.empty)
    ∙ ap (λ (l : List ℕ). head ++ (l ++ tails_text c.finish.result))
    (lines_are plan old.counts.kinds es kinds counts (source_counts_of plan u)
    (c.all_counts-counts.ensures seen tallied))
    ∙ ap (λ (t : Tails). head ++ (all_lines plan (source_counts_of plan u) es ++ tails_text t))
    (c.finish.ensures u read)

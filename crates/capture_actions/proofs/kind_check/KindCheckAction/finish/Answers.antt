use Rattle.std.proofs.Common.{◌∙◌, ◌++◌, ℕ, List, ap, sym}
use Rattle.capture_actions.specs.Names.{fault_of, placed, report_of, port_counts_of, port_counts_text}
use Rattle.capture_actions.specs.KindCheck.{plan_of, last_by}
use Rattle.capture_actions.specs.Kinds.{kinds_by}
use Rattle.capture_actions.proofs.Parts.{ended}
use Rattle.capture_actions.proofs.kind_check.KindCheckAction.finish.Goals as goal

pub returns-clause-ended : goal.returns-clause-ended
returns-clause-ended c = λ seen s.
    let old = c.args.self.now in
    let p = plan_of old in
    let u = placed seen in
    let es = report_of p u in
    let port = port_counts_of p u in
    c.of-self.ensures p old.kinds (last_by p old.reading.stop c.tails_here-self.result) c.put_port.new.outlet
    ∙ ended p old.kinds es s.kinds u c.all_counts-counts.result c.tails_here-self.result old.reading.stop c.put_port.new.outlet s.reading.stop
    (c.all_counts-counts.ensures u s.reading.engine) (c.tails_here-self.ensures u s.reading.engine)
    (c.put_port.ensures.text u s.reading.engine
    ∙ ap (λ (l : List ℕ). l ++ port_counts_text port.fulls port.halves port.frames) c.requires.empty)
    ∙ ap (λ (l : List ℕ). kinds_by p (placed l) es (fault_of p u)) (sym s.read)

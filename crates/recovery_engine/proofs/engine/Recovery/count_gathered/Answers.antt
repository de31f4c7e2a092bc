use Rattle.std.proofs.Common.{◌≡◌, ◌∙◌, List, [], ap, arith, map, subst, sym}
use Rattle.frame_grammar.specs.Frame.{cells}
use Rattle.frame_runs.specs.Gathered.{frame_places}
use Rattle.source_events.specs.Runs.{runs_of}
use Rattle.recovering_machines.specs.Port.{id_of}
use Rattle.recovery_report.specs.Report.{Run}
use Rattle.recovery_engine.specs.Taking.{Takes}
use Rattle.recovery_engine.specs.declared.slot.RecoveringSlot.{RecoveringSlot}
use Rattle.recovery_engine.proofs.Gathering.{all_unread, fronted, unread}
use Rattle.recovery_engine.proofs.engine.Recovery.count_gathered.Goals as goal

pub returns : goal.returns
returns c =
    let self = c.args.self.now in
    let new = c.pass_gathered.new.self in
    let p = c.pass_gathered.ensures in
    let frame = c.args.frame.now in
    let none : self.slots.items ≡ [] = c.requires.none in
    let runs = runs_of (cells frame.bytes (frame_places frame) (id_of self.port)) in
    let seen = c.requires in
    fronted unread (λ s. 0) frame c.args.at c.size.result c.args._piece.now self new seen.here c.size.ensures seen.within
    seen.is p.plan p.guesses p.next p.adds p.late
    (subst (λ (l : List RecoveringSlot). Takes unread (map Run runs) (l, tt) (new.slots.items, tt)) (sym none)
    (subst (λ (l : List RecoveringSlot). Takes unread (map Run runs) ([], tt) (l, tt))
    (sym (ap (λ s. s.items) p.slots ∙ none)) (all_unread runs))) (omega arith)

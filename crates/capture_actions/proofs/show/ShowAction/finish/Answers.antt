use Rattle.std.proofs.Common.{◌∙◌, ◌++◌, ℕ, Bool, List, ap, sym}
use Rattle.std.specs.Prelude.{option_map}
use Rattle.capture_actions.specs.Names.{Plan, fault_line, placed, stop_of, tails_text}
use Rattle.capture_actions.specs.CaptureReading.{plan_of}
use Rattle.capture_actions.specs.Faulty.{is_stp}
use Rattle.capture_actions.specs.Listing.{ending_by}
use Rattle.capture_actions.proofs.show.ShowAction.finish.Goals as goal

pub returns-in-None-clause-ended : goal.returns-in-None-clause-ended
returns-in-None-clause-ended c = λ seen s.
    let u = placed seen in
    c.print_tails.ensures.lines ∙ ap (λ (l : List ℕ). l ++ tails_text c.finish.result) c.requires.empty
    ∙ ap tails_text (c.finish.ensures u s.reading.engine)
    ∙ ap (ending_by (plan_of c.args.self.now.reading) u) (ap (option_map stop_of) (sym c.in-None.is) ∙ s.reading.stop)

pub returns-in-Some-clause-ended : goal.returns-in-Some-clause-ended
returns-in-Some-clause-ended c = λ seen s.
    let stop = c.in-Some.stop in
    let line : Bool → List ℕ = λ stp. fault_line stp (stop_of stop) in
    c.print_fault.ensures.line ∙ ap (λ (l : List ℕ). l ++ line c.sends_stp.result) c.requires.empty
    ∙ ap line (c.sends_stp.ensures ∙ ap (λ (p : Plan). is_stp p stop.source) c.plan.ensures)
    ∙ ap (ending_by (plan_of c.args.self.now.reading) (placed seen))
    (ap (option_map stop_of) (sym c.in-Some.is) ∙ s.reading.stop)

use Rattle.std.proofs.Common.{sym, ◌∙◌, subst}
use Rattle.trace_values.specs.Placed.{placed_from}
use Rattle.stretch_readings.specs.Stretches.{Stretches}
use Rattle.recovering_machines.specs.Port.{Keeps, id_of}
use Rattle.recovering_machines.proofs.Feeding.{frame_passed}
use Rattle.recovering_machines.proofs.port.RecoveringPort.pass_frame.Goals as goal

pub returns-clause-passes : goal.returns-clause-passes
returns-clause-passes c = λ r f halves at bytes k q.
    let p = c.args.self.now in
    let t = c.pass_frame.ensures in
    frame_passed p r k f halves at bytes (id_of p) (t.fed r.now.units f halves at bytes k.stands q)
    (t.grows r.now.units (placed_from at bytes) f halves k.stands q)

pub returns-clause-list : goal.returns-clause-list
returns-clause-list c = λ r f halves at bytes k q after.
    let p = c.args.self.now in
    let t = c.pass_frame.ensures in
    let u = r.now.units in
    let w = placed_from at bytes in
    let passed = frame_passed p r k f halves at bytes (id_of p) (t.fed u f halves at bytes k.stands q)
    (t.grows u w f halves k.stands q) in
    subst (λ (s : Stretches). Keeps c.pass_frame.new.self p.past p.count s) (sym passed.list) (record {
      stands = t.list u w f halves k.stands q after;
      mode = t.same ∙ k.mode;
      past_is = k.past_is;
      count_is = k.count_is;
    })

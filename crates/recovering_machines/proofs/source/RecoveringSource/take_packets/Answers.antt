use Rattle.std.proofs.Common.{arith}
use Rattle.recovering_machines.specs.Found.{heard_in}
use Rattle.recovering_machines.specs.Run.{between}
use Rattle.recovering_machines.specs.declared.source.RecoveringSource.{RecoveringSource}
use Rattle.std.proofs.Common.{refl}
use Rattle.recovering_machines.proofs.OnceTaken as once
use Rattle.recovering_machines.proofs.Runs.{between_all}
use Rattle.recovering_machines.proofs.source.RecoveringSource.take_packets.Goals as goal

pub returns-clause-takes : goal.returns-clause-takes
returns-clause-takes g c =
    let t = c.take_found.ensures.took in
    let cells = g.R.Run.cells c.args.run.now in
    let part = between c.args.from c.take_found.result cells in
    let old = c.args.self.now in
    let new : RecoveringSource =
    record {
      machine = c.take_found.new.machine;
      past = old.past;
      count = old.count;
      hunts = old.hunts;
      live = c.take_found.ensures.live;
    } in
    let size = between_all c.args.from c.take_found.result cells t.order t.within in
    record {
      kind = t.alike.kind;
      reads = t.alike.any;
      list = λ r k. once.list_after c.args.self.now _ refl refl refl t.alike part t.packets t.passes r k;
      said = heard_in t.packets;
      received = t.received;
      given = λ r k. once.given_after_all old new refl refl refl t.alike part t.packets t.passes r k;
      space = (let a = t.space in let b = t.order in omega (arith, a, b, size));
      few = (let a = t.few in let b = t.order in omega (arith, a, b, size));
    }

pub returns-clause-goes : goal.returns-clause-goes
returns-clause-goes g c =
    let t = c.take_found.ensures.took in
    let part = between c.args.from c.take_found.result (g.R.Run.cells c.args.run.now) in
    let old = c.args.self.now in
    let new : RecoveringSource = record {
      machine = c.take_found.new.machine;
      past = old.past;
      count = old.count;
      hunts = old.hunts;
      live = c.take_found.ensures.live;
    } in
    λ r k. once.goes_on old new refl refl refl t.alike part t.packets t.passes r k

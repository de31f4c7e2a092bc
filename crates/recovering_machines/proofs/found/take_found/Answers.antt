use Rattle.std.proofs.Common.{subst, sym}
use Rattle.source_machine.specs.declared.machine.SourceMachine.{SourceMachine}
use Rattle.source_machine.specs.declared.machine.SourceMachine.TheVariants.{Itm, Stp}
use Rattle.recovering_machines.specs.Found.{source_machines}
use Rattle.recovering_machines.specs.Found.{TookPackets}
use Rattle.recovering_machines.proofs.found.take_found.Goals as goal

pub returns-in-Itm-clause-took : goal.returns-in-Itm-clause-took
returns-in-Itm-clause-took g c =
    let call = c.take_packets in
    let t = call.ensures in
    subst (λ (m : SourceMachine). TookPackets source_machines (λ (x : SourceMachine). x) g.V.Receiver.gets g.V.Receiver.room
    c.args.id (g.R.Run.cells c.args.run.now) c.args.from call.result m (Itm call.new.machine)
    (c.args.out.now, c.args.to.now) (call.new.out, call.new.to)) (sym c.in-Itm.is) (record {
      order = t.order;
      within = t.within;
      same = t.same;
      alike = t.alike;
      live = t.live;
      few = t.few;
      space = t.space;
      packets = t.packets;
      received = t.received;
      passes = t.passes;
    })

pub returns-in-Stp-clause-took : goal.returns-in-Stp-clause-took
returns-in-Stp-clause-took g c =
    let call = c.take_packets-in-Stp in
    let t = call.ensures in
    subst (λ (m : SourceMachine). TookPackets source_machines (λ (x : SourceMachine). x) g.V.Receiver.gets g.V.Receiver.room
    c.args.id (g.R.Run.cells c.args.run.now) c.args.from call.result m (Stp call.new.machine)
    (c.args.out.now, c.args.to.now) (call.new.out, call.new.to)) (sym c.in-Stp.is) (record {
      order = t.order;
      within = t.within;
      same = t.same;
      alike = t.alike;
      live = t.live;
      few = t.few;
      space = t.space;
      packets = t.packets;
      received = t.received;
      passes = t.passes;
    })

use Rattle.std.proofs.Common.{ℕ, ◌+◌, ◌-◌, ◌<◌, ◌≤◌, [], length, subst, arith, refl, None}
use Rattle.source_events.specs.declared.packet.Packet.{Packet}
use Rattle.source_events.specs.declared.plan.SourceKind.{SourceKind}
use Rattle.source_machine.specs.Finding.{told_in}
use Rattle.recovering_machines.specs.Found.{MachineKind}
use Rattle.recovering_machines.proofs.RunParts.{last_is, last_of}
use Rattle.recovering_machines.specs.Found.{TookPackets, ended, packet_of}
use Rattle.recovering_machines.proofs.FoundPackets as found
use Rattle.recovering_machines.proofs.found.take_packets.Given as bound
use Rattle.recovering_machines.proofs.found.take_packets.Goals as goal

-- the kind of its machine
abbrev kind : (g : bound.Over) → MachineKind g.row.M.Denot Packet
kind g = record {
  reading = g.M.Finds.reads;
  stands = g.M.Machine.stands;
  live = g.M.Machine.live;
  held = g.M.Machine.held_units;
  skipped = g.M.Machine.skipped_units;
}

pub loop-done-init : goal.loop-done-init
loop-done-init g c = record {
  took =
      found.begun (kind g) g.M.Finds.source g.V.Receiver.gets g.V.Receiver.room g.met.V.Receiver.adds_up.none
      g.met.V.Receiver.adds_up.more c.args.id (g.R.Run.cells c.args.run.now) c.args.from c.args.machine.now
      (c.args.out.now, c.args.to.now) (λ m u s. (g.met.M.Finds.reads_shows m u s).live_is) c.requires.live
      c.requires.from;
  taking = λ t.
      subst (λ (k : SourceKind). g.V.Receiver.takes c.args.out.now c.args.id k) c.kind.ensures (c.takes_told-takes_told.ensures.0 t);
}

pub loop-done-preserved-in-Ends : goal.loop-done-preserved-in-Ends
loop-done-preserved-in-Ends g c = record {
  took =
      let run = g.R.Run.cells c.args.run.now in
      let done = c.loop-done.done in
      let taken = c.end-taken.result in
      let end = c.end-taken.ensures in
      let few = c.look.ensures.ends c.in-Ends.parts c.in-Ends.is in
      let last = c.cell.result in
      let within : done + taken.bytes ≤ length run =
      (let a = end.bytes.1 in let b = few.1 in let h = c.loop-done-test.true in let e = c.len-in-loop-done.ensures in
      let f = c.len.ensures in omega (arith, a, b, h, e, f)) in
      found.more (kind g) g.M.Finds.source g.V.Receiver.gets g.V.Receiver.room g.met.V.Receiver.adds_up.none
      g.met.V.Receiver.adds_up.more c.args.id run c.args.from c.args.machine.now (c.args.out.now, c.args.to.now)
      done taken.bytes c.look.new.machine c.end-taken.new.self (c.loop-done.out, c.loop-done.to)
      (c.give_found.new.out, c.give_found.new.to) last (told_in taken.half taken.item)
      (ended taken.half last.at (packet_of taken.item)) c.ahead-ahead.result.now
      (found.stayed (kind g) g.M.Finds.source g.V.Receiver.gets g.V.Receiver.room g.met.V.Receiver.adds_up.none
      g.met.V.Receiver.adds_up.more c.args.id run c.args.from c.args.machine.now (c.args.out.now, c.args.to.now)
      done c.loop-done.machine c.look.new.machine (c.loop-done.out, c.loop-done.to) c.look.ensures.same.0
      c.look.ensures.same.1 c.look.ensures.live
      (c.look.ensures.idles (λ w. (let z = c.in-Ends.is in let q = w in cc))) c.loop-done.invariant.took)
      end.bytes.0 within c.cell.ensures c.ahead-ahead.ensures.bytes
      (let k = c.ahead-ahead.ensures.room in omega (arith, k)) end.same end.alike end.live end.few end.passes
      (found.told_kept taken.half last.at taken.item) c.give_found.ensures.received
      (let a = c.give_found.ensures.room in let b = end.bytes.0 in omega (arith, a, b));
  taking = λ t. g.met.V.Receiver.takes_on _ _ _ _ _ c.give_found.ensures.received (c.loop-done.invariant.taking t);
}

pub loop-done-preserved : goal.loop-done-preserved
loop-done-preserved g c = record {
  took =
      let i = c.loop-done.invariant.took in
      let run = g.R.Run.cells c.args.run.now in
      let done = c.loop-done.done in
      let count = c.len-in-loop-done.result - done in
      let length_is = c.len-in-loop-done.ensures in
      let h = c.loop-done-test.true in
      let first_length = c.len.ensures in
      let inside = i.within in
      let some : 0 < count = omega (arith, h, length_is, first_length) in
      let within : done + count ≤ length run = omega (arith, length_is, inside) in
      subst (λ (n : ℕ). TookPackets (kind g) g.M.Finds.source g.V.Receiver.gets g.V.Receiver.room c.args.id run c.args.from n
      c.args.machine.now c.look.new.machine (c.args.out.now, c.args.to.now) (c.loop-done.out, c.loop-done.to))
      (let e = c.len-done.ensures in omega (arith, e, length_is, inside))
      (found.more (kind g) g.M.Finds.source g.V.Receiver.gets g.V.Receiver.room g.met.V.Receiver.adds_up.none
      g.met.V.Receiver.adds_up.more c.args.id run c.args.from c.args.machine.now (c.args.out.now, c.args.to.now)
      done count c.loop-done.machine c.look.new.machine (c.loop-done.out, c.loop-done.to)
      (c.loop-done.out, c.loop-done.to) (last_of run done count) None [] c.ahead-ahead.result.now
      i some within (last_is run done count some within) c.ahead-ahead.ensures.bytes
      (let k = c.ahead-ahead.ensures.room in omega (arith, k)) c.look.ensures.same.0 c.look.ensures.same.1
      c.look.ensures.live (c.look.ensures.few c.in-Waits.is) (c.look.ensures.waits c.in-Waits.is) refl
      (g.met.V.Receiver.adds_up.none (c.loop-done.out, c.loop-done.to)) (omega arith));
  taking = c.loop-done.invariant.taking;
}

pub returns-in-Unknown : goal.returns-in-Unknown
returns-in-Unknown g c =
    found.stayed (kind g) g.M.Finds.source g.V.Receiver.gets g.V.Receiver.room g.met.V.Receiver.adds_up.none
    g.met.V.Receiver.adds_up.more c.args.id (g.R.Run.cells c.args.run.now) c.args.from c.args.machine.now
    (c.args.out.now, c.args.to.now) c.loop-done.done c.loop-done.machine c.look.new.machine
    (c.loop-done.out, c.loop-done.to) c.look.ensures.same.0
    c.look.ensures.same.1 c.look.ensures.live
    (c.look.ensures.idles (λ w. (let z = c.in-Unknown.is in let q = w in cc))) c.loop-done.invariant.took

use Rattle.std.proofs.Common.{◌≡◌, true, length, ◌-◌}
use Rattle.recovering_machines.specs.Found.{TookPackets}
use Rattle.recovering_machines.proofs.found.take_packets.Given as goal

-- the packets so far are taken and given; packets may be given as what they say where that was said
abbrev pub invariant-loop-done : goal.invariant-loop-done
invariant-loop-done g l = record {
  took :
      TookPackets (record {
        reading = g.M.Finds.reads;
        stands = g.M.Machine.stands;
        live = g.M.Machine.live;
        held = g.M.Machine.held_units;
        skipped = g.M.Machine.skipped_units;
      }) g.M.Finds.source g.V.Receiver.gets g.V.Receiver.room l.id (g.R.Run.cells l.run) l.from l.done
      l.fn.machine l.machine (l.fn.out, l.fn.to) (l.out, l.to);
  taking : l.takes_told ≡ true → g.V.Receiver.takes l.out l.id g.M.Finds.kind;
}

abbrev pub decreases-loop-done : goal.decreases-loop-done
decreases-loop-done g l = length (g.R.Run.cells l.run) - l.done

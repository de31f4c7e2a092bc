use Rattle.std.proofs.Common.{◌-◌, ◌≤◌, length}
use Rattle.recovering_machines.specs.Mapped.{TakesMapped}
use Rattle.recovering_machines.specs.Run.{between}
use Rattle.recovering_machines.proofs.mapped.MappedSource.take_run.Given as goal

-- the cells so far are taken
abbrev pub invariant-loop-done : goal.invariant-loop-done
invariant-loop-done g l = record {
  few : l.done ≤ length (g.R.Run.cells l.run);
  takes : TakesMapped g.V.Receiver.gets g.V.Receiver.room l.id (between 0 l.done (g.R.Run.cells l.run)) l.fn.self l.self
      (l.fn.out, l.fn.to) (l.out, l.to);
}

abbrev pub decreases-loop-done : goal.decreases-loop-done
decreases-loop-done g l = length (g.R.Run.cells l.run) - l.done

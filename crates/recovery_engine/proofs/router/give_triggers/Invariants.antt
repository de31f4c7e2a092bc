use Rattle.std.proofs.Common.{◌+◌, ◌≤◌, take, Some}
use Rattle.source_events.specs.Merge.{told}
use Rattle.source_events.specs.Report.{triggers}
use Rattle.recovery_engine.proofs.router.give_triggers.Given as goal

-- the bytes so far are given
abbrev pub invariant-loop-index : goal.invariant-loop-index
invariant-loop-index g l = record {
  given : g.V.Receiver.gets (l.fn.out, l.fn.to) (told (Some l.id) (triggers (take l.index (g.R.Run.cells l.run))))
      (l.out, l.to);
  space : g.V.Receiver.room (l.fn.out, l.fn.to) ≤ g.V.Receiver.room (l.out, l.to) + l.index;
}

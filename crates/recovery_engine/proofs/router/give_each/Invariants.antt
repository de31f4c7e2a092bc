use Rattle.std.proofs.Common.{◌+◌, ◌*◌, ◌≤◌, take}
use Rattle.recovery_engine.specs.Bare.{raw_each}
use Rattle.recovery_engine.proofs.router.give_each.Given as goal

-- the cells so far are given
abbrev pub invariant-loop-index : goal.invariant-loop-index
invariant-loop-index g l = record {
  given : g.V.Receiver.gets (l.fn.out, l.fn.to) (raw_each l.id (take l.index (g.R.Run.cells l.run))) (l.out, l.to);
  space : g.V.Receiver.room (l.fn.out, l.fn.to) ≤ g.V.Receiver.room (l.out, l.to) + 2 * l.index;
}

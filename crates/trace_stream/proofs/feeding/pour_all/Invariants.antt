use Rattle.std.proofs.Common.{◌≡◌, ◌≤◌, List, ℕ}
use Rattle.trace_io.specs.Bytes.{TakesFront}
use Rattle.trace_stream.specs.Debt.{with_debt, calls_of}
use Rattle.trace_stream.proofs.feeding.pour_all.Given as goal

abbrev pub invariant-loop-action : goal.invariant-loop-action
invariant-loop-action g l = record {
  same : g.A.Action.plan l.action ≡ g.A.Action.plan l.initial.action;
  count : g.A.Action.taken l.action ≡ g.A.Action.taken l.initial.action;
  live : g.A.Action.live l.initial.action → g.A.Action.live l.action;
  stands : (seen : List ℕ) → g.A.Action.stands l.initial.action seen → g.A.Action.stands l.action seen;
  put : let before = with_debt l.initial.outlet (g.A.Action.debt l.initial.action) in
      let now = with_debt l.outlet (g.A.Action.debt l.action) in
      TakesFront (g.O.Sink.held l.initial.output) (g.O.Sink.held l.output) before now;
  later : g.O.Sink.faults l.initial.output ≤ g.O.Sink.faults l.output;
}

abbrev pub decreases-loop-action : goal.decreases-loop-action
decreases-loop-action g l = calls_of (g.A.Action.debt l.action)

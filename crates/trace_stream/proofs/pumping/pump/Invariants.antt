use Rattle.std.proofs.Common.{◌≡◌, ◌+◌, ◌-◌, ◌≤◌, []}
use Rattle.trace_stream.proofs.Inputs.{IsPumping}
use Rattle.trace_stream.specs.BuffersState.{BuffersState}
use Rattle.trace_stream.specs.Debt.{Paid}
use Rattle.trace_stream.specs.Served.{Ends}
use Rattle.trace_stream.specs.Told.{HasTold, told}
use Rattle.trace_stream.proofs.pumping.pump.Given as goal

abbrev pub invariant-loop-got : goal.invariant-loop-got
invariant-loop-got g l = record {
  same : g.A.Action.plan l.action ≡ g.A.Action.plan l.initial.action;
  live : g.A.Action.live l.action;
  taken : g.A.Action.taken l.action ≡ l.count;
  nothing_owed : g.A.Action.debt l.action ≡ Paid;
  empty : l.outlet ≡ [];
  silent : l.lines ≡ [];
  pumping : let before : Ends = record { left = g.I.Source.left l.initial.input; held = g.O.Sink.held l.initial.output } in
      let now : Ends = record { left = g.I.Source.left l.input; held = g.O.Sink.held l.output } in
      let buffers : BuffersState = record { pending = l.outlet; recent = l.recent } in
      let plan = g.A.Action.plan l.initial.action in
      let first = told (g.N.Sink.held l.initial.notes) (g.N.Sink.faults l.initial.notes) in
      let last = told (g.N.Sink.held l.notes) (g.N.Sink.faults l.notes) in
      IsPumping (HasTold (g.A.Action.stands l.action) (g.A.Action.noted plan) first last) (g.A.Action.meaning plan) before now
      buffers l.count;
  within : l.count ≤ l.limit;
  no_empty_read : g.I.Source.empty_reads l.input ≡ g.I.Source.empty_reads l.initial.input;
  read_later : g.I.Source.faults l.initial.input ≤ g.I.Source.faults l.input;
  write_later : g.O.Sink.faults l.initial.output ≤ g.O.Sink.faults l.output;
}

abbrev pub decreases-loop-got : goal.decreases-loop-got
decreases-loop-got g l = l.limit + 1 - l.count

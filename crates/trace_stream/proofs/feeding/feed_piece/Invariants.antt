use Rattle.std.proofs.Common.{◌≡◌, ◌+◌, ◌≤◌, List, [], ℕ, length, false}
use Rattle.std.specs.declared.option.Option.{Option}
use Rattle.trace_stream.specs.Debt.{Paid}
use Rattle.trace_stream.specs.Fed.{Writing, StandsAfter}
use Rattle.trace_stream.proofs.Pieces.{IsFeeding}
use Rattle.trace_stream.specs.Told.{HasTold, Noted, told}
use Rattle.trace_stream.specs.declared.action.TheConstants.{ACTION_ROOM}
use Rattle.trace_stream.specs.declared.outlet.TheConstants.{OUTLET_ROOM}
use Rattle.trace_stream.proofs.feeding.feed_piece.Given as goal

abbrev pub invariant-loop-rest : goal.invariant-loop-rest
invariant-loop-rest g l = record {
  same : g.A.Action.plan l.action ≡ g.A.Action.plan l.fn.action;
  live : g.A.Action.live l.action;
  silent : l.lines ≡ [];
  nothing_owed : g.A.Action.debt l.action ≡ Paid;
  room : length l.outlet + ACTION_ROOM ≤ OUTLET_ROOM;
  count : g.A.Action.taken l.action + length l.rest ≡ g.A.Action.taken l.fn.action + length l.piece;
  within : length l.rest ≤ length l.piece;
  feeding : (start : Option (List ℕ)) (first : Noted) (seen : List ℕ) (p : _) → g.A.Action.plan l.fn.action ≡ p →
      let noted = g.A.Action.noted p in
      let was_told = told (g.N.Sink.held l.fn.notes) (g.N.Sink.faults l.fn.notes) in
      let is_told = told (g.N.Sink.held l.notes) (g.N.Sink.faults l.notes) in
      let before : Writing = record { start = start; held = g.O.Sink.held l.fn.output; pending = l.fn.outlet } in
      let now : Writing = record { start = start; held = g.O.Sink.held l.output; pending = l.outlet } in
      StandsAfter (HasTold (g.A.Action.stands l.fn.action) noted first was_told) (g.A.Action.meaning p) before false seen →
      IsFeeding (HasTold (g.A.Action.stands l.action) noted first is_told) (g.A.Action.meaning p) now seen l.piece l.rest;
  later : g.O.Sink.faults l.fn.output ≤ g.O.Sink.faults l.output;
}

abbrev pub decreases-loop-rest : goal.decreases-loop-rest
decreases-loop-rest g l = length l.rest

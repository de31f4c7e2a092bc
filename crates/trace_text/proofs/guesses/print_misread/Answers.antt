use Rattle.std.proofs.Common.{◌+◌, ◌≤◌, arith, length}
use Rattle.source_events.specs.Report.{stop_of}
use Rattle.trace_text.specs.FaultText.{fault_line}
use Rattle.trace_text.proofs.LongestLines.{fault, fault_some, longer_doubted}
use Rattle.trace_text.proofs.guesses.print_misread.Goals as goal

pub put-requires-clause-fits : goal.put-requires-clause-fits
put-requires-clause-fits c =
    let f = stop_of c.args.stop.now in
    let most = fault c.args.stp f c.short_stop.ensures in
    let room : length (fault_line c.args.stp f) + 2 ≤ 94 = omega (arith, most) in
    (tt, (fault_some c.args.stp f, room))

pub returns-clause-bound : goal.returns-clause-bound
returns-clause-bound c =
    let f = stop_of c.args.stop.now in
    longer_doubted c.args.outlet.now c.put.new.self (fault_line c.args.stp f) c.put.ensures.text
    (fault c.args.stp f c.short_stop.ensures)

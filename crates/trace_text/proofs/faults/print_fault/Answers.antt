use Rattle.source_events.specs.Report.{stop_of}
use Rattle.trace_text.specs.FaultText.{fault_line}
use Rattle.trace_text.proofs.LongestLines.{fault, longer_event}
use Rattle.trace_text.proofs.faults.print_fault.Goals as goal

pub returns-clause-bound : goal.returns-clause-bound
returns-clause-bound c =
    longer_event c.args.outlet.now c.put.new.self (fault_line c.args.stp (stop_of c.args.stop.now)) c.put.ensures.text
    (fault c.args.stp (stop_of c.args.stop.now) c.short_stop.ensures)

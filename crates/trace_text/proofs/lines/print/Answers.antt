use Rattle.trace_text.specs.LineText.{event_line}
use Rattle.trace_text.proofs.LongestLines.{event, longer_event}
use Rattle.trace_text.proofs.lines.print.Goals as goal

pub returns-clause-bound : goal.returns-clause-bound
returns-clause-bound c =
    longer_event c.args.outlet.now c.put.new.self (event_line c.args.stp c.args.event.now c.args.remark) c.put.ensures.text
    (event c.args.stp c.args.event.now c.args.remark c.requires.printable c.short_event.ensures c.short_remark.ensures)

use Rattle.std.proofs.Common.{◌+◌, ◌≤◌, arith, length}
use Rattle.trace_text.specs.LineText.{event_line}
use Rattle.trace_text.proofs.LongestLines.{event, event_some, longer_doubted}
use Rattle.trace_text.proofs.guesses.print_guess.Goals as goal

pub put-requires-clause-fits : goal.put-requires-clause-fits
put-requires-clause-fits c =
    let e = c.args.event.now in
    let most = event c.args.stp e c.args.remark c.requires.printable c.short_event.ensures c.short_remark.ensures in
    let room : length (event_line c.args.stp e c.args.remark) + 2 ≤ 94 = omega (arith, most) in (
      (c.requires.printable, c.keep_event.ensures.hundreds, c.keep_event.ensures.place),
      (event_some c.args.stp e c.args.remark, room),
    )

pub returns-clause-bound : goal.returns-clause-bound
returns-clause-bound c =
    let e = c.args.event.now in
    longer_doubted c.args.outlet.now c.put.new.self (event_line c.args.stp e c.args.remark) c.put.ensures.text
    (event c.args.stp e c.args.remark c.requires.printable c.short_event.ensures c.short_remark.ensures)

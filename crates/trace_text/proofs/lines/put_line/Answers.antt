use Rattle.std.specs.Prelude.{false}
use Rattle.trace_text.specs.LineText.{event_line, itm_event}
use Rattle.trace_text.proofs.LongestLines.{packet, longer_event}
use Rattle.trace_text.proofs.lines.put_line.Goals as goal

pub returns-clause-bound : goal.returns-clause-bound
returns-clause-bound c =
    longer_event c.args.outlet.now c.put.new.self (event_line false (itm_event c.args.at c.args.id c.args.packet.now) c.args.remark) c.put.ensures.text
    (packet c.args.at c.args.id c.args.packet.now c.args.remark c.requires.proper c.requires.suits c.few_digits.ensures c.few_id_digits.ensures c.short_remark.ensures)

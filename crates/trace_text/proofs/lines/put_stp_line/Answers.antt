use Rattle.std.specs.Prelude.{true}
use Rattle.trace_text.specs.LineText.{event_line, stp_event}
use Rattle.trace_text.specs.declared.remark.Remark.TheVariants.{None as NoRemark}
use Rattle.trace_text.proofs.LongestLines.{stp_item, longer_event}
use Rattle.trace_text.proofs.lines.put_stp_line.Goals as goal

pub returns-clause-bound : goal.returns-clause-bound
returns-clause-bound c =
    longer_event c.args.outlet.now c.put.new.self (event_line true (stp_event c.args.at c.args.half c.args.id c.args.item) NoRemark)
    c.put.ensures.text
    (stp_item c.args.at c.args.half c.args.id c.args.item c.requires.proper c.few_digits.ensures c.few_half_digits.ensures
    c.few_id_digits.ensures)

use Rattle.std.specs.Prelude.{false}
use Rattle.trace_text.specs.LineText.{event_line, raw_event}
use Rattle.trace_text.specs.declared.remark.Remark.TheVariants.{None as NoRemark}
use Rattle.trace_text.proofs.LongestLines.{raw_run, longer_event}
use Rattle.trace_text.proofs.lines.put_raw_line.Goals as goal

pub returns-clause-bound : goal.returns-clause-bound
returns-clause-bound c =
    longer_event c.args.outlet.now c.put.new.self (event_line false (raw_event c.args.at c.args.id c.args.bytes.now) NoRemark)
    c.put.ensures.text
    (raw_run c.args.at c.args.id c.args.bytes.now c.requires.few c.few_digits.ensures c.few_id_digits.ensures)

use Rattle.trace_text.specs.EndText.{source_line}
use Rattle.trace_text.proofs.LongestLines.{source_end, longer}
use Rattle.trace_text.proofs.ends.put_source_end.Goals as goal

pub returns-clause-bound : goal.returns-clause-bound
returns-clause-bound c =
    longer 71 c.args.outlet.now c.put.new.self (source_line c.args.source.now) c.put.ensures.text
    (source_end c.args.source.now c.few_id_digits.ensures c.few_digits.ensures c.few_digits-2.ensures)

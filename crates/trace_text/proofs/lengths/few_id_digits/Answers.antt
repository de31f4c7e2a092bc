use Rattle.std.proofs.Common.{arith}
use Rattle.std.proofs.lemmas.Fmt.{length-decimal-le}
use Rattle.trace_text.proofs.lengths.few_id_digits.Goals as goal

pub returns : goal.returns
returns c =
    let value = c.number-number.ensures.value in
    let in_range = c.number-number.ensures.in_range in
    length-decimal-le 3 c.args.id (omega arith) (omega arith) (omega arith)

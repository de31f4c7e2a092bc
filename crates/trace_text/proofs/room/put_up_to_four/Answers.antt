use Rattle.std.proofs.Common.{arith}
use Rattle.itoa.proofs.Decimal.{decimal_pair}
use Rattle.trace_text.proofs.Putting.{followed}
use Rattle.trace_text.proofs.room.put_up_to_four.Goals as goal

pub returns : goal.returns
returns c =
    let big = c.if-number-lt100.false in
    let fits = c.ranges.number.fits in
    followed (decimal_pair c.args.number (omega (arith, big)) (omega (arith, fits))) c.put_short-from.ensures c.put_two.ensures (omega arith)

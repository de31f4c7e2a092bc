use Rattle.std.proofs.Common.{arith}
use Rattle.itoa.proofs.Decimal.{decimal_four}
use Rattle.trace_text.proofs.Putting.{followed}
use Rattle.trace_text.proofs.room.put_up_to_eight.Goals as goal

pub returns : goal.returns
returns c =
    let big = c.if-number-lt10000.false in
    let fits = c.ranges.number.fits in
    followed (decimal_four c.args.number (omega (arith, big)) (omega (arith, fits))) c.put_up_to_four-from.ensures c.put_four.ensures (omega arith)

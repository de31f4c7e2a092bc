use Rattle.std.proofs.Common.{arith}
use Rattle.std.proofs.lemmas.Fmt.{length-decimal-le}
use Rattle.trace_text.proofs.lengths.few_half_digits.Goals as goal

pub returns : goal.returns
returns c = let fits = c.ranges.half.fits in length-decimal-le 3 c.args.half (omega arith) (omega arith) (omega arith)

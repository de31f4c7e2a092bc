use Rattle.std.proofs.Common.{◌<◌, ◌^◌, arith}
use Rattle.trace_clock.proofs.GrayCodes.{from_gray_is}
use Rattle.trace_clock.proofs.gray.from_gray.Goals as goal

pub returns : goal.returns
returns c = from_gray_is c.args.gray (let h : c.args.gray < 2 ^ 64 = omega arith in h)

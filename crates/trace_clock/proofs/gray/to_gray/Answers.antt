use Rattle.std.proofs.Common.{◌<◌, ◌^◌, arith}
use Rattle.trace_clock.proofs.GrayCodes.{to_gray_is}
use Rattle.trace_clock.proofs.gray.to_gray.Goals as goal

pub returns : goal.returns
returns c = to_gray_is c.args.natural (let h : c.args.natural < 2 ^ 64 = omega arith in h)

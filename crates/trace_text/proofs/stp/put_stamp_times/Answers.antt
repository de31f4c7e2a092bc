use Rattle.std.proofs.Common.{arith}
use Rattle.trace_text.proofs.Putting.{once, sized}
use Rattle.trace_text.proofs.stp.put_stamp_times.Goals as goal

pub overflow_sub-result : goal.overflow_sub-result
overflow_sub-result c = let k = (sized c.put_stamp-end.ensures c.requires.room).end in omega (arith, k)

pub returns : goal.returns
returns c = once c.args.times c.requires.times c.requires.room c.put_stamp-end.ensures

use Rattle.std.proofs.Common.{rules, arith}
use Rattle.trace_text.proofs.Putting.{within, loose, then}
use Rattle.trace_text.proofs.stp.put_datum.Goals as goal

pub returns : goal.returns
returns c = within (then c.put_part-from.ensures (loose c.put_nibbles.ensures)) (grind arith) (search rules)

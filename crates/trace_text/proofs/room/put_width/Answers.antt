use Rattle.std.proofs.Common.{rules}
use Rattle.trace_text.proofs.Putting.{named}
use Rattle.trace_text.proofs.room.put_width.Goals as goal

pub returns : goal.returns
returns c = named c.put_part.ensures (search rules)

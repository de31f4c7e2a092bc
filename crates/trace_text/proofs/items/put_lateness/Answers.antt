use Rattle.std.proofs.Common.{rules}
use Rattle.trace_text.proofs.Putting.{named}
use Rattle.trace_text.proofs.items.put_lateness.Goals as goal

pub returns : goal.returns
returns c = named c.put_part.ensures (search rules)

use Rattle.std.proofs.Common.{rules, refl}
use Rattle.trace_text.proofs.Putting.{said_as}
use Rattle.trace_text.proofs.items.put_bits.Goals as goal

pub returns : goal.returns
returns c = said_as c.put_entry.ensures refl (search rules)

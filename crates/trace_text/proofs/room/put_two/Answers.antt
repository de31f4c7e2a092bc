use Rattle.std.proofs.Common.{refl}
use Rattle.trace_text.proofs.Putting.{said_as}
use Rattle.trace_text.proofs.DigitTables.{pairs}
use Rattle.trace_text.proofs.room.put_two.Goals as goal

pub returns : goal.returns
returns c = said_as c.put_entry.ensures refl (pairs c.args.number c.requires.two)

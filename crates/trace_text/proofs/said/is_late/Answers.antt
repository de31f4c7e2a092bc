use Rattle.trace_text.proofs.SaidTables.{late_is}
use Rattle.trace_text.proofs.said.is_late.Goals as goal

pub returns : goal.returns
returns c = late_is c.args.number c.requires

use Rattle.trace_text.proofs.SaidTables.{written_is}
use Rattle.trace_text.proofs.said.is_written.Goals as goal

pub returns : goal.returns
returns c = written_is c.args.number c.requires

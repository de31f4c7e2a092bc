use Rattle.trace_text.proofs.Putting.{within, loose}
use Rattle.trace_text.proofs.DigitTables.{port, most_of_port}
use Rattle.trace_text.proofs.room.put_port.Goals as goal

pub returns : goal.returns
returns c = within (loose c.put_entry.ensures) (most_of_port _) (port c.args.port c.requires.port)

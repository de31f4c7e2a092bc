use Rattle.trace_text.proofs.Putting.{within, loose}
use Rattle.trace_text.proofs.DigitTables.{short, most}
use Rattle.trace_text.proofs.room.put_short.Goals as goal

pub returns : goal.returns
returns c = within (loose c.put_entry.ensures) (most _ _) (short c.args.number c.ranges.number.fits)

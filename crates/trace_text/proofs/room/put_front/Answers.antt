use Rattle.trace_text.proofs.Putting.{front_of}
use Rattle.trace_text.proofs.room.put_front.Goals as goal

pub returns : goal.returns
returns c = front_of c.args.len c.put_slice-all.ensures c.requires.few c.requires.room

use Rattle.trace_text.proofs.Putting.{both}
use Rattle.trace_text.proofs.room.put_eight.Goals as goal

pub returns : goal.returns
returns c = both c.put_four-from.ensures c.put_four.ensures

use Rattle.trace_text.proofs.Putting.{both}
use Rattle.trace_text.proofs.room.put_four.Goals as goal

pub returns : goal.returns
returns c = both c.put_two-from.ensures c.put_two.ensures

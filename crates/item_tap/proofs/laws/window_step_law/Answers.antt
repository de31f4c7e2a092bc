use Rattle.item_tap.proofs.Opening.{open_more}
use Rattle.item_tap.proofs.laws.window_step_law.Goals as goal

pub returns-clause-next : goal.returns-clause-next
returns-clause-next c = open_more

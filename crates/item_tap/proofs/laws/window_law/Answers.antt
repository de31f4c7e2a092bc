use Rattle.item_tap.proofs.Opening.{open_both, pass_both}
use Rattle.item_tap.proofs.laws.window_law.Goals as goal

pub returns-clause-open : goal.returns-clause-open
returns-clause-open c = open_both

pub returns-clause-passes : goal.returns-clause-passes
returns-clause-passes c = pass_both

use Rattle.std.proofs.Common.{sym, ◌∙◌}
use Rattle.script_laws.specs.Names.{joined, all_passed}
use Rattle.script_laws.proofs.Kept.{all_kept, to_same}
use Rattle.script_laws.proofs.funnel_laws.passed_law.Goals as goal

pub returns : goal.returns
returns c = λ t segments some apart of x.
    to_same x (joined (all_passed t segments)) ∙ all_kept t segments some apart of x ∙ sym (to_same x (joined segments))

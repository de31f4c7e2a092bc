use Rattle.std.proofs.Common.{sym, subst}
use Rattle.frame_grammar.specs.Frame.{IsProperFrame}
use Rattle.frame_grammar.proofs.plain.plain_frame.Goals as goal

pub returns-else-is_proper-clause-none : goal.returns-else-is_proper-clause-none
returns-else-is_proper-clause-none c = λ e l p.
    let t = c.is_proper.ensures.1 (subst IsProperFrame (sym c.in-Some.ensures.cases.same) p) in
    let f = c.if-is_proper.false in
    absurd (cc)

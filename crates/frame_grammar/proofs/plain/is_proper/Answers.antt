use Rattle.std.proofs.Common.{rules}
use Rattle.frame_grammar.proofs.Halves.{proper_halves}
use Rattle.frame_grammar.proofs.plain.is_proper.Goals as goal

pub returns-in-Some-Some : goal.returns-in-Some-Some
returns-in-Some-Some c =
    proper_halves c.in-Some-Some.first.now c.in-Some-Some.last.now c.args.frame.now (search rules) c.in-Some-Some.ensures.cases.same c.in-Some-Some.ensures'.cases.1.same
    c.is_proper_half.result c.is_proper_half-in-Some-Some.result c.is_proper_half.ensures c.is_proper_half-in-Some-Some.ensures

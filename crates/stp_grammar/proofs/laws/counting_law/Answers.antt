use Rattle.std.proofs.Common.{arith}
use Rattle.stp_grammar.specs.declared.partial.Partial.TheVariants.{Start}
use Rattle.stp_grammar.proofs.Counting.{counts, counted_nibbles}
use Rattle.stp_grammar.proofs.laws.counting_law.Goals as goal

pub returns-clause-step : goal.returns-clause-step
returns-clause-step c = counts

pub returns-clause-list : goal.returns-clause-list
returns-clause-list c = λ order s r e. (let k = counted_nibbles order Start s r e in omega (arith, k))

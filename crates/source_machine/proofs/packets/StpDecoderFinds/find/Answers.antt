use Rattle.std.proofs.Common.{arith}
use Rattle.source_machine.proofs.packets.StpDecoderFinds.find.Goals as goal

pub returns-clause-ends : goal.returns-clause-ends
returns-clause-ends c = λ parts e.
    let k = c.find_part.ensures.ends parts e in
    let a = k.1 in let b = k.2 in
    (k.0, omega arith, omega arith)

use Rattle.source_machine.proofs.packets.ItmDecoderFinds.find.Goals as goal

pub returns-clause-ends : goal.returns-clause-ends
returns-clause-ends c = λ parts e. let k = c.find_part.ensures.ends parts e in (k.0, k.0.some, k.1)

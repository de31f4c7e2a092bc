use Rattle.port_sync.proofs.Aligning.{rule_by}
use Rattle.port_sync.proofs.laws.rule_law.Goals as goal

pub returns : goal.returns
returns c = λ b here byte. rule_by b.left b.bytes b.halves b.part b.at here byte

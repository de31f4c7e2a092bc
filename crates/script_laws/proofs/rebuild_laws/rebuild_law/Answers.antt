use Rattle.script_laws.proofs.Ported.{script_reads}
use Rattle.script_laws.proofs.rebuild_laws.rebuild_law.Goals as goal

pub returns : goal.returns
returns c = script_reads

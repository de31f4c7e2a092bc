use Rattle.script_laws.proofs.Ported.{port_reads}
use Rattle.script_laws.proofs.rebuild_laws.put_law.Goals as goal

pub returns : goal.returns
returns c = λ p lines sound fair good all. port_reads p.every p.halves p.plan lines sound good p.funnel fair all

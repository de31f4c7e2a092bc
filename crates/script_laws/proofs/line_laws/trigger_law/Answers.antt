use Rattle.std.proofs.Common.{Ok}
use Rattle.script_text.proofs.NewLines.{same_line}
use Rattle.script_laws.proofs.TriggerLaw.{trigger_reads, trigger_only, one_only}
use Rattle.script_laws.proofs.line_laws.trigger_law.Goals as goal

pub returns-clause-reads : goal.returns-clause-reads
returns-clause-reads c = trigger_reads

pub returns-clause-only : goal.returns-clause-only
returns-clause-only c = trigger_only

pub returns-clause-one : goal.returns-clause-one
returns-clause-one c = λ plan line said. (one_only plan line said, λ e. same_line plan line (Ok said) e (λ f. cc))

use Rattle.script_laws.specs.Names.{lines_in}
use Rattle.script_laws.proofs.Texts.{all_of, ends_of, only_reading}
use Rattle.script_laws.proofs.rebuild_laws.lines_law.Goals as goal

pub returns-clause-lines : goal.returns-clause-lines
returns-clause-lines c = λ plan script. all_of plan (lines_in script)

pub returns-clause-fault : goal.returns-clause-fault
returns-clause-fault c = λ plan script. ends_of plan (lines_in script)

pub returns-clause-only : goal.returns-clause-only
returns-clause-only c = λ plan script lines fault all ends. only_reading plan (lines_in script) lines fault all ends

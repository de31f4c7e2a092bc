use Rattle.script_rebuild.specs.Versions.{lines_in}
use Rattle.script_rebuild.specs.RoutedLaws.{settled_by}
use Rattle.script_rebuild.proofs.Whole.{first_fault}
use Rattle.script_rebuild.proofs.laws.fault_law.Goals as goal

pub returns-clause-first : goal.returns-clause-first
returns-clause-first c = λ plan bytes number fault h. first_fault plan (lines_in bytes) number fault h

pub returns-clause-certain : goal.returns-clause-certain
returns-clause-certain c = λ p bytes more h. (settled_by p.funnel p.plan bytes more h).whole

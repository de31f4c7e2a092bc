use Rattle.std.proofs.Common.{List, subst}
use Rattle.script_laws.specs.Names.{all_placed, script_of, Line2}
use Rattle.script_rebuild.proofs.Whole.{text_and_ending}
use Rattle.script_laws.specs.ReadBack.{rebuilt, ReadsAsGiven}
use Rattle.script_laws.proofs.Ported.{script_reads}
use Rattle.script_laws.proofs.funnel_laws.funnelled_law.Goals as goal

pub returns-clause-whole : goal.returns-clause-whole
returns-clause-whole c = text_and_ending

pub returns-clause-reads : goal.returns-clause-reads
returns-clause-reads c = λ p script sound fair none.
    subst (λ (l : List Line2). ReadsAsGiven p.plan l (rebuilt p l)) (all_placed p.funnel (script_of p.plan script) none).same
    (script_reads p script sound fair)

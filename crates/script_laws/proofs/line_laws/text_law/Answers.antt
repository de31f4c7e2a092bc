use Rattle.script_laws.proofs.TextLaw.{line_short, text_reads}
use Rattle.script_laws.proofs.line_laws.text_law.Goals as goal

pub returns-clause-short : goal.returns-clause-short
returns-clause-short c = λ id item high say. line_short id item high say

pub returns-clause-reads : goal.returns-clause-reads
returns-clause-reads c = λ plan id item low high say. text_reads plan id item low high say

use Rattle.script_laws.proofs.LineLaw.{line_says}
use Rattle.script_laws.proofs.line_laws.line_law.Goals as goal

pub returns : goal.returns
returns c = λ plan line id item e. line_says plan line id item e

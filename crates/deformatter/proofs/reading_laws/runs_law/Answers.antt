use Rattle.deformatter.proofs.PortReadingLaws.{frames_have_runs}
use Rattle.deformatter.proofs.reading_laws.runs_law.Goals as goal

pub returns : goal.returns
returns c = λ mode u. frames_have_runs mode u

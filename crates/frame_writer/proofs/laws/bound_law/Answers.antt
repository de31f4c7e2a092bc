use Rattle.std.proofs.Common.{arith, length}
use Rattle.frame_writer.proofs.Frames.{enough}
use Rattle.frame_writer.proofs.laws.bound_law.Goals as goal

pub returns : goal.returns
returns c = λ every halves later most n k t h. enough every halves later most (length t) n k t h (omega arith)

use Rattle.frame_writer.proofs.ReadingBack.{written_reads}
use Rattle.frame_writer.proofs.laws.written_law.Goals as goal

pub returns : goal.returns
returns c = λ every halves segments a. written_reads every halves segments a

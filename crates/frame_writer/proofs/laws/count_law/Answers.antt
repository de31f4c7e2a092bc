use Rattle.frame_writer.proofs.Room.{appended_few}
use Rattle.frame_writer.proofs.laws.count_law.Goals as goal

pub returns : goal.returns
returns c = λ w every halves closed t so_far s. appended_few w every halves closed t so_far s

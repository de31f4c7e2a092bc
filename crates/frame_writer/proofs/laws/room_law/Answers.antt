use Rattle.frame_writer.proofs.Room.{little_to_come}
use Rattle.frame_writer.proofs.laws.room_law.Goals as goal

pub returns : goal.returns
returns c = λ w. little_to_come w

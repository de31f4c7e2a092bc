use Rattle.std.specs.List.{concat}
use Rattle.frame_writer.specs.Writer.{to_come}
use Rattle.frame_writer.proofs.Standing.{stands_front, stands_now}
use Rattle.frame_writer.proofs.laws.stands_law.Goals as goal

pub returns : goal.returns
returns c = record {
  finished = λ w every halves closed t so_far s. stands_now w every halves closed t so_far s;
  front = λ w every halves closed t u later so_far s. (concat (to_come w u later), stands_front w every halves closed t u later so_far s);
}

use Rattle.std.proofs.Common.{ap, None}
use Rattle.std.specs.List.{concat}
use Rattle.frame_writer.specs.Written.{none_later, segments_then}
use Rattle.frame_writer.proofs.Frames.{nothing}
use Rattle.frame_writer.proofs.laws.empty_law.Goals as goal

pub returns : goal.returns
returns c = λ every halves segments. ap concat (nothing every halves (λ n c. segments_then every halves none_later segments n c) 0 None)

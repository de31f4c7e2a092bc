use Rattle.deformatter.proofs.RisingLaws.{reading_rises, capture_rises}
use Rattle.deformatter.proofs.reading_laws.placed_law.Goals as goal

pub returns : goal.returns
returns c = record { rises = λ mode u lo hi r. reading_rises mode u lo hi r; capture = λ mode bytes. capture_rises mode bytes }

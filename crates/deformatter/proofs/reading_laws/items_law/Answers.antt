use Rattle.deformatter.proofs.PortReadingLaws.{concat-frames_of_items}
use Rattle.deformatter.proofs.reading_laws.items_law.Goals as goal

pub returns : goal.returns
returns c = λ id items. concat-frames_of_items id items

use Rattle.deformatter.specs.PortReading.{port_reading}
use Rattle.deformatter.proofs.PortReadingLaws.{frames_have_runs}
use Rattle.source_events.proofs.RunNumbers.{lists_are}
use Rattle.source_events.proofs.laws.list_law.Goals as goal

pub returns : goal.returns
returns c = λ mode u x. lists_are x (port_reading mode u).frames (frames_have_runs mode u)

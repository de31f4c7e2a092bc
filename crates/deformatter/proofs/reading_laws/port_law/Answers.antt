use Rattle.std.specs.Prelude.{true, false}
use Rattle.deformatter.specs.Reading.{port_stream}
use Rattle.deformatter.proofs.PortReadingLaws.{framed_cells, bare_cells}
use Rattle.deformatter.proofs.reading_laws.port_law.Goals as goal

pub returns : goal.returns
returns c = record { aligned = λ u. framed_cells (port_stream false u); hunted = λ u. framed_cells (port_stream true u); bare = λ u. bare_cells u }

use Rattle.source_machine.specs.Names.{Stp}
use Rattle.source_machine.proofs.Reading.{seen_same}
use Rattle.source_machine.proofs.packets.StpDecoderFinds.step.Goals as goal

pub returns-clause-same : goal.returns-clause-same
returns-clause-same c = seen_same Stp _ _ c.feed.ensures.same

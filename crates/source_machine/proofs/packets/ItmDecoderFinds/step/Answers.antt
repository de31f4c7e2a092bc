use Rattle.source_machine.specs.Names.{Itm}
use Rattle.source_machine.proofs.Reading.{seen_same}
use Rattle.source_machine.proofs.packets.ItmDecoderFinds.step.Goals as goal

pub returns-clause-same : goal.returns-clause-same
returns-clause-same c = seen_same Itm _ _ c.feed.ensures.same

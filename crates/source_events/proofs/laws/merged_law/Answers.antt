use Rattle.source_events.specs.declared.packet.Packet.{Packet}
use Rattle.source_events.proofs.Merging.{capture_merged}
use Rattle.source_events.proofs.laws.merged_law.Goals as goal

pub returns : goal.returns
returns c = λ ss law mode u lo hi rise es. capture_merged Packet ss law mode u lo hi rise es

use Rattle.source_events.specs.declared.packet.Packet.{Packet}
use Rattle.source_events.specs.Plan.{sources_by}
use Rattle.source_events.proofs.Lawful.{plan_lawful}
use Rattle.source_events.proofs.Merging.{capture_merged}
use Rattle.source_events.proofs.laws.plan_law.Goals as goal

pub returns : goal.returns
returns c = λ plan u lo hi rise es. capture_merged Packet (sources_by plan) (plan_lawful plan) plan.frames u lo hi rise es

use Rattle.capture_actions.proofs.Few.{few_packets}
use Rattle.capture_actions.proofs.laws.packets_law.Goals as goal

pub returns : goal.returns
returns c = few_packets

use Rattle.trace_values.proofs.Modes.{reads_on}
use Rattle.stp_codec.proofs.decoder.StpDecoder.take_nibble.Goals as goal

pub returns-in-Hunting : goal.returns-in-Hunting
returns-in-Hunting c = c.hunt_nibble.ensures c.args.at

pub read_nibble-requires-clause-locked : goal.read_nibble-requires-clause-locked
read_nibble-requires-clause-locked c = reads_on c.args.self.now.mode c.in_default.not-Hunting

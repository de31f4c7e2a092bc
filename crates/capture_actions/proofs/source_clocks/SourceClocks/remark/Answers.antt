use Rattle.std.proofs.Common.{rules}
use Rattle.capture_actions.proofs.source_clocks.SourceClocks.remark.Goals as goal

pub returns-in-Packet-Itm-Some-clause-stand : goal.returns-in-Packet-Itm-Some-clause-stand
returns-in-Packet-Itm-Some-clause-stand c = λ es h.
    c.packet_remark.ensures.stand es c.args.event.now (search rules) (search rules) h

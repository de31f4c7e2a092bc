use Rattle.std.proofs.Common.{refl, rules}
use Rattle.value_dump.proofs.source_dump.SourceDump.put_event.Goals as goal

pub returns-in-Packet-Itm-clause-gets : goal.returns-in-Packet-Itm-clause-gets
returns-in-Packet-Itm-clause-gets c = c.put_packet.ensures.gets c.args.event.now refl (search rules)

use Rattle.std.proofs.Common.{refl}
use Rattle.recovering_machines.specs.Events.{packet_event}
use Rattle.value_dump.specs.Names.{Itm}
use Rattle.value_dump.proofs.source_dump.SourceDumpReceiver.give_itm.Goals as goal

pub returns-clause-gets : goal.returns-clause-gets
returns-clause-gets c =
    c.put_packet.ensures.gets (packet_event c.args.source c.args._at c.args._half (Itm c.args.packet)) refl refl

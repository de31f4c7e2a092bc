-- Lost fronts of a source of ITM packets (ARMv7-M Architecture Reference Manual, Arm DDI 0403E, appendix D4 'Debug ITM
-- and DWT Packet Protocol', section D4.2 'Packet descriptions', 'Synchronization packet').
use Rattle.std.specs.Prelude.{Bool, true}
use Rattle.resync_grammars.specs.Names.{ItmPacket, Sync, packets_in, Hunting}

-- A whole list of bytes read from its first byte on or after a hunt, and its rest read after a hunt, for a
-- synchronisation packet, by the six bytes 00 00 00 00 00 80.
abbrev pub hunting : Bool → Hunting ItmPacket
hunting hunts = record { whole = packets_in hunts; rest = packets_in true; sync = Sync; size = 6 }

-- Names of lower crates, for the files of this one.
pub use Rattle.capture_actions.specs.Faulty.{IsFaulty}
pub use Rattle.capture_actions.specs.Listing.{itm_packet, itm_packets}
pub use Rattle.capture_actions.specs.Names.{Event, FaultAfter, IsLawful, Meaning, Packet, fault_of, is_of, is_sound}
pub use Rattle.capture_actions.specs.Names.{placed, report_of, sources_by, stop_of}
pub use Rattle.capture_actions.specs.PortText.{source_of}
pub use Rattle.capture_actions.specs.Remarks.{deltas_in, local_after}
pub use Rattle.dwt_packets.specs.Packet.{IsInRange}
pub use Rattle.dwt_packets.specs.Table.{name}
pub use Rattle.dwt_packets.specs.declared.item.Change.TheVariants.{Enter, Exit, Return}
pub use Rattle.dwt_packets.specs.declared.item.DwtItem.{DwtItem}
pub use Rattle.dwt_packets.specs.declared.item.DwtItem.TheVariants.{Exception, Sample, Asleep, Read, Written}
pub use Rattle.itm_grammar.specs.Proper.{IsProper}
pub use Rattle.itm_grammar.specs.declared.packet.ItmPacket.{ItmPacket}
pub use Rattle.itm_grammar.specs.declared.packet.ItmPacket.TheVariants.{Software, Hardware, Overflow, Local}
pub use Rattle.source_events.specs.declared.packet.Packet.TheVariants.{Itm}
pub use Rattle.source_merge.specs.Engine.{is_live}
pub use Rattle.trace_stream.specs.declared.action.TheConstants.{ACTION_ROOM}
pub use Rattle.trace_stream.specs.declared.outlet.TheConstants.{OUTLET_ROOM}

-- Names of lower crates, for the files of this one.
pub use Rattle.decimal_words.specs.Numbers.{number_named, text_after}
pub use Rattle.dwt_packets.specs.Packet.{IsInRange}
pub use Rattle.dwt_packets.specs.declared.item.DwtItem.{DwtItem}
pub use Rattle.itm_grammar.specs.Proper.{IsProper, first_bits, second_bits}
pub use Rattle.itm_grammar.specs.Spelling.{byte_count}
pub use Rattle.itm_grammar.specs.declared.packet.ItmPacket.{ItmPacket}
pub use Rattle.itm_grammar.specs.declared.packet.Size.{Size}
pub use Rattle.source_events.specs.Plan.{kind_of}
pub use Rattle.source_events.specs.declared.plan.Plan.{Plan}
pub use Rattle.source_events.specs.declared.plan.SourceKind.{SourceKind}
pub use Rattle.stp_grammar.specs.Proper.{IsProperItem, IsProperStamp, bits_of}
pub use Rattle.stp_grammar.specs.declared.item.Place.{Place}
pub use Rattle.stp_grammar.specs.declared.item.Stamp.{Stamp}
pub use Rattle.stp_grammar.specs.declared.item.StpItem.{StpItem}
pub use Rattle.stp_grammar.specs.declared.packet.Width.{Width}
pub use Rattle.trace_text.specs.ItemText.{item_text, lateness_text}
pub use Rattle.trace_text.specs.StpText.{known_text, mark_text, stamp_text, stp_text, width_text}

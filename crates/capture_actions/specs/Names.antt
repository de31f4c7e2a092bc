-- Names of lower crates, for the files of this one.
pub use Rattle.deformatter.specs.Growth.{fault_by}
pub use Rattle.deformatter.specs.PortReading.{PortReading, cells_of, port_reading}
pub use Rattle.deformatter.specs.Reader.{mode_of}
pub use Rattle.deformatter.specs.ReadingGrowth.{CellsFit, GrowsByFrame, frames_by}
pub use Rattle.deformatter.specs.declared.step.PortStep.{PortStep}
pub use Rattle.deformatter.specs.declared.step.PortStep.TheVariants.{Fault, Quiet}
pub use Rattle.frame_grammar.specs.Frame.{cells, id_after}
pub use Rattle.frame_grammar.specs.Reading.{is_source, offsets_of, source_list}
pub use Rattle.frame_grammar.specs.Whole.{IsWhole, without_halves}
pub use Rattle.item_tap.specs.Choices.{content_of, holds, holds_any, holds_any_in, is_stamp}
pub use Rattle.item_tap.specs.declared.bounds.Bounds.{Bounds}
pub use Rattle.item_tap.specs.declared.choice.Choice.{Choice}
pub use Rattle.item_tap.specs.declared.content.Content.{Content}
pub use Rattle.itm_grammar.specs.Proper.{IsProper}
pub use Rattle.itm_grammar.specs.declared.packet.ItmPacket.{ItmPacket}
pub use Rattle.itm_grammar.specs.declared.packet.ItmPacket.TheVariants.{GlobalFirst, GlobalSecond, Local}
pub use Rattle.port_slip.specs.Segments.{realigned}
pub use Rattle.port_slip.specs.Slip.{pushed_by}
pub use Rattle.port_slip.specs.Sure.{sure}
pub use Rattle.port_slip.specs.declared.slip.Slip.{Slip}
pub use Rattle.source_events.specs.Fitting.{EventFits, PacketFits}
pub use Rattle.source_events.specs.Merge.{is_of}
pub use Rattle.source_events.specs.Plan.{is_sound, sources_by}
pub use Rattle.source_events.specs.Report.{is_item, stop_of}
pub use Rattle.source_events.specs.Tails.{port_counts_of, source_counts_of, tails_of}
unfoldable pub use Rattle.source_events.specs.Tails.{source_tails}
pub use Rattle.source_events.specs.declared.event.Event.{Event}
pub use Rattle.source_events.specs.declared.event.Stop.{Stop}
pub use Rattle.source_events.specs.declared.event.What.{What}
pub use Rattle.source_events.specs.declared.event.What.TheVariants.{Raw}
pub use Rattle.source_events.specs.declared.packet.Packet.{Packet}
pub use Rattle.source_events.specs.declared.packet.Packet.TheVariants.{Itm}
pub use Rattle.source_events.specs.declared.plan.Plan.{Plan}
pub use Rattle.source_events.specs.declared.plan.SourceKind.{SourceKind}
pub use Rattle.source_events.specs.declared.plan.SourceKind.TheVariants.{Stp}
pub use Rattle.source_merge.specs.Answering.{fault_of, report_of}
pub use Rattle.source_merge.specs.Engine.{Stands, is_live, plan_of}
pub use Rattle.source_merge.specs.Front.{ReadsTo}
pub use Rattle.recovering_machines.specs.Events.{packet_event}
pub use Rattle.source_merge.specs.declared.engine.Engine.{Engine}
pub use Rattle.source_merge.specs.declared.flow.Flow.TheVariants.{Going}
pub use Rattle.stp_grammar.specs.declared.item.StpItem.{StpItem}
pub use Rattle.trace_clock.specs.GlobalTime.{GlobalStamp}
pub use Rattle.trace_clock.specs.LocalTime.{local_time}
pub use Rattle.trace_stream.specs.Debt.{Debt, Paid, Owes, owing, with_debt, calls_of, Pours}
pub use Rattle.trace_stream.specs.Served.{IsLawful, Meaning}
pub use Rattle.trace_stream.specs.Taken.{FaultAfter, HasTaken}
pub use Rattle.trace_stream.specs.declared.action.TheConstants.{ACTION_ROOM}
pub use Rattle.trace_stream.specs.declared.limits.TheConstants.{GREATEST_CAPTURE}
pub use Rattle.trace_stream.specs.declared.outlet.TheConstants.{OUTLET_ROOM, TEXT_ROOM}
pub use Rattle.trace_text.specs.CountText.{port_counts_text}
pub use Rattle.trace_text.specs.EndText.{tails_text}
pub use Rattle.trace_text.specs.FaultText.{fault_line, told}
pub use Rattle.trace_text.specs.LineText.{event_line}
pub use Rattle.trace_text.specs.Printable.{Suits, SuitsPacket}
pub use Rattle.trace_text.specs.declared.remark.Remark.{Remark}
pub use Rattle.trace_text.specs.declared.remark.Remark.TheVariants.{None}
pub use Rattle.trace_values.specs.Placed.{Place, Placed, byte_at, placed, placed_from}
pub use Rattle.trace_values.specs.declared.cell.Cell.{Cell}
pub use Rattle.trace_values.specs.declared.fault.Reason.{Reason}
pub use Rattle.trace_values.specs.declared.limits.TheConstants.{ID_COUNT}
pub use Rattle.trace_values.specs.declared.reading_modes.FramesMode.{FramesMode}

-- What `vcd` writes and notes of a recovering report: the value dump of an ITM source, for which a fault counts as an
-- overflow packet. Its times go on over faults.
use Rattle.std.specs.Prelude.{ℕ, List, [], ◌∷◌, ◌++◌, Option, true}
use Rattle.trace_values.specs.Placed.{placed}
use Rattle.itm_grammar.specs.declared.packet.ItmPacket.{ItmPacket}
use Rattle.source_events.specs.declared.event.Event.{Event}
use Rattle.source_events.specs.declared.packet.Packet.{Packet}
use Rattle.stretch_readings.specs.declared.heard.Heard.{Heard}
use Rattle.recovery_report.specs.Report.{report_with}
use Rattle.trace_stream.specs.Served.{Meaning}
use Rattle.capture_actions.specs.Listing.{itm_packets}
use Rattle.capture_actions.specs.PortText.{source_of}
use Rattle.value_dump.specs.Dump.{lines_after, pending}
use Rattle.value_dump.specs.Header.{header}
use Rattle.value_dump.specs.Vcd.{beginning}
use Rattle.value_dump.specs.declared.vcd_plan.VcdPlan.{VcdPlan}
use Rattle.recovery_listing.specs.FaultLines.{noted_faults}
use Rattle.recovery_listing.specs.Noting.{with_losses}
use Rattle.recovery_listing.specs.declared.going_on.GoingOn.{GoingOn}

-- the packets of a source among some events, and an overflow packet for each fault of it or of the port
abbrev pub packets_in : Option ℕ → List (Event (Heard Packet)) → List ItmPacket
packets_in source es = itm_packets source (with_losses source es)

-- those in the report of a capture
abbrev pub packets_of : GoingOn VcdPlan → List ℕ → List ItmPacket
packets_of p bytes = packets_in (source_of p.plan.plan) (report_with p.guesses p.plan.plan (placed bytes))

-- the header, and at each local timestamp the signals that changed; nothing is written before the first byte
abbrev pub dump : GoingOn VcdPlan → List ℕ → List ℕ
dump p [] = []
dump p (byte ∷ bytes) = header p.plan.hz ++ lines_after p.plan.hz [] (packets_of p (byte ∷ bytes))

-- what comes after the dump: the signals that changed since the last local timestamp, and of no bytes the header first
abbrev pub ending : GoingOn VcdPlan → List ℕ → List ℕ
ending p bytes = beginning p.plan bytes ++ pending p.plan.hz (packets_of p bytes)

-- what is noted: the lines of all faults
abbrev pub noted_dump : GoingOn VcdPlan → List ℕ → List ℕ
noted_dump p bytes = noted_faults p.plan.plan bytes

-- All that `vcd` writes of the bytes of a capture: no fault ends it. What is pending is of bytes that were read: it is
-- written where a read failed and at the limit, too.
abbrev pub dump_meaning : GoingOn VcdPlan → Meaning
dump_meaning p = record { faulty = λ bytes. ⊥; text = dump p; ending = ending p; due = true }

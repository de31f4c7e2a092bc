-- What `vcd` writes: the value dump of an ITM source.
use Rattle.std.specs.Prelude.{ℕ, List, [], ◌∷◌, ◌++◌, true}
use Rattle.value_dump.specs.Names.{IsFaulty, ItmPacket, Meaning, itm_packets, placed, report_of, source_of}
use Rattle.value_dump.specs.Dump.{lines_after, pending}
use Rattle.value_dump.specs.Header.{header}
use Rattle.value_dump.specs.declared.vcd_plan.VcdPlan.{VcdPlan}

-- the packets of the source in the report of a capture
abbrev pub packets_of : VcdPlan → List ℕ → List ItmPacket
packets_of p bytes = itm_packets (source_of p.plan) (report_of p.plan (placed bytes))

-- the header, and at each local timestamp the signals that changed; nothing is written before the first byte
abbrev pub dump : VcdPlan → List ℕ → List ℕ
dump p [] = []
dump p (byte ∷ bytes) = header p.hz ++ lines_after p.hz [] (packets_of p (byte ∷ bytes))

-- the header, where it is still to be written
abbrev pub beginning : VcdPlan → List ℕ → List ℕ
beginning p [] = header p.hz
beginning p (byte ∷ bytes) = []

-- what comes after the dump: the signals that changed since the last local timestamp, and of no bytes the header first
abbrev pub ending : VcdPlan → List ℕ → List ℕ
ending p bytes = beginning p bytes ++ pending p.hz (packets_of p bytes)

-- All that `vcd` makes of the bytes of a capture. What is pending is of bytes that were read: it is written where a
-- read failed and at the limit, too.
abbrev pub vcd_meaning : VcdPlan → Meaning
vcd_meaning p = record { faulty = IsFaulty p.plan; text = dump p; ending = ending p; due = true }

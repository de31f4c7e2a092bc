-- What is beside the timestamps of a source: the times after the packets up to each (ARMv7-M Architecture Reference
-- Manual, Arm DDI 0403E, appendix D4 'Debug ITM and DWT Packet Protocol', section D4.2 'Packet descriptions').
use Rattle.std.specs.Prelude.{ℕ, List, [], ◌∷◌, flat_map}
use Rattle.capture_actions.specs.Names.{ItmPacket, Local, GlobalFirst, GlobalSecond, local_time, GlobalStamp, Remark}
use Rattle.capture_actions.specs.Names.{None as NoRemark}
use Rattle.trace_clock.specs.GlobalTime.{First, Second, global_time}
use Rattle.trace_text.specs.declared.remark.Remark.TheVariants.{Clock, Time}

-- the ticks of a local timestamp, and a global one
abbrev pub deltas_in : ItmPacket → List ℕ
deltas_in (Local lateness delta) = delta ∷ []
deltas_in packet = []

abbrev pub stamps_in : ItmPacket → List GlobalStamp
stamps_in (GlobalFirst len value change wrap) = First len value wrap ∷ []
stamps_in (GlobalSecond wide value) = Second value ∷ []
stamps_in packet = []

-- What is beside this packet, the last of these: the local or the global time after them. In a capture of at most 2^36
-- bytes the local one is the sum of their ticks: capture_actions::laws::clock_law.
abbrev pub remark_by : List ItmPacket → ItmPacket → Remark
remark_by packets (Local lateness delta) = Clock (local_time (flat_map deltas_in packets))
remark_by packets (GlobalFirst len value change wrap) = Time (global_time (flat_map stamps_in packets))
remark_by packets (GlobalSecond wide value) = Time (global_time (flat_map stamps_in packets))
remark_by packets packet = NoRemark

-- that local time alone
abbrev pub local_after : List ItmPacket → ℕ
local_after packets = local_time (flat_map deltas_in packets)

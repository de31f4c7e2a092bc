-- The local time (ARMv7-M Architecture Reference Manual, Arm DDI 0403E, appendix D4 'Debug ITM and DWT Packet
-- Protocol', section D4.2 'Packet descriptions', 'Local timestamp packets': each counts from the one before).
use Rattle.std.specs.Prelude.{ℕ, ◌%◌, ◌^◌, List, sum}

-- the time since the start, in ticks, where each local timestamp told these since the one before; it is counted in 64
-- bits
abbrev pub local_time : List ℕ → ℕ
local_time deltas = sum deltas % 2 ^ 64

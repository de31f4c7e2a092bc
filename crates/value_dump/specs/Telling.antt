-- How a packet changes the value of a signal.
use Rattle.std.specs.Prelude.{ℕ, Option, None, Some, ◌==◌, if◌then◌else◌}
use Rattle.value_dump.specs.Names.{ItmPacket}
use Rattle.value_dump.specs.Signals.{is_overflow, last_told, lost, told_by}

-- the other value of a bit
abbrev pub toggled : Option ℕ → Option ℕ
toggled None = Some 1
toggled (Some value) = if value == 0 then Some 1 else Some 0

-- the value of a signal after a packet, by that at the last local timestamp and that before the packet
abbrev pub value_next : ItmPacket → ℕ → Option ℕ → Option ℕ → Option ℕ
value_next packet number stamped known =
    if number == lost
    then (if is_overflow packet then toggled stamped else known)
    else last_told number known (told_by packet)

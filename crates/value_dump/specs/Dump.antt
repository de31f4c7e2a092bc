-- The value dump of an ITM source: at each local timestamp the signals that changed since the one before it.
use Rattle.std.specs.Prelude.{ℕ, List, [], ◌∷◌, ◌++◌, Option, None, Some, Bool, false, ◌==◌, if◌then◌else◌}
use Rattle.std.specs.Prelude.{zero, suc, get_or, ◌&&◌, nat_lt}
use Rattle.std.specs.List.{list_any}
use Rattle.value_dump.specs.Names.{ItmPacket, local_after}
use Rattle.value_dump.specs.Signals.{is_local, value_after}
use Rattle.value_dump.specs.Lines.{value_line, timed, nanoseconds}

-- these packets up to the last local timestamp
abbrev pub up_to_stamp : List ItmPacket → List ItmPacket
up_to_stamp [] = []
up_to_stamp (packet ∷ packets) = if list_any is_local (packet ∷ packets) then packet ∷ up_to_stamp packets else []

-- a signal has this value
abbrev pub has_value : Option ℕ → ℕ → Bool
has_value None value = false
has_value (Some known) value = known == value

-- the line of a signal that had one value and has another; none where it has the same one, or is not known
abbrev pub change : ℕ → Option ℕ → Option ℕ → List ℕ
change number old None = []
change number old (Some value) = if has_value old value then [] else value_line number value

-- the lines of the signals that changed from the first of two moments to the second, each by its values then: of so
-- many signals, and of all 40
abbrev pub changes_of : ℕ → (ℕ → Option ℕ) → (ℕ → Option ℕ) → List ℕ
changes_of zero old new = []
changes_of (suc number) old new = changes_of number old new ++ change number (old number) (new number)

unfoldable pub changes : (ℕ → Option ℕ) → (ℕ → Option ℕ) → List ℕ
changes old new = changes_of 40 old new

-- what is written after these packets: the signals that changed since the last local timestamp of those before, at the
-- local time after them
abbrev pub stamp_lines : Option ℕ → List ItmPacket → List ItmPacket → List ℕ
stamp_lines hz before packets =
    timed (nanoseconds hz (local_after packets)) (changes (value_after (up_to_stamp before)) (value_after packets))

-- what is written for a packet after those before it
abbrev pub packet_lines : Option ℕ → List ItmPacket → ItmPacket → List ℕ
packet_lines hz before packet = if is_local packet then stamp_lines hz before (before ++ packet ∷ []) else []

-- and for packets after those before them, in order
abbrev pub lines_after : Option ℕ → List ItmPacket → List ItmPacket → List ℕ
lines_after hz before [] = []
lines_after hz before (packet ∷ packets) =
    packet_lines hz before packet ++ lines_after hz (before ++ packet ∷ []) packets

-- what is pending after all packets: the signals that changed since the last local timestamp, at its time
abbrev pub pending : Option ℕ → List ItmPacket → List ℕ
pending hz packets = stamp_lines hz packets packets

-- the value that a list has of a signal, if it is known
abbrev pub known : List (Option ℕ) → ℕ → Option ℕ
known values number = get_or values number None

-- these packets, after those before them, up to the first local timestamp that is later than a time
abbrev pub packets_until : Option ℕ → ℕ → List ItmPacket → List ItmPacket → List ItmPacket
packets_until hz time before [] = []
packets_until hz time before (packet ∷ packets) =
    if is_local packet && nat_lt time (nanoseconds hz (local_after (before ++ packet ∷ [])))
    then []
    else packet ∷ packets_until hz time (before ++ packet ∷ []) packets

-- those that a dump shows at a time: up to the last local timestamp that is not later, and from the time of the last of
-- all on, all of them
abbrev pub packets_shown : Option ℕ → ℕ → List ItmPacket → List ItmPacket
packets_shown hz time packets =
    if nat_lt time (nanoseconds hz (local_after packets))
    then up_to_stamp (packets_until hz time [] packets)
    else packets

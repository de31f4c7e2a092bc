-- Parts of what packets tell.
use Rattle.std.specs.Prelude.{ℕ, ◌+◌, ◌*◌, ◌/◌, ◌%◌, List, Bool, ◌||◌, if◌then◌else◌, Option, None, Some, unwrap_or}
use Rattle.std.specs.Option.{is_some}
use Rattle.stp_grammar.specs.declared.packet.StpPacket.{StpPacket}
use Rattle.stp_grammar.specs.declared.item.Stamp.{Stamp}
use Rattle.stp_grammar.specs.Attribution.{version_of, last_word_of, stamp_by}

-- a number of 16 bits, by the payloads of the last packet that tells all of them, and of the last that tells all or the
-- low 8
abbrev pub number_by : Bool → Option ℕ → Option ℕ → Option ℕ
number_by begun whole low =
    if begun || is_some whole then Some (unwrap_or whole 0 / 256 * 256 + unwrap_or low 0 % 256) else None

-- the timestamp of an item whose packet is the last of these
abbrev pub stamp_of : List StpPacket → ℕ → ℕ → Stamp
stamp_of packets size word = stamp_by (version_of packets) (last_word_of packets) size word

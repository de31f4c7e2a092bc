-- The texts of items, as the listing has them.
use Rattle.std.specs.Prelude.{ℕ, List, ◌++◌, codes, decimal, Bool, true, false, if◌then◌else◌}
use Rattle.std.specs.Int.{to_be_bytes, w32}
use Rattle.hex.specs.Hex.{encode_lower}
use Rattle.itm_grammar.specs.declared.packet.Lateness.{Lateness}
use Rattle.itm_grammar.specs.declared.packet.Lateness.TheVariants.{Exact, StampLate, PacketLate, BothLate}
use Rattle.itm_grammar.specs.declared.packet.ItmPacket.{ItmPacket}
use Rattle.itm_grammar.specs.declared.packet.ItmPacket.TheVariants.{Sync, Overflow, Software, Hardware, Local}
use Rattle.itm_grammar.specs.declared.packet.ItmPacket.TheVariants.{GlobalFirst, GlobalSecond, Extension}
use Rattle.dwt_packets.specs.Table.{name}
use Rattle.trace_text.specs.Values.{value_text}
use Rattle.trace_text.specs.HardwareText.{hardware_text}

abbrev pub lateness_text : Lateness → List ℕ
lateness_text Exact = codes "exact"
lateness_text StampLate = codes "stamp-late"
lateness_text PacketLate = codes "packet-late"
lateness_text BothLate = codes "both-late"

abbrev pub flag_text : Bool → List ℕ
flag_text true = codes "1"
flag_text false = codes "0"

-- `sync`, `overflow`, `port P uS V`, the text of what a hardware packet means, `local L D`,
-- `global1 LEN V C W`, `global2 BITS V` with the bits of its time, `ext OWNER V` with whose it is
abbrev pub item_text : ItmPacket → List ℕ
item_text Sync = codes "sync"
item_text Overflow = codes "overflow"
item_text (Software port size value) = codes "port " ++ (decimal port ++ (codes " " ++ value_text size value))
item_text (Hardware disc size value) = hardware_text (name disc size value)
item_text (Local lateness delta) = codes "local " ++ (lateness_text lateness ++ (codes " " ++ decimal delta))
item_text (GlobalFirst len value change wrap) =
    codes "global1 " ++ (decimal len ++ (codes " " ++ (decimal value
    ++ (codes " " ++ (flag_text change ++ (codes " " ++ flag_text wrap))))))
item_text (GlobalSecond wide value) =
    codes "global2 " ++ ((if wide then codes "64" else codes "48") ++ (codes " " ++ decimal value))
item_text (Extension dwt value) =
    codes "ext " ++ ((if dwt then codes "dwt" else codes "itm")
    ++ (codes " " ++ encode_lower (to_be_bytes w32 value)))

-- The texts of hardware packets, by what they mean.
use Rattle.std.specs.Prelude.{ℕ, List, [], ◌∷◌, ◌++◌, codes, decimal}
use Rattle.std.specs.Int.{to_be_bytes, w16, w32}
use Rattle.hex.specs.Hex.{encode_lower}
use Rattle.dwt_packets.specs.declared.item.Change.{Change}
use Rattle.dwt_packets.specs.declared.item.Change.TheVariants.{Enter, Exit, Return}
use Rattle.dwt_packets.specs.declared.item.DwtItem.{DwtItem}
use Rattle.dwt_packets.specs.declared.item.DwtItem.TheVariants.{Counters, Exception, Sample, Asleep, MatchPc}
use Rattle.dwt_packets.specs.declared.item.DwtItem.TheVariants.{MatchAddress, Read, Written, Other}
use Rattle.trace_text.specs.Values.{value_text}

abbrev pub change_text : Change → List ℕ
change_text Enter = codes " enter"
change_text Exit = codes " exit"
change_text Return = codes " return"

-- `counters HH`, `exception N C`, `pc H`, `asleep`, `cmp C pc H`, `cmp C addr H`,
-- `cmp C read uS V`, `cmp C write uS V`, `hw D uS V`
abbrev pub hardware_text : DwtItem → List ℕ
hardware_text (Counters counters) = codes "counters " ++ encode_lower (counters ∷ [])
hardware_text (Exception number change) = codes "exception " ++ (decimal number ++ change_text change)
hardware_text (Sample pc) = codes "pc " ++ encode_lower (to_be_bytes w32 pc)
hardware_text Asleep = codes "asleep"
hardware_text (MatchPc comparator pc) =
    (codes "cmp " ++ (decimal comparator ++ codes " pc ")) ++ encode_lower (to_be_bytes w32 pc)
hardware_text (MatchAddress comparator low) =
    (codes "cmp " ++ (decimal comparator ++ codes " addr ")) ++ encode_lower (to_be_bytes w16 low)
hardware_text (Read comparator size value) =
    (codes "cmp " ++ (decimal comparator ++ codes " read ")) ++ value_text size value
hardware_text (Written comparator size value) =
    (codes "cmp " ++ (decimal comparator ++ codes " write ")) ++ value_text size value
hardware_text (Other disc size value) = codes "hw " ++ (decimal disc ++ (codes " " ++ value_text size value))

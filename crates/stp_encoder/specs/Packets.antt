-- The packets for a list of items (MIPI System Trace Protocol, version 2; which packets are sent for an item is this
-- project's profile). What is in force when an item comes is what all packets before it tell.
use Rattle.std.specs.Prelude.{ℕ, ◌/◌, ◌%◌, ◌^◌, List, [], ◌∷◌, ◌++◌, true, false, ◌==◌, if◌then◌else◌, Option, None}
use Rattle.std.specs.Prelude.{Some, unwrap_or}
use Rattle.std.specs.List.{find, filter_map, after_last, range_with_len}
use Rattle.stp_encoder.specs.Names.{gray_of, SizedWord, sized, nibble_count, next_word, Row, Master8, Channel8}
use Rattle.stp_encoder.specs.Names.{Master16, Channel16, StpPacket, Plain, Stamped, Place, Stamp, None as NoStamp}
use Rattle.stp_encoder.specs.Names.{Natural, Gray, Raw, StpItem, Async as AsyncItem, Version as VersionItem}
use Rattle.stp_encoder.specs.Names.{MasterError as MasterErrorItem, GlobalError as GlobalErrorItem, Datum as DatumItem}
use Rattle.stp_encoder.specs.Names.{Flag as FlagItem, Trigger as TriggerItem, Frequency as FrequencyItem}
use Rattle.stp_encoder.specs.Names.{NullStamp as NullStampItem, stamp_in, begins_master, master_of, channel_of}
use Rattle.stp_encoder.specs.Names.{last_word_of}
use Rattle.stp_grammar.specs.declared.packet.Row.TheVariants.{MasterError, Datum, Flag}
use Rattle.stp_grammar.specs.declared.packet.Row.TheVariants.{GlobalError, Version, NullStamp, Trigger}
use Rattle.stp_grammar.specs.declared.packet.Row.TheVariants.{Frequency}
use Rattle.stp_grammar.specs.declared.packet.StpPacket.TheVariants.{Async}
use Rattle.stp_encoder.specs.Fitting.{item_place}

-- The packet that tells a number of 16 bits, where this one is in force: none where it is the same, the low 8 bits
-- where the high 8 are the same, and else all of it.
abbrev pub telling : Row → Row → Option ℕ → Option ℕ → List StpPacket
telling low whole known None = []
telling low whole None (Some number) = Plain whole number ∷ []
telling low whole (Some known) (Some number) =
    if known == number then []
    else (if known / 256 == number / 256 then Plain low (number % 256) ∷ [] else Plain whole number ∷ [])

-- the packets before an item at this place: the master's, and then the channel's, which is 0 after a master's
abbrev pub telling_place : List StpPacket → Option Place → List StpPacket
telling_place before None = []
telling_place before (Some place) =
    let masters = telling Master8 Master16 (master_of before) place.master in
    masters ++ telling Channel8 Channel16 (channel_of (before ++ masters)) place.channel

-- the lowest nibbles of a word, as a timestamp of this size has them
abbrev pub low_nibbles : ℕ → ℕ → SizedWord
low_nibbles word size = sized size (word % 16 ^ nibble_count size)

-- the timestamp of the least size, from 0 to 14, that makes this word of the last one
unfoldable pub shortest_stamp : ℕ → ℕ → SizedWord
shortest_stamp last word = low_nibbles word
    (unwrap_or (find (λ size. next_word last (low_nibbles word size) == word) (range_with_len 0 15)) 14)

-- the timestamps of packets since the last VERSION, which make the last word
abbrev pub stamps_since : List StpPacket → List SizedWord
stamps_since packets = filter_map stamp_in (after_last begins_master packets)

-- an item's timestamp as a packet has it, after these packets: a time in the least size, a raw word in its own
abbrev pub packed_stamp : List StpPacket → Stamp → Option SizedWord
packed_stamp before NoStamp = None
packed_stamp before (Natural time) = Some (shortest_stamp (last_word_of before) time)
packed_stamp before (Gray time) = Some (shortest_stamp (last_word_of before) (gray_of time))
packed_stamp before (Raw size word) = Some (sized size word)

-- a packet with this payload: of the one row without a timestamp, and of the other with one
abbrev pub with_stamp : Row → Row → ℕ → Option SizedWord → StpPacket
with_stamp plain stamped payload None = Plain plain payload
with_stamp plain stamped payload (Some stamp) = Stamped stamped payload stamp.size stamp.word

-- an item's own packet, after these packets
abbrev pub own_packet : List StpPacket → StpItem → StpPacket
own_packet before AsyncItem = Async
own_packet before (VersionItem version) = Plain Version version
own_packet before (MasterErrorItem place code) = Plain MasterError code
own_packet before (GlobalErrorItem code) = Plain GlobalError code
own_packet before (DatumItem place width value marked stamp) =
    with_stamp (Datum width marked false) (Datum width marked true) value (packed_stamp before stamp)
own_packet before (FlagItem place stamp) = with_stamp (Flag false) (Flag true) 0 (packed_stamp before stamp)
own_packet before (TriggerItem code stamp) = with_stamp (Trigger false) (Trigger true) code (packed_stamp before stamp)
own_packet before (FrequencyItem hertz stamp) =
    with_stamp (Frequency false) (Frequency true) hertz (packed_stamp before stamp)
own_packet before (NullStampItem stamp) = with_stamp NullStamp NullStamp 0 (packed_stamp before stamp)

-- the packets for one more item, after these packets
abbrev pub packets_with : List StpPacket → StpItem → List StpPacket
packets_with before item =
    let told = telling_place before (item_place item) in
    told ++ own_packet (before ++ told) item ∷ []

-- these packets, and then those for the items
abbrev pub packets_after : List StpPacket → List StpItem → List StpPacket
packets_after before [] = before
packets_after before (item ∷ items) = packets_after (before ++ packets_with before item) items

unfoldable pub packets_for : List StpItem → List StpPacket
packets_for items = packets_after [] items

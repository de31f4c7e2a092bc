-- What a packet is as an item: its place and its timestamp, by looking back over all packets up to it, itself included
-- (MIPI System Trace Protocol, version 2, where masters and channels hold for the packets after them, and timestamps
-- may carry only low nibbles). Which packets tell what, and what versions 3 and 4 mean, is this project's profile.
use Rattle.std.specs.Prelude.{ℕ, ◌+◌, ◌*◌, ◌/◌, ◌%◌, List, [], ◌∷◌, ◌++◌, Bool, false, ◌==◌, ◌||◌, if◌then◌else◌}
use Rattle.std.specs.Prelude.{Option, None, Some, unwrap_or}
use Rattle.std.specs.Option.{is_some, option_or}
use Rattle.std.specs.List.{list_any, filter_map, last_or, after_last}
use Rattle.stp_grammar.specs.Names.{natural_of, SizedWord, last_word}
use Rattle.stp_grammar.specs.declared.packet.Row.{Row}
use Rattle.stp_grammar.specs.declared.packet.Row.TheVariants.{Null, Master8, MasterError, Channel8, Datum, Flag}
use Rattle.stp_grammar.specs.declared.packet.Row.TheVariants.{Master16, GlobalError, Channel16, Version, NullStamp}
use Rattle.stp_grammar.specs.declared.packet.Row.TheVariants.{Trigger, Frequency}
use Rattle.stp_grammar.specs.declared.packet.StpPacket.{StpPacket}
use Rattle.stp_grammar.specs.declared.packet.StpPacket.TheVariants.{Async, Plain, Stamped}
use Rattle.stp_grammar.specs.declared.item.Place.{Place}
use Rattle.stp_grammar.specs.declared.item.Stamp.{Stamp}
use Rattle.stp_grammar.specs.declared.item.Stamp.TheVariants.{None as NoStamp, Natural, Gray, Raw}
use Rattle.stp_grammar.specs.declared.item.StpItem.{StpItem}
use Rattle.stp_grammar.specs.declared.item.StpItem.TheVariants.{Async as AsyncItem, Version as VersionItem}
use Rattle.stp_grammar.specs.declared.item.StpItem.TheVariants.{MasterError as MasterErrorItem}
use Rattle.stp_grammar.specs.declared.item.StpItem.TheVariants.{GlobalError as GlobalErrorItem, Datum as DatumItem}
use Rattle.stp_grammar.specs.declared.item.StpItem.TheVariants.{Flag as FlagItem, Trigger as TriggerItem}
use Rattle.stp_grammar.specs.declared.item.StpItem.TheVariants.{Frequency as FrequencyItem, NullStamp as NullStampItem}

-- the payload of a VERSION, an M8, an M16, a C8 and a C16
abbrev pub version_in : StpPacket → Option ℕ
version_in (Plain Version v) = Some v
version_in p = None

abbrev pub master8_in : StpPacket → Option ℕ
master8_in (Plain Master8 v) = Some v
master8_in p = None

abbrev pub master16_in : StpPacket → Option ℕ
master16_in (Plain Master16 v) = Some v
master16_in p = None

abbrev pub channel8_in : StpPacket → Option ℕ
channel8_in (Plain Channel8 v) = Some v
channel8_in p = None

abbrev pub channel16_in : StpPacket → Option ℕ
channel16_in (Plain Channel16 v) = Some v
channel16_in p = None

-- the timestamp of a packet
abbrev pub stamp_in : StpPacket → Option SizedWord
stamp_in (Stamped row payload size word) = Some (record { size = size; word = word })
stamp_in p = None

-- the last value that h gives of the packets
abbrev pub last_given : {V : Type 0} → (StpPacket → Option V) → List StpPacket → Option V
last_given h packets = last_or None (filter_map h packets)

-- The master begins anew with a VERSION, and the channel with a VERSION, an M8 or an M16.
abbrev pub begins_master : StpPacket → Bool
begins_master p = is_some (version_in p)

abbrev pub begins_channel : StpPacket → Bool
begins_channel p = begins_master p || (is_some (master8_in p) || is_some (master16_in p))

-- A number of 16 bits that packets tell after the last one that begins it anew, or from the start if there is none. Its
-- high 8 bits are those of the last packet that tells all of it, and its low 8 those of the last that tells all of it or
-- the low 8. Where there is no such packet they are 0; but where no packet began the number, and none told all of it, it
-- is unknown.
abbrev pub number_of : (StpPacket → Bool) → (StpPacket → Option ℕ) → (StpPacket → Option ℕ) → List StpPacket → Option ℕ
number_of begins whole low packets =
    let later = after_last begins packets in
    let high = last_given whole later in
    let last = last_given (λ p. option_or (whole p) (low p)) later in
    if list_any begins packets || is_some high
    then Some (unwrap_or high 0 / 256 * 256 + unwrap_or last 0 % 256)
    else None

-- the version, the master and the channel in force after these packets; each may be unknown
unfoldable pub version_of : List StpPacket → Option ℕ
version_of packets = last_given version_in packets

unfoldable pub master_of : List StpPacket → Option ℕ
master_of packets = number_of begins_master master16_in master8_in packets

unfoldable pub channel_of : List StpPacket → Option ℕ
channel_of packets = number_of begins_channel channel16_in channel8_in packets

-- under versions 3 and 4 timestamps make a last word, of which the next may replace only the low nibbles
abbrev pub keeps_word : Option ℕ → Bool
keeps_word None = false
keeps_word (Some version) = version == 3 || version == 4

-- the last word that the timestamps since the last VERSION make; 0 under another version or an unknown one
unfoldable pub last_word_of : List StpPacket → ℕ
last_word_of packets =
    if keeps_word (version_of packets) then last_word (filter_map stamp_in (after_last begins_master packets)) else 0

-- a timestamp under this version, where this is the last word with it
abbrev pub stamp_by : Option ℕ → ℕ → ℕ → ℕ → Stamp
stamp_by None last size word = Raw size word
stamp_by (Some version) last size word =
    if version == 3 then Natural last else (if version == 4 then Gray (natural_of last) else Raw size word)

-- the place of an item whose packet is the last of these
abbrev pub place_of : List StpPacket → Place
place_of packets = record { master = master_of packets; channel = channel_of packets }

-- a packet's item by its row, with this place, timestamp and payload: masters, channels and NULL are none
abbrev pub item_with : Place → Stamp → Row → ℕ → Option StpItem
item_with place stamp Null v = None
item_with place stamp Master8 v = None
item_with place stamp MasterError v = Some (MasterErrorItem place v)
item_with place stamp Channel8 v = None
item_with place stamp (Datum width marked stamped) v = Some (DatumItem place width v marked stamp)
item_with place stamp (Flag stamped) v = Some (FlagItem place stamp)
item_with place stamp Master16 v = None
item_with place stamp GlobalError v = Some (GlobalErrorItem v)
item_with place stamp Channel16 v = None
item_with place stamp Version v = Some (VersionItem v)
item_with place stamp NullStamp v = Some (NullStampItem stamp)
item_with place stamp (Trigger stamped) v = Some (TriggerItem v stamp)
item_with place stamp (Frequency stamped) v = Some (FrequencyItem v stamp)

-- the item of a packet, where these are all packets up to it, itself included
abbrev pub item_of : List StpPacket → StpPacket → Option StpItem
item_of packets Async = Some AsyncItem
item_of packets (Plain row v) = item_with (place_of packets) NoStamp row v
item_of packets (Stamped row v size word) =
    item_with (place_of packets) (stamp_by (version_of packets) (last_word_of packets) size word) row v

-- the item of one more packet after these, and all packets with it
abbrev pub attribute : List StpPacket → StpPacket → Option StpItem × List StpPacket
attribute before p = (item_of (before ++ p ∷ []) p, before ++ p ∷ [])

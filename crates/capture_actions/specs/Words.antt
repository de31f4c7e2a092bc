-- The words with which the texts of items begin: the third field of the lines of a listing.
use Rattle.std.specs.Prelude.{◌≡◌, ℕ, List, [], ◌∷◌, ◌++◌, codes, Option, None, Some}
use Rattle.dwt_packets.specs.Table.{name}
use Rattle.dwt_packets.specs.declared.item.DwtItem.{DwtItem}
use Rattle.dwt_packets.specs.declared.item.DwtItem.TheVariants.{Counters as OfCounters, Exception as OfException}
use Rattle.dwt_packets.specs.declared.item.DwtItem.TheVariants.{Asleep as OfAsleep, MatchPc, MatchAddress, Read}
use Rattle.dwt_packets.specs.declared.item.DwtItem.TheVariants.{Sample, Written, Other}
use Rattle.itm_grammar.specs.declared.packet.ItmPacket.TheVariants.{Sync as OfSync, Overflow as OfOverflow, Software}
use Rattle.itm_grammar.specs.declared.packet.ItmPacket.TheVariants.{Hardware, Local as OfLocal, GlobalFirst}
use Rattle.itm_grammar.specs.declared.packet.ItmPacket.TheVariants.{GlobalSecond, Extension}
use Rattle.stp_grammar.specs.declared.item.StpItem.TheVariants.{Async as OfAsync, Version as OfVersion, MasterError}
use Rattle.stp_grammar.specs.declared.item.StpItem.TheVariants.{GlobalError, Datum, Flag as OfFlag, Trigger as OfTrig}
use Rattle.stp_grammar.specs.declared.item.StpItem.TheVariants.{Frequency, NullStamp}
use Rattle.source_events.specs.declared.event.What.TheVariants.{Locked, Packet as Said, Raw as OfRaw}
use Rattle.source_events.specs.declared.event.What.TheVariants.{Trigger as OfTrigger}
use Rattle.source_events.specs.declared.packet.Packet.TheVariants.{Stp as StpOf}
use Rattle.capture_actions.specs.Names.{ItmPacket, StpItem, What, Packet, Itm}
use Rattle.capture_actions.specs.declared.item_word.ItemWord.{ItemWord}
use Rattle.capture_actions.specs.declared.item_word.ItemWord.TheVariants.{Sync, Overflow, Port, Counters, Exception, Pc}
use Rattle.capture_actions.specs.declared.item_word.ItemWord.TheVariants.{Asleep, Cmp, Hw, Local, Global1, Global2, Ext}
use Rattle.capture_actions.specs.declared.item_word.ItemWord.TheVariants.{Async, Version, Data, Flag, Trig, Freq}
use Rattle.capture_actions.specs.declared.item_word.ItemWord.TheVariants.{Nullts, Merr, Gerr, Raw, Trigger}

-- its place in the order, from 0 on, and its text
abbrev pub row_of : ItemWord → ℕ × List ℕ
row_of Sync = (0, codes "sync")
row_of Overflow = (1, codes "overflow")
row_of Port = (2, codes "port")
row_of Counters = (3, codes "counters")
row_of Exception = (4, codes "exception")
row_of Pc = (5, codes "pc")
row_of Asleep = (6, codes "asleep")
row_of Cmp = (7, codes "cmp")
row_of Hw = (8, codes "hw")
row_of Local = (9, codes "local")
row_of Global1 = (10, codes "global1")
row_of Global2 = (11, codes "global2")
row_of Ext = (12, codes "ext")
row_of Async = (13, codes "async")
row_of Version = (14, codes "version")
row_of Data = (15, codes "data")
row_of Flag = (16, codes "flag")
row_of Trig = (17, codes "trig")
row_of Freq = (18, codes "freq")
row_of Nullts = (19, codes "nullts")
row_of Merr = (20, codes "merr")
row_of Gerr = (21, codes "gerr")
row_of Raw = (22, codes "raw")
row_of Trigger = (23, codes "trigger")

abbrev pub number_of : ItemWord → ℕ
number_of word = (row_of word).0

abbrev pub text_of : ItemWord → List ℕ
text_of word = (row_of word).1

-- all words, in the order of the manual's tables
abbrev pub all_words : List ItemWord
all_words =
    Sync ∷ Overflow ∷ Port ∷ Counters ∷ Exception ∷ Pc ∷ Asleep ∷ Cmp ∷ Hw ∷ Local ∷ Global1 ∷ Global2 ∷ Ext
    ∷ Async ∷ Version ∷ Data ∷ Flag ∷ Trig ∷ Freq ∷ Nullts ∷ Merr ∷ Gerr ∷ Raw ∷ Trigger ∷ []

-- the word of what a hardware packet means
abbrev pub dwt_word : DwtItem → ItemWord
dwt_word (OfCounters counters) = Counters
dwt_word (OfException number change) = Exception
dwt_word (Sample pc) = Pc
dwt_word OfAsleep = Asleep
dwt_word (MatchPc comparator pc) = Cmp
dwt_word (MatchAddress comparator low) = Cmp
dwt_word (Read comparator size value) = Cmp
dwt_word (Written comparator size value) = Cmp
dwt_word (Other disc size value) = Hw

-- of a packet of an ITM source
abbrev pub itm_word : ItmPacket → ItemWord
itm_word OfSync = Sync
itm_word OfOverflow = Overflow
itm_word (Software port size value) = Port
itm_word (Hardware disc size value) = dwt_word (name disc size value)
itm_word (OfLocal lateness delta) = Local
itm_word (GlobalFirst len value change wrap) = Global1
itm_word (GlobalSecond wide value) = Global2
itm_word (Extension dwt value) = Ext

-- of an item of a system trace
abbrev pub stp_word : StpItem → ItemWord
stp_word OfAsync = Async
stp_word (OfVersion version) = Version
stp_word (MasterError place code) = Merr
stp_word (GlobalError code) = Gerr
stp_word (Datum place width value marked stamp) = Data
stp_word (OfFlag place stamp) = Flag
stp_word (OfTrig code stamp) = Trig
stp_word (Frequency hertz stamp) = Freq
stp_word (NullStamp stamp) = Nullts

-- of a packet of either kind
abbrev pub packet_word : Packet → ItemWord
packet_word (Itm packet) = itm_word packet
packet_word (StpOf item) = stp_word item

-- of what an event tells; the notice of a lock is no item, and has none
abbrev pub word_of : What Packet → Option ItemWord
word_of (Locked skipped) = None
word_of (Said packet) = Some (packet_word packet)
word_of (OfRaw bytes) = Some Raw
word_of (OfTrigger byte) = Some Trigger

-- nothing, or a blank and more
abbrev pub IsRest : List ℕ → Type 0
IsRest [] = Unit {0}
IsRest (byte ∷ bytes) = byte ≡ 32

-- it is the first word of this text
pub record Begins (text : List ℕ) (word : ItemWord) : Type 0 where
  pub more : List ℕ
  pub parts : text ≡ text_of word ++ more
  pub rest : IsRest more

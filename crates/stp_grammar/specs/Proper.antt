-- Packets and items whose numbers are in their ranges (MIPI System Trace Protocol, version 2; the ranges are this
-- project's profile).
use Rattle.std.specs.Prelude.{ℕ, ◌^◌, ◌<◌}
use Rattle.std.specs.Option.{ForSome}
use Rattle.stp_grammar.specs.Names.{WordFits}
use Rattle.stp_grammar.specs.declared.packet.Width.{Width}
use Rattle.stp_grammar.specs.declared.packet.Width.TheVariants.{Four, Eight, Sixteen, ThirtyTwo, SixtyFour}
use Rattle.stp_grammar.specs.declared.packet.StpPacket.{StpPacket}
use Rattle.stp_grammar.specs.declared.packet.StpPacket.TheVariants.{Async, Plain, Stamped}
use Rattle.stp_grammar.specs.declared.item.Place.{Place}
use Rattle.stp_grammar.specs.declared.item.Stamp.{Stamp}
use Rattle.stp_grammar.specs.declared.item.Stamp.TheVariants.{None as NoStamp, Natural, Gray, Raw}
use Rattle.stp_grammar.specs.declared.item.StpItem.{StpItem}
use Rattle.stp_grammar.specs.declared.item.StpItem.TheVariants.{Async as AsyncItem, Version, MasterError, GlobalError}
use Rattle.stp_grammar.specs.declared.item.StpItem.TheVariants.{Datum, Flag, Trigger, Frequency, NullStamp}
use Rattle.stp_grammar.specs.Opcodes.{line_of}

-- the payload and the word have at most the nibbles that they are spelled in, and the size is one
abbrev pub IsProper : StpPacket → Type 0
IsProper Async = Unit {0}
IsProper (Plain row payload) = payload < 16 ^ (line_of row).payload
IsProper (Stamped row payload size word) = (payload < 16 ^ (line_of row).payload) × WordFits size word

-- how many bits a width has
abbrev pub bits_of : Width → ℕ
bits_of Four = 4
bits_of Eight = 8
bits_of Sixteen = 16
bits_of ThirtyTwo = 32
bits_of SixtyFour = 64

-- a time has 64 bits, and a raw timestamp's word fits its size
abbrev pub IsProperStamp : Stamp → Type 0
IsProperStamp NoStamp = Unit {0}
IsProperStamp (Natural time) = time < 2 ^ 64
IsProperStamp (Gray time) = time < 2 ^ 64
IsProperStamp (Raw size word) = WordFits size word

-- a master and a channel have 16 bits
abbrev pub IsProperPlace : Place → Type 0
IsProperPlace place = ForSome place.master (λ m. m < 2 ^ 16) × ForSome place.channel (λ c. c < 2 ^ 16)

-- a version has 4 bits, a code 8 and a frequency 32, and a datum's value fits its width
abbrev pub IsProperItem : StpItem → Type 0
IsProperItem AsyncItem = Unit {0}
IsProperItem (Version version) = version < 2 ^ 4
IsProperItem (MasterError place code) = IsProperPlace place × (code < 2 ^ 8)
IsProperItem (GlobalError code) = code < 2 ^ 8
IsProperItem (Datum place width value marked stamp) =
    IsProperPlace place × (value < 2 ^ bits_of width) × IsProperStamp stamp
IsProperItem (Flag place stamp) = IsProperPlace place × IsProperStamp stamp
IsProperItem (Trigger code stamp) = (code < 2 ^ 8) × IsProperStamp stamp
IsProperItem (Frequency hertz stamp) = (hertz < 2 ^ 32) × IsProperStamp stamp
IsProperItem (NullStamp stamp) = IsProperStamp stamp

-- What is kept of one line for the next.
use Rattle.std.specs.Prelude.{◌≡◌, ◌/◌, ℕ}
use Rattle.stp_grammar.specs.declared.item.Place.{Place}
use Rattle.stp_grammar.specs.declared.item.StpItem.{StpItem}
use Rattle.stp_grammar.specs.declared.item.StpItem.TheVariants.{MasterError, Datum, Flag}
use Rattle.source_events.specs.declared.packet.Packet.{Packet}
use Rattle.source_events.specs.declared.packet.Packet.TheVariants.{Stp}
use Rattle.source_events.specs.declared.event.What.{What}
use Rattle.source_events.specs.declared.event.What.TheVariants.{Packet as GivenPacket}
use Rattle.trace_text.specs.declared.digits.Digits.{Digits}
use Rattle.trace_text.specs.declared.place_text.PlaceText.{PlaceText}

-- the hundreds of the number whose digits are kept
abbrev pub hundreds_of : Digits → ℕ
hundreds_of d = d.base / 100

-- the place whose text is kept
abbrev pub place_of : PlaceText → Place
place_of t = t.place

-- it is the place of this item, if that has one
abbrev pub KeepsPlace : Digits → StpItem → Type 0
KeepsPlace d (MasterError place code) = place_of d.place ≡ place
KeepsPlace d (Datum place width value marked stamp) = place_of d.place ≡ place
KeepsPlace d (Flag place stamp) = place_of d.place ≡ place
KeepsPlace d item = Unit {0}

-- of what an event tells
abbrev pub KeepsPlaceOf : Digits → What Packet → Type 0
KeepsPlaceOf d (GivenPacket (Stp item)) = KeepsPlace d item
KeepsPlaceOf d what = Unit {0}

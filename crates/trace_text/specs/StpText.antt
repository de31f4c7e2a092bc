-- The texts of the items of a system trace.
use Rattle.std.specs.Prelude.{ℕ, ◌/◌, List, [], ◌∷◌, ◌++◌, codes, decimal, Bool, true, false, Option, None, Some}
use Rattle.hex.specs.Hex.{encode_lower}
use Rattle.trace_clock.specs.LastWord.{nibble_count}
use Rattle.stp_grammar.specs.declared.packet.Width.{Width}
use Rattle.stp_grammar.specs.declared.packet.Width.TheVariants.{Four, Eight, Sixteen, ThirtyTwo, SixtyFour}
use Rattle.stp_grammar.specs.declared.item.Place.{Place}
use Rattle.stp_grammar.specs.declared.item.Stamp.{Stamp}
use Rattle.stp_grammar.specs.declared.item.Stamp.TheVariants.{None as NoStamp, Natural, Gray, Raw}
use Rattle.stp_grammar.specs.declared.item.StpItem.{StpItem}
use Rattle.stp_grammar.specs.declared.item.StpItem.TheVariants.{Async, Version, MasterError, GlobalError, Datum, Flag}
use Rattle.stp_grammar.specs.declared.item.StpItem.TheVariants.{Trigger, Frequency, NullStamp}
use Rattle.stp_grammar.specs.Proper.{bits_of}
use Rattle.trace_text.specs.HexDigits.{hex_digits}

-- a master or a channel, or `-` where it is unknown
abbrev pub known_text : Option ℕ → List ℕ
known_text None = codes "-"
known_text (Some number) = decimal number

-- `M C`
abbrev pub place_text : Place → List ℕ
place_text place = known_text place.master ++ (codes " " ++ known_text place.channel)

-- how many bits a datum has
abbrev pub width_text : Width → List ℕ
width_text Four = codes "u4"
width_text Eight = codes "u8"
width_text Sixteen = codes "u16"
width_text ThirtyTwo = codes "u32"
width_text SixtyFour = codes "u64"

-- whether a datum is marked
abbrev pub mark_text : Bool → List ℕ
mark_text true = codes "m"
mark_text false = codes "-"

-- `-` for none, `n=N`, `g=N`, or `r=` and all nibbles of the word, high zeros too
abbrev pub stamp_text : Stamp → List ℕ
stamp_text NoStamp = codes "-"
stamp_text (Natural time) = codes "n=" ++ decimal time
stamp_text (Gray time) = codes "g=" ++ decimal time
stamp_text (Raw size word) = codes "r=" ++ hex_digits (nibble_count size) word

-- `async`, `version N`, `merr M C HH`, `gerr HH`, `data M C uB V K T`, `flag M C T`, `trig HH T`, `freq N T`,
-- `nullts T`; `uB V` is the value in as many hexadecimal digits as the datum has nibbles
abbrev pub stp_text : StpItem → List ℕ
stp_text Async = codes "async"
stp_text (Version version) = codes "version " ++ decimal version
stp_text (MasterError place code) = codes "merr " ++ (place_text place ++ (codes " " ++ encode_lower (code ∷ [])))
stp_text (GlobalError code) = codes "gerr " ++ encode_lower (code ∷ [])
stp_text (Datum place width value marked stamp) =
    codes "data " ++ (place_text place
    ++ (codes " " ++ ((width_text width ++ (codes " " ++ hex_digits (bits_of width / 4) value))
    ++ (codes " " ++ (mark_text marked ++ (codes " " ++ stamp_text stamp))))))
stp_text (Flag place stamp) = codes "flag " ++ (place_text place ++ (codes " " ++ stamp_text stamp))
stp_text (Trigger code stamp) = codes "trig " ++ (encode_lower (code ∷ []) ++ (codes " " ++ stamp_text stamp))
stp_text (Frequency hertz stamp) = codes "freq " ++ (decimal hertz ++ (codes " " ++ stamp_text stamp))
stp_text (NullStamp stamp) = codes "nullts " ++ stamp_text stamp

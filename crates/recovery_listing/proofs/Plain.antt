-- The lines of what is sure do not end in the mark of a guess: they have no `?`, but for a time that is not known,
-- which is `time=?`.
use Rattle.std.proofs.Common.{◌≡◌, ℕ, zero, suc, ◌+◌, ◌-◌, List, [], ◌∷◌, ◌++◌, length}
use Rattle.std.proofs.Common.{length-append}
use Rattle.std.proofs.Common.{drop, refl, sym, ◌∙◌, ap, append_assoc, arith, Bool, true, false, cond, Option, None}
use Rattle.std.proofs.Common.{Some}
use Rattle.std.specs.Prelude.{codes, decimal, slice_index, ◌==◌, ◌&&◌, not, nat_lt, if◌then◌else◌, ◌/◌, ◌%◌}
use Rattle.std.specs.Cmp.Lexicographic.{pointwise}
use Rattle.std.specs.List.{list_all}
use Rattle.std.specs.Fmt.{digits, digits_onto, digit_glyph}
use Rattle.std.specs.Int.{to_be_bytes, w8, w16, w32}
use Rattle.std.proofs.lemmas.Bool.{and_parts}
use Rattle.std.proofs.lemmas.Bool.{ltb-true, ltb-false}
use Rattle.std.proofs.lemmas.Bool.Decides.{nat_tests}
use Rattle.std.proofs.lemmas.List.{drop_at, get_or_past}
use Rattle.std.proofs.lemmas.List.Folds.{list_all-append, list_all_at}
use Rattle.hex.specs.Hex.{encode_lower, encode_with, lower_digits}
use Rattle.itm_grammar.specs.declared.packet.ItmPacket.{ItmPacket}
use Rattle.itm_grammar.specs.declared.packet.ItmPacket.TheVariants.{Sync, Overflow, Software, Hardware, Local}
use Rattle.itm_grammar.specs.declared.packet.ItmPacket.TheVariants.{GlobalFirst, GlobalSecond, Extension}
use Rattle.itm_grammar.specs.declared.packet.Lateness.{Lateness}
use Rattle.itm_grammar.specs.declared.packet.Lateness.TheVariants.{Exact}
use Rattle.itm_grammar.specs.declared.packet.Size.{Size}
use Rattle.itm_grammar.specs.declared.packet.Size.TheVariants.{One, Two, Four}
use Rattle.dwt_packets.specs.declared.item.Change.{Change}
use Rattle.dwt_packets.specs.declared.item.Change.TheVariants.{Enter}
use Rattle.dwt_packets.specs.declared.item.DwtItem.{DwtItem}
use Rattle.dwt_packets.specs.declared.item.DwtItem.TheVariants.{Counters, Exception, Sample, Asleep, MatchPc}
use Rattle.dwt_packets.specs.declared.item.DwtItem.TheVariants.{MatchAddress, Read, Written, Other}
use Rattle.dwt_packets.specs.Table.{name}
use Rattle.stp_grammar.specs.declared.packet.Width.{Width}
use Rattle.stp_grammar.specs.declared.packet.Width.TheVariants.{Four as FourBits}
use Rattle.stp_grammar.specs.declared.item.Place.{Place as StpPlace}
use Rattle.stp_grammar.specs.declared.item.Stamp.{Stamp}
use Rattle.stp_grammar.specs.declared.item.Stamp.TheVariants.{None as NoStamp, Natural, Gray, Raw as RawStamp}
use Rattle.stp_grammar.specs.declared.item.StpItem.{StpItem}
use Rattle.stp_grammar.specs.declared.item.StpItem.TheVariants.{Async, Version, MasterError, GlobalError, Datum, Flag}
use Rattle.stp_grammar.specs.declared.item.StpItem.TheVariants.{Trigger as StpTrigger, Frequency, NullStamp}
use Rattle.stp_grammar.specs.Proper.{bits_of}
use Rattle.trace_clock.specs.LastWord.{nibble_at, nibble_count}
use Rattle.trace_values.specs.declared.fault.Reason.{Reason}
use Rattle.trace_values.specs.declared.fault.Reason.TheVariants.{BadSync}
use Rattle.trace_values.specs.Faults.{name_of, number_of}
use Rattle.trace_values.specs.Placed.{Place}
use Rattle.source_events.specs.declared.event.Event.{Event}
use Rattle.source_events.specs.declared.event.What.{What}
use Rattle.source_events.specs.declared.event.What.TheVariants.{Locked, Packet as Said, Raw, Trigger}
use Rattle.source_events.specs.declared.packet.Packet.{Packet}
use Rattle.source_events.specs.declared.packet.Packet.TheVariants.{Itm, Stp}
use Rattle.source_events.specs.Merge.{place_of}
use Rattle.trace_text.specs.FaultText.{fault_line}
use Rattle.trace_text.specs.HardwareText.{change_text, hardware_text}
use Rattle.trace_text.specs.HexDigits.{hex_digits}
use Rattle.trace_text.specs.ItemText.{flag_text, item_text, lateness_text}
use Rattle.trace_text.specs.LineText.{at_text, event_line, source_text, what_text}
use Rattle.trace_text.specs.StpText.{known_text, mark_text, place_text, stamp_text, stp_text, width_text}
use Rattle.trace_text.specs.Values.{value_text}
use Rattle.trace_text.specs.declared.remark.Remark.{Remark}
use Rattle.trace_text.specs.declared.remark.Remark.TheVariants.{None as NoRemark, Clock, Time}
use Rattle.recovery_listing.specs.Marked.{is_marked}

-- it is no `?`
abbrev is_plain : ℕ → Bool
is_plain code = not (63 == code)

record Plain (l : List ℕ) : Type 0 where
  is : list_all is_plain l ≡ true

and_false : (a : Bool) → (a && false) ≡ false
and_false true = refl
and_false false = refl

both : (a b : Bool) → a ≡ true → b ≡ true → (a && b) ≡ true
both a b e f = ap (λ x. x && b) e ∙ f

join : (a b : List ℕ) → Plain a → Plain b → Plain (a ++ b)
join a b e f = record {
  is = list_all-append is_plain a b ∙ both (list_all is_plain a) (list_all is_plain b) e.is f.is;
}

-- a word, and what comes after it
word : (a b : List ℕ) → list_all is_plain a ≡ true → Plain b → Plain (a ++ b)
word a b e f = join a b (record { is = e }) f

dropped : (k : ℕ) (l : List ℕ) → list_all is_plain l ≡ true → list_all is_plain (drop k l) ≡ true
dropped zero l e = e
dropped (suc k) [] e = refl
dropped (suc k) (x ∷ l) e = dropped k l (and_parts (is_plain x) (list_all is_plain l) e).1

-- the mark
no_mark : (l : List ℕ) → list_all is_plain l ≡ true → pointwise (λ a b. a == b) (codes " ?\n") l ≡ false
no_mark [] e = refl
no_mark (a ∷ []) e = and_false (32 == a)
no_mark (a ∷ (b ∷ l)) e = by (63 == b) refl where
  plain : is_plain b ≡ true
  plain = (and_parts (is_plain b) (list_all is_plain l)
      (and_parts (is_plain a) (is_plain b && list_all is_plain l) e).1).0

  by : (t : Bool) → (63 == b) ≡ t → pointwise (λ a b. a == b) (codes " ?\n") (a ∷ (b ∷ l)) ≡ false
  by true q = (let z : false ≡ true = sym (ap not q) ∙ plain in cc)
  by false q =
      ap (λ t. (32 == a) && (t && pointwise (λ a b. a == b) (codes "\n") l)) q ∙ and_false (32 == a)

plain_line : (l : List ℕ) → Plain l → is_marked l ≡ false
plain_line l e = no_mark (drop (length l - 3) l) (dropped (length l - 3) l e.is)

-- a line that ends in these three codes
ends_in : (l end : List ℕ) → length end ≡ 3 → is_marked (l ++ end) ≡ pointwise (λ a b. a == b) (codes " ?\n") end
ends_in l end three =
    ap (pointwise (λ a b. a == b) (codes " ?\n")) (drop_at l end (length (l ++ end) - 3)
    (let e = length-append l end in let k : length l ≡ length (l ++ end) - 3 = omega (arith, e, three) in k))

pub marked_line : (l : List ℕ) → is_marked (l ++ codes " ?\n") ≡ true
marked_line l = ends_in l (codes " ?\n") refl

unknown_line : (l : List ℕ) → is_marked (l ++ codes "=?\n") ≡ false
unknown_line l = ends_in l (codes "=?\n") refl

-- digits
glyph : (d : ℕ) (t : Bool) → nat_lt d 10 ≡ t → is_plain (cond t (48 + d) (87 + d)) ≡ true
glyph d true e = (let l = ltb-true d 10 e in let k : (63 == 48 + d) ≡ false = grind (arith, nat_tests) in ap not k)
glyph d false e = (let l = ltb-false d 10 e in let k : (63 == 87 + d) ≡ false = grind (arith, nat_tests) in ap not k)

abbrev Digits : List ℕ → Type 0
Digits l = list_all is_plain l ≡ true

onto_by : (k n : ℕ) (acc : List ℕ) (t : Bool) → Digits acc →
    ((l : List ℕ) → Digits l → Digits (digits_onto k 10 false (n / 10) l)) →
    Digits (cond t (digit_glyph false (n % 10) ∷ acc)
    (digits_onto k 10 false (n / 10) (digit_glyph false (n % 10) ∷ acc)))
onto_by k n acc t e more = by t where
  next : Digits (digit_glyph false (n % 10) ∷ acc)
  next = both (is_plain (digit_glyph false (n % 10))) (list_all is_plain acc)
      (glyph (n % 10) (nat_lt (n % 10) 10) refl) e

  by : (t : Bool) → Digits (cond t (digit_glyph false (n % 10) ∷ acc)
      (digits_onto k 10 false (n / 10) (digit_glyph false (n % 10) ∷ acc)))
  by true = next
  by false = more (digit_glyph false (n % 10) ∷ acc) next

onto : (k n : ℕ) (acc : List ℕ) → Digits acc → Digits (digits_onto k 10 false n acc)
onto zero n acc e = e
onto (suc k) n acc e = onto_by k n acc (n / 10 == 0) e (λ l f. onto k (n / 10) l f)

number : (n : ℕ) → Plain (decimal n)
unfolding digits
number n = record { is = onto 64 n [] refl }

digit : (i : ℕ) → is_plain (slice_index lower_digits i) ≡ true
digit i = by (nat_lt i 16) refl (is_plain (slice_index lower_digits i)) refl where
  by : (t : Bool) → nat_lt i 16 ≡ t → (b : Bool) → is_plain (slice_index lower_digits i) ≡ b → b ≡ true
  by t e true q = refl
  by true e false q =
      (let z : true ≡ false = list_all_at is_plain lower_digits i 0 (ltb-true i 16 e) q in cc)
  by false e false q =
      (let z : true ≡ false = sym (ap is_plain (get_or_past lower_digits i 0 (ltb-false i 16 e))) ∙ q in cc)

hex_digits_of : (bytes : List ℕ) → Digits (encode_lower bytes)
unfolding encode_with
hex_digits_of [] = refl
hex_digits_of (b ∷ bytes) =
    both (is_plain (slice_index lower_digits (b / 16)))
    (is_plain (slice_index lower_digits (b % 16)) && list_all is_plain (encode_lower bytes)) (digit (b / 16))
    (both (is_plain (slice_index lower_digits (b % 16))) (list_all is_plain (encode_lower bytes)) (digit (b % 16))
    (hex_digits_of bytes))

hex : (bytes : List ℕ) → Plain (encode_lower bytes)
hex bytes = record { is = hex_digits_of bytes }

nibble_digits : (count value : ℕ) → Digits (hex_digits count value)
unfolding hex_digits
nibble_digits zero value = refl
nibble_digits (suc count) value =
    both (is_plain (slice_index lower_digits (nibble_at value count))) (list_all is_plain (hex_digits count value))
    (digit (nibble_at value count)) (nibble_digits count value)

nibbles : (count value : ℕ) → Plain (hex_digits count value)
nibbles count value = record { is = nibble_digits count value }

-- items of an ITM source
value_plain : (size : Size) (value : ℕ) → Plain (value_text size value)
value_plain One value = word (codes "u8 ") _ refl (hex (to_be_bytes w8 value))
value_plain Two value = word (codes "u16 ") _ refl (hex (to_be_bytes w16 value))
value_plain Four value = word (codes "u32 ") _ refl (hex (to_be_bytes w32 value))

lateness_plain : (l : Lateness) → Plain (lateness_text l)
lateness_plain Exact = record { is = refl }
lateness_plain l = record { is = refl }

flag_plain : (b : Bool) → Plain (flag_text b)
flag_plain true = record { is = refl }
flag_plain false = record { is = refl }

bits_plain : (wide : Bool) → Plain (if wide then codes "64" else codes "48")
bits_plain true = record { is = refl }
bits_plain false = record { is = refl }

owner_plain : (dwt : Bool) → Plain (if dwt then codes "dwt" else codes "itm")
owner_plain true = record { is = refl }
owner_plain false = record { is = refl }

change_plain : (c : Change) → Plain (change_text c)
change_plain Enter = record { is = refl }
change_plain c = record { is = refl }

-- `cmp C`, a word and a value
comparator_plain : (c : ℕ) (tag rest : List ℕ) → Plain tag → Plain rest →
    Plain ((codes "cmp " ++ (decimal c ++ tag)) ++ rest)
comparator_plain c tag rest e f =
    join (codes "cmp " ++ (decimal c ++ tag)) rest
    (word (codes "cmp ") (decimal c ++ tag) refl (join (decimal c) tag (number c) e)) f

hardware_plain : (item : DwtItem) → Plain (hardware_text item)
hardware_plain (Counters counters) = word (codes "counters ") _ refl (hex (counters ∷ []))
hardware_plain (Exception n change) =
    word (codes "exception ") _ refl (join (decimal n) _ (number n) (change_plain change))
hardware_plain (Sample pc) = word (codes "pc ") _ refl (hex (to_be_bytes w32 pc))
hardware_plain Asleep = record { is = refl }
hardware_plain (MatchPc c pc) = comparator_plain c (codes " pc ") _ (record { is = refl }) (hex (to_be_bytes w32 pc))
hardware_plain (MatchAddress c low) =
    comparator_plain c (codes " addr ") _ (record { is = refl }) (hex (to_be_bytes w16 low))
hardware_plain (Read c size value) =
    comparator_plain c (codes " read ") _ (record { is = refl }) (value_plain size value)
hardware_plain (Written c size value) =
    comparator_plain c (codes " write ") _ (record { is = refl }) (value_plain size value)
hardware_plain (Other disc size value) =
    word (codes "hw ") _ refl (join (decimal disc) _ (number disc) (word (codes " ") _ refl (value_plain size value)))

item_plain : (packet : ItmPacket) → Plain (item_text packet)
item_plain Sync = record { is = refl }
item_plain Overflow = record { is = refl }
item_plain (Software port size value) =
    word (codes "port ") _ refl (join (decimal port) _ (number port) (word (codes " ") _ refl (value_plain size value)))
item_plain (Hardware disc size value) = hardware_plain (name disc size value)
item_plain (Local lateness delta) =
    word (codes "local ") _ refl (join (lateness_text lateness) _ (lateness_plain lateness)
    (word (codes " ") _ refl (number delta)))
item_plain (GlobalFirst len value change wrap) =
    word (codes "global1 ") _ refl (join (decimal len) _ (number len) (word (codes " ") _ refl
    (join (decimal value) _ (number value) (word (codes " ") _ refl (join (flag_text change) _ (flag_plain change)
    (word (codes " ") _ refl (flag_plain wrap)))))))
item_plain (GlobalSecond wide value) =
    word (codes "global2 ") _ refl (join (if wide then codes "64" else codes "48") _ (bits_plain wide)
    (word (codes " ") _ refl (number value)))
item_plain (Extension dwt value) =
    word (codes "ext ") _ refl (join (if dwt then codes "dwt" else codes "itm") _ (owner_plain dwt)
    (word (codes " ") _ refl (hex (to_be_bytes w32 value))))

-- items of a system trace
known_plain : (o : Option ℕ) → Plain (known_text o)
known_plain None = record { is = refl }
known_plain (Some n) = number n

place_plain : (place : StpPlace) → Plain (place_text place)
place_plain place = join (known_text place.master) _ (known_plain place.master)
    (word (codes " ") _ refl (known_plain place.channel))

width_plain : (w : Width) → Plain (width_text w)
width_plain FourBits = record { is = refl }
width_plain w = record { is = refl }

mark_plain : (b : Bool) → Plain (mark_text b)
mark_plain true = record { is = refl }
mark_plain false = record { is = refl }

stamp_plain : (s : Stamp) → Plain (stamp_text s)
stamp_plain NoStamp = record { is = refl }
stamp_plain (Natural time) = word (codes "n=") _ refl (number time)
stamp_plain (Gray time) = word (codes "g=") _ refl (number time)
stamp_plain (RawStamp size value) = word (codes "r=") _ refl (nibbles (nibble_count size) value)

datum_plain : (w : Width) (value : ℕ) → Plain (width_text w ++ (codes " " ++ hex_digits (bits_of w / 4) value))
datum_plain w value = join (width_text w) _ (width_plain w) (word (codes " ") _ refl (nibbles (bits_of w / 4) value))

stp_plain : (item : StpItem) → Plain (stp_text item)
stp_plain Async = record { is = refl }
stp_plain (Version version) = word (codes "version ") _ refl (number version)
stp_plain (MasterError place code) =
    word (codes "merr ") _ refl (join (place_text place) _ (place_plain place)
    (word (codes " ") _ refl (hex (code ∷ []))))
stp_plain (GlobalError code) = word (codes "gerr ") _ refl (hex (code ∷ []))
stp_plain (Datum place width value marked stamp) =
    word (codes "data ") _ refl (join (place_text place) _ (place_plain place) (word (codes " ") _ refl
    (join (width_text width ++ (codes " " ++ hex_digits (bits_of width / 4) value)) _ (datum_plain width value)
    (word (codes " ") _ refl
    (join (mark_text marked) _ (mark_plain marked) (word (codes " ") _ refl (stamp_plain stamp)))))))
stp_plain (Flag place stamp) =
    word (codes "flag ") _ refl (join (place_text place) _ (place_plain place)
    (word (codes " ") _ refl (stamp_plain stamp)))
stp_plain (StpTrigger code stamp) =
    word (codes "trig ") _ refl (join (encode_lower (code ∷ [])) _ (hex (code ∷ []))
    (word (codes " ") _ refl (stamp_plain stamp)))
stp_plain (Frequency hertz stamp) =
    word (codes "freq ") _ refl (join (decimal hertz) _ (number hertz) (word (codes " ") _ refl (stamp_plain stamp)))
stp_plain (NullStamp stamp) = word (codes "nullts ") _ refl (stamp_plain stamp)

-- lines
what_plain : (what : What Packet) → Plain (what_text what)
what_plain (Locked skipped) = word (codes "locked ") _ refl (number skipped)
what_plain (Said (Itm packet)) = item_plain packet
what_plain (Said (Stp item)) = stp_plain item
what_plain (Raw bytes) = word (codes "raw ") _ refl (hex bytes)
what_plain (Trigger byte) = word (codes "trigger ") _ refl (hex (byte ∷ []))

half_plain : (stp : Bool) (half : ℕ) → Plain (if stp then codes "." ++ decimal half else [])
half_plain true half = word (codes ".") _ refl (number half)
half_plain false half = record { is = refl }

at_plain : (stp : Bool) (place : Place) → Plain (at_text stp place)
at_plain stp place = join (decimal place.at) _ (number place.at) (half_plain stp place.half)

source_plain : (source : Option ℕ) → Plain (source_text source)
source_plain None = record { is = refl }
source_plain (Some id) = number id

name_plain : (reason : Reason) → Plain (name_of reason)
name_plain BadSync = record { is = refl }
name_plain reason = record { is = refl }

pub fault_unmarked : (stp : Bool) (f : Place × (Reason × Option ℕ)) → is_marked (fault_line stp f) ≡ false
fault_unmarked stp f =
    plain_line (fault_line stp f)
    (word (codes "fault ") _ refl (join (at_text stp f.0) _ (at_plain stp f.0) (word (codes " ") _ refl
    (join (source_text f.1.1) _ (source_plain f.1.1) (word (codes " ") _ refl
    (join (decimal (number_of f.1.0)) _ (number (number_of f.1.0)) (word (codes " ") _ refl
    (join (name_of f.1.0) (codes "\n") (name_plain f.1.0) (record { is = refl })))))))))

module _ (stp : Bool) (event : Event Packet) where
  with_rest : (rest : List ℕ) → Plain rest → Plain (at_text stp (place_of event) ++ (codes " "
      ++ (source_text event.source ++ (codes " " ++ (what_text event.what ++ rest)))))
  with_rest rest e =
      join (at_text stp (place_of event)) _ (at_plain stp (place_of event)) (word (codes " ") _ refl
      (join (source_text event.source) _ (source_plain event.source) (word (codes " ") _ refl
      (join (what_text event.what) rest (what_plain event.what) e))))

  six : (a b c d e f z : List ℕ) → a ++ (b ++ (c ++ (d ++ (e ++ (f ++ z))))) ≡ (a ++ (b ++ (c ++ (d ++ (e ++ f))))) ++ z
  six a b c d e f z =
      ap (λ l. a ++ (b ++ (c ++ (d ++ l)))) (sym (append_assoc e f z))
      ∙ ap (λ l. a ++ (b ++ (c ++ l))) (sym (append_assoc d (e ++ f) z))
      ∙ ap (λ l. a ++ (b ++ l)) (sym (append_assoc c (d ++ (e ++ f)) z))
      ∙ ap (λ l. a ++ l) (sym (append_assoc b (c ++ (d ++ (e ++ f))) z))
      ∙ sym (append_assoc a (b ++ (c ++ (d ++ (e ++ f)))) z)

  pub event_unmarked : (remark : Remark) → is_marked (event_line stp event remark) ≡ false
  event_unmarked NoRemark = plain_line (event_line stp event NoRemark) (with_rest (codes "\n") (record { is = refl }))
  event_unmarked (Clock ticks) =
      plain_line (event_line stp event (Clock ticks)) (with_rest ((codes " clock=" ++ decimal ticks) ++ codes "\n")
      (join (codes " clock=" ++ decimal ticks) (codes "\n") (word (codes " clock=") _ refl (number ticks))
      (record { is = refl })))
  event_unmarked (Time (Some time)) =
      plain_line (event_line stp event (Time (Some time))) (with_rest ((codes " time=" ++ decimal time) ++ codes "\n")
      (join (codes " time=" ++ decimal time) (codes "\n") (word (codes " time=") _ refl (number time))
      (record { is = refl })))
  event_unmarked (Time None) =
      ap is_marked (six (at_text stp (place_of event)) (codes " ") (source_text event.source) (codes " ")
      (what_text event.what) (codes " time") (codes "=?\n"))
      ∙ unknown_line (at_text stp (place_of event) ++ (codes " " ++ (source_text event.source
      ++ (codes " " ++ (what_text event.what ++ codes " time")))))

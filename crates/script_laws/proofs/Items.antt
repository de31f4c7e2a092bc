-- The items of the table: the shape and the values of each, and that its row makes it of them, and no other.
use Rattle.std.proofs.Common.{◌≡◌, ℕ, zero, suc, ◌-◌, ◌*◌, ◌/◌, ◌%◌, ◌<◌, ◌≤◌, ◌^◌, List, [], ◌∷◌, ◌++◌, refl, sym, ◌∙◌}
use Rattle.std.proofs.Common.{ap, arith, append_assoc, Bool, true, false, Option, Some, decimal, codes, ◌==◌, nat_le}
use Rattle.std.proofs.Common.{IsSome, rules, if◌then◌else◌}
use Rattle.std.specs.Int.{to_be_bytes, w16, w32}
use Rattle.hex.specs.Hex.{encode_lower}
use Rattle.itm_grammar.specs.declared.packet.Size.{Size}
use Rattle.itm_grammar.specs.declared.packet.Size.TheVariants.{One}
use Rattle.itm_grammar.specs.declared.packet.ItmPacket.TheVariants as itm
use Rattle.dwt_packets.specs.declared.item.DwtItem.TheVariants as dwt
use Rattle.dwt_packets.proofs.Inverses.{in_range, inverse}
use Rattle.stp_grammar.specs.declared.packet.Width.{Width}
use Rattle.stp_grammar.specs.declared.item.Place.{Place}
use Rattle.stp_grammar.specs.declared.item.StpItem.TheVariants as stp
use Rattle.trace_text.specs.Values.{value_text}
use Rattle.trace_text.specs.ItemText.{item_text, flag_text}
use Rattle.trace_text.proofs.HexNibbles.{encoded}
use Rattle.script_text.specs.declared.shapes.Shape.TheVariants as shapes
use Rattle.script_text.specs.declared.itm_shapes.ItmShape.TheVariants as itm_shapes
use Rattle.script_text.specs.declared.dwt_shapes.DwtShape.TheVariants as dwt_shapes
use Rattle.script_text.specs.declared.stp_shapes.StpShape.TheVariants as stp_shapes
use Rattle.script_laws.proofs.Joining.{joined}
use Rattle.std.specs.Option.{ForSome}
use Rattle.std.proofs.lemmas.Bool.Decides.{nat_tests}
use Rattle.std.proofs.lemmas.Fmt.{decimal_digit}
use Rattle.script_laws.specs.Names.{Two, Four, ItmPacket, IsInRange, Enter, DwtItem, bits_of, StpItem, IsProperItem}
use Rattle.script_laws.specs.Names.{hex_digits, hardware_text, known_text, place_text, width_text}
use Rattle.script_laws.specs.Names.{mark_text, stamp_text, stp_text, Shape, ItmShape, DwtShape, StpShape, Item, Itm}
use Rattle.script_laws.specs.Names.{Dwt, Stp, Raw, IsProper, first_bits, second_bits, packet, Stamp, Natural, Gray}
use Rattle.script_laws.specs.Names.{text_of, IsSaidItm, IsSaidStp, IsSayable, Known, Fits, Values, AllFit, fields_in}
use Rattle.script_laws.specs.Names.{made_in, size_word, itm_row, dwt_row, stp_row, raw_row, is_first, unnamed}
use Rattle.script_laws.specs.Names.{null_stamp}
use Rattle.itm_grammar.specs.Spelling.{byte_count}
use Rattle.dwt_packets.specs.Table.{name}
use Rattle.dwt_packets.proofs.FirstRow.{no_row}
use Rattle.stp_grammar.specs.declared.item.Stamp.TheVariants.{None as NoStamp, Raw as RawStamp}
use Rattle.script_text.proofs.Options.{some_of, chosen_some}
use Rattle.script_text.proofs.Ranges.{unnamed_is, value_small as size_small}
use Rattle.script_laws.proofs.Fields.{row_words}

-- the shape of an item, and its values
abbrev pub itm_shape : ItmPacket → ItmShape
itm_shape itm.Sync = itm_shapes.Sync
itm_shape itm.Overflow = itm_shapes.Overflow
itm_shape (itm.Software port size value) = itm_shapes.Software size
itm_shape (itm.Hardware disc size value) = itm_shapes.Sync
itm_shape (itm.Local lateness delta) = itm_shapes.Local lateness
itm_shape (itm.GlobalFirst len value change wrap) = itm_shapes.GlobalFirst
itm_shape (itm.GlobalSecond wide value) = itm_shapes.GlobalSecond wide
itm_shape (itm.Extension dwt value) = itm_shapes.Extension dwt

abbrev pub dwt_shape : DwtItem → DwtShape
dwt_shape (dwt.Counters counters) = dwt_shapes.Counters
dwt_shape (dwt.Exception number change) = dwt_shapes.Exception change
dwt_shape (dwt.Sample pc) = dwt_shapes.Sample
dwt_shape dwt.Asleep = dwt_shapes.Asleep
dwt_shape (dwt.MatchPc comparator pc) = dwt_shapes.MatchPc
dwt_shape (dwt.MatchAddress comparator low) = dwt_shapes.MatchAddress
dwt_shape (dwt.Read comparator size value) = dwt_shapes.Read size
dwt_shape (dwt.Written comparator size value) = dwt_shapes.Written size
dwt_shape (dwt.Other disc size value) = dwt_shapes.Other size

abbrev pub stp_shape : StpItem → StpShape
stp_shape stp.Async = stp_shapes.Async
stp_shape (stp.Version version) = stp_shapes.Version
stp_shape (stp.MasterError place code) = stp_shapes.MasterError
stp_shape (stp.GlobalError code) = stp_shapes.GlobalError
stp_shape (stp.Datum place width value marked stamp) = stp_shapes.Datum width marked
stp_shape (stp.Flag place stamp) = stp_shapes.Flag
stp_shape (stp.Trigger code stamp) = stp_shapes.Trigger
stp_shape (stp.Frequency hertz stamp) = stp_shapes.Frequency
stp_shape (stp.NullStamp stamp) = stp_shapes.NullStamp

abbrev pub shape_of : Item → Shape
shape_of (Itm packet) = shapes.Itm (itm_shape packet)
shape_of (Dwt item) = shapes.Dwt (dwt_shape item)
shape_of (Stp item) = shapes.Stp (stp_shape item)
shape_of (Raw bytes) = shapes.Raw

abbrev bit : Bool → ℕ
bit true = 1
bit false = 0

abbrev pub itm_values : (packet : ItmPacket) → Values (fields_in (itm_row (itm_shape packet)))
itm_values itm.Sync = tt
itm_values itm.Overflow = tt
itm_values (itm.Software port size value) = (port, (value, tt))
itm_values (itm.Hardware disc size value) = tt
itm_values (itm.Local lateness delta) = (delta, tt)
itm_values (itm.GlobalFirst len value change wrap) = (len, (value, (bit change, (bit wrap, tt))))
itm_values (itm.GlobalSecond wide value) = (value, tt)
itm_values (itm.Extension dwt value) = (value, tt)

abbrev pub dwt_values : (item : DwtItem) → Values (fields_in (dwt_row (dwt_shape item)))
dwt_values (dwt.Counters counters) = (counters, tt)
dwt_values (dwt.Exception number change) = (number, tt)
dwt_values (dwt.Sample pc) = (pc, tt)
dwt_values dwt.Asleep = tt
dwt_values (dwt.MatchPc comparator pc) = (comparator, (pc, tt))
dwt_values (dwt.MatchAddress comparator low) = (comparator, (low, tt))
dwt_values (dwt.Read comparator size value) = (comparator, (value, tt))
dwt_values (dwt.Written comparator size value) = (comparator, (value, tt))
dwt_values (dwt.Other disc size value) = (disc, (value, tt))

abbrev pub stp_values : (item : StpItem) → Values (fields_in (stp_row (stp_shape item)))
stp_values stp.Async = tt
stp_values (stp.Version version) = (version, tt)
stp_values (stp.MasterError place code) = (place.master, (place.channel, (code, tt)))
stp_values (stp.GlobalError code) = (code, tt)
stp_values (stp.Datum place width value marked stamp) = (place.master, (place.channel, (value, (stamp, tt))))
stp_values (stp.Flag place stamp) = (place.master, (place.channel, (stamp, tt)))
stp_values (stp.Trigger code stamp) = (code, (stamp, tt))
stp_values (stp.Frequency hertz stamp) = (hertz, (stamp, tt))
stp_values (stp.NullStamp stamp) = (stamp, tt)

-- and its words
abbrev pub itm_words : ItmPacket → List (List ℕ)
itm_words packet = row_words (itm_row (itm_shape packet)) (itm_values packet)

abbrev pub dwt_words : DwtItem → List (List ℕ)
dwt_words item = row_words (dwt_row (dwt_shape item)) (dwt_values item)

abbrev pub stp_words : StpItem → List (List ℕ)
stp_words item = row_words (stp_row (stp_shape item)) (stp_values item)

abbrev pub words_of : Item → List (List ℕ)
words_of (Itm packet) = itm_words packet
words_of (Dwt item) = dwt_words item
words_of (Stp item) = stp_words item
words_of (Raw bytes) = row_words raw_row (bytes, tt)

-- the values are in their ranges
bit_small : (flag : Bool) → bit flag ≤ 1
bit_small flag = search rules

pub value_small : (len value : ℕ) → len ≤ 4 → value < 2 ^ first_bits len → value < 2 ^ 26
value_small (suc (suc (suc (suc (suc n))))) value l h = absurd (omega arith)
value_small len value l h = omega arith

size_fits : (size : Size) (value : ℕ) → value < 256 ^ byte_count size → value < 16 ^ (2 * byte_count size)
size_fits size value h = grind arith

width_fits : (width : Width) (value : ℕ) → value < 2 ^ bits_of width → value < 16 ^ (bits_of width / 4)
width_fits width value h = grind arith

second_small : (wide : Bool) (value : ℕ) → value < 2 ^ second_bits wide → value ≤ 2 ^ second_bits wide - 1
second_small wide value h = grind arith

known_fits : (o : Option ℕ) → ForSome o (λ n. n < 2 ^ 16) → IsSome o → Fits (Known 65535) o
known_fits o h k = (k, λ n e. let l = h n e in omega arith)

pub itm_fit : (packet : ItmPacket) → IsProper packet →
    AllFit (fields_in (itm_row (itm_shape packet))) (itm_values packet)
itm_fit itm.Sync h = tt
itm_fit itm.Overflow h = tt
itm_fit (itm.Software port size value) h = ((let k = h.0 in omega arith), (size_fits size value h.1, tt))
itm_fit (itm.Hardware disc size value) h = tt
itm_fit (itm.Local lateness delta) h = ((let k : delta < 2 ^ 28 = h in omega arith), tt)
itm_fit (itm.GlobalFirst len value change wrap) h =
    (h.1, ((let k = value_small len value h.1 h.2 in omega arith), (bit_small change, (bit_small wrap, tt))))
itm_fit (itm.GlobalSecond wide value) h = (second_small wide value h, tt)
itm_fit (itm.Extension dwt value) h = ((let k : value < 2 ^ 32 = h in omega arith), tt)

pub dwt_fit : (item : DwtItem) → IsInRange item → AllFit (fields_in (dwt_row (dwt_shape item))) (dwt_values item)
dwt_fit (dwt.Counters counters) h = ((let k : counters < 64 = h in omega arith), tt)
dwt_fit (dwt.Exception number change) h = ((let k : number < 2 ^ 9 = h in omega arith), tt)
dwt_fit (dwt.Sample pc) h = ((let k : pc < 2 ^ 32 = h in omega arith), tt)
dwt_fit dwt.Asleep h = tt
dwt_fit (dwt.MatchPc comparator pc) h = ((let k = h.0 in omega arith), ((let k = h.1 in omega arith), tt))
dwt_fit (dwt.MatchAddress comparator low) h = ((let k = h.0 in omega arith), ((let k = h.1 in omega arith), tt))
dwt_fit (dwt.Read comparator size value) h = ((let k = h.0 in omega arith), (size_fits size value h.1, tt))
dwt_fit (dwt.Written comparator size value) h = ((let k = h.0 in omega arith), (size_fits size value h.1, tt))
dwt_fit (dwt.Other disc size value) h = ((let k = h.0.0 in omega arith), (size_fits size value h.0.1, tt))

pub stp_fit : (item : StpItem) → IsProperItem item → IsSaidStp item →
    AllFit (fields_in (stp_row (stp_shape item))) (stp_values item)
stp_fit stp.Async h k = tt
stp_fit (stp.Version version) h k = ((let l : version < 2 ^ 4 = h in omega arith), tt)
stp_fit (stp.MasterError place code) h k =
    (known_fits place.master h.0.0 k.0, (known_fits place.channel h.0.1 k.1, ((let l = h.1 in omega arith), tt)))
stp_fit (stp.GlobalError code) h k = ((let l : code < 2 ^ 8 = h in omega arith), tt)
stp_fit (stp.Datum place width value marked stamp) h k =
    (known_fits place.master h.0.0 k.0, (known_fits place.channel h.0.1 k.1, (width_fits width value h.1, (h.2, tt))))
stp_fit (stp.Flag place stamp) h k = (
  known_fits place.master h.0.0 k.0,
  (known_fits place.channel h.0.1 k.1, (h.1, tt)),
)
stp_fit (stp.Trigger code stamp) h k = ((let l = h.0 in omega arith), (h.1, tt))
stp_fit (stp.Frequency hertz stamp) h k = ((let l = h.0 in omega arith), (h.1, tt))
stp_fit (stp.NullStamp stamp) h k = (h, tt)

-- the row makes the item of them
bit_back : (flag : Bool) → (bit flag == 1) ≡ flag
bit_back flag = search rules

first_fits : (len value : ℕ) (change wrap : Bool) → IsProper (itm.GlobalFirst len value change wrap) →
    is_first len value change wrap ≡ true
first_fits zero value change wrap h = absurd (let k = h.0 in omega arith)
first_fits (suc zero) value change wrap h = let v = h.2 in let f = h.3 (omega arith) in
    rw (f.0, f.1) (grind (arith, nat_tests))
first_fits (suc (suc zero)) value change wrap h = let v = h.2 in let f = h.3 (omega arith) in
    rw (f.0, f.1) (grind (arith, nat_tests))
first_fits (suc (suc (suc zero))) value change wrap h = let v = h.2 in let f = h.3 (omega arith) in
    rw (f.0, f.1) (grind (arith, nat_tests))
first_fits (suc (suc (suc (suc zero)))) value change wrap h = let v = h.2 in grind (arith, nat_tests)
first_fits (suc (suc (suc (suc (suc n))))) value change wrap h = absurd (let k = h.1 in omega arith)

pub itm_made : (packet : ItmPacket) → IsProper packet → IsSaidItm packet →
    made_in (itm_row (itm_shape packet)) (itm_values packet) ≡ Some packet
itm_made (itm.Hardware disc size value) h n = absurd n
itm_made (itm.GlobalFirst len value change wrap) h n =
    let c = bit_back change in
    let w = bit_back wrap in
    let f = first_fits len value change wrap h in
    rw (c, w, f) refl
itm_made packet h n = refl

pub dwt_made : (item : DwtItem) → IsInRange item → made_in (dwt_row (dwt_shape item)) (dwt_values item) ≡ Some item
dwt_made (dwt.Counters counters) h = let e : nat_le counters 63 ≡ true =
    (let k : counters < 64 = h in grind (arith, nat_tests)) in rw e refl
dwt_made (dwt.Other disc size value) h = ap unnamed (no_row disc size value h.1)
dwt_made item h = refl

pub stp_made : (item : StpItem) → IsSaidStp item → made_in (stp_row (stp_shape item)) (stp_values item) ≡ Some item
stp_made (stp.NullStamp NoStamp) k = absurd k
stp_made item k = refl

-- and makes no other
bit_of : (n : ℕ) → n ≤ 1 → bit (n == 1) ≡ n
bit_of zero h = refl
bit_of (suc zero) h = refl
bit_of (suc (suc n)) h = absurd (omega arith)

pub itm_back : (shape : ItmShape) (values : Values (fields_in (itm_row shape))) (packet : ItmPacket) →
    AllFit (fields_in (itm_row shape)) values →
    made_in (itm_row shape) values ≡ Some packet → row_words (itm_row shape) values ≡ itm_words packet
itm_back itm_shapes.GlobalFirst (len, (value, (change, (wrap, end)))) packet h e =
    let f = chosen_some (is_first len value (change == 1) (wrap == 1))
    (itm.GlobalFirst len value (change == 1) (wrap == 1)) packet e in
    let c = bit_of change h.1.1.0 in
    let w = bit_of wrap h.1.1.1.0 in
    ap (λ n. codes "global1" ∷ (decimal len ∷ (decimal value ∷ (decimal n ∷ (decimal wrap ∷ []))))) (sym c)
    ∙ ap (λ n. codes "global1" ∷ (decimal len ∷ (decimal value ∷ (decimal (bit (change == 1)) ∷ (decimal n ∷ [])))))
    (sym w)
    ∙ ap itm_words f.1
itm_back shape v packet h e = ap itm_words (some_of _ packet e)

other_words : (item : DwtItem) (d : ℕ) (s : Size) (v : ℕ) → unnamed item ≡ Some item → packet item ≡ (d, s, v) →
    row_words (dwt_row (dwt_shapes.Other s)) (d, (v, tt)) ≡ dwt_words item
other_words (dwt.Other disc size value) d s v u e =
    ap (λ (p : ℕ × Size × ℕ). row_words (dwt_row (dwt_shapes.Other p.1)) (p.0, (p.2, tt))) (sym e)
other_words item d s v u e = cc

pub dwt_back : (shape : DwtShape) (values : Values (fields_in (dwt_row shape))) (item : DwtItem) →
    AllFit (fields_in (dwt_row shape)) values →
    made_in (dwt_row shape) values ≡ Some item → row_words (dwt_row shape) values ≡ dwt_words item
dwt_back dwt_shapes.Counters (bits, end) item h e =
    ap dwt_words (chosen_some (nat_le bits 63) (dwt.Counters bits) item e).1
dwt_back (dwt_shapes.Other size) (disc, (value, end)) item h e =
    let named = unnamed_is (name disc size value) item e in
    let back : packet item ≡ (disc, size, value) = ap packet (sym named)
    ∙ (inverse disc size value (let k = h.0 in omega arith) (size_small size value h.1.0)).0 in
    other_words item disc size value (ap unnamed (sym named) ∙ e) back
dwt_back shape v item h e = ap dwt_words (some_of _ item e)

null_is : (stamp : Stamp) (item : StpItem) → null_stamp stamp ≡ Some item → stp.NullStamp stamp ≡ item
null_is NoStamp item e = cc
null_is (Natural time) item e = some_of (stp.NullStamp (Natural time)) item e
null_is (Gray time) item e = some_of (stp.NullStamp (Gray time)) item e
null_is (RawStamp size word) item e = some_of (stp.NullStamp (RawStamp size word)) item e

pub stp_back : (shape : StpShape) (values : Values (fields_in (stp_row shape))) (item : StpItem) →
    made_in (stp_row shape) values ≡ Some item → row_words (stp_row shape) values ≡ stp_words item
stp_back stp_shapes.NullStamp (stamp, end) item e = ap stp_words (null_is stamp item e)
stp_back shape v item e = ap stp_words (some_of _ item e)

flag_is : (flag : Bool) → flag_text flag ≡ decimal (bit flag)
flag_is true = sym (decimal_digit 1 (omega arith))
flag_is false = sym (decimal_digit 0 (omega arith))

-- bytes of a number, and the digits of its nibbles
value_is : (size : Size) (v : ℕ) → value_text size v ≡ joined (size_word size
    ∷ (hex_digits (2 * byte_count size) v ∷ []))
value_is One v = ap (λ d. codes "u8 " ++ d) (encoded 1 v)
value_is Two v = ap (λ d. codes "u16 " ++ d) (encoded 2 v)
value_is Four v = ap (λ d. codes "u32 " ++ d) (encoded 4 v)

pub byte_is : (v : ℕ) → v < 256 → encode_lower (v ∷ []) ≡ hex_digits 2 v
byte_is v h =
    let small : v ≡ v % 256 = omega arith in
    ap (λ b. encode_lower (b ∷ [])) small ∙ encoded 1 v

-- a word, a number and a value
value_joined : (front : List ℕ) (size : Size) (n v : ℕ) → front
    ++ (32 ∷ (decimal n ++ (32 ∷ value_text size v))) ≡ joined (front
    ∷ (decimal n ∷ size_word size ∷ (hex_digits (2 * byte_count size) v ∷ [])))
value_joined front One n v = ap (λ d. front ++ (32 ∷ (decimal n ++ (32 ∷ d)))) (value_is One v)
value_joined front size n v = ap (λ d. front ++ (32 ∷ (decimal n ++ (32 ∷ d)))) (value_is size v)

compared : (n : ℕ) (word rest : List ℕ) → (codes "cmp " ++ (decimal n ++ (32 ∷ (word ++ (32 ∷ [])))))
    ++ rest ≡ codes "cmp " ++ (decimal n ++ (32 ∷ (word ++ (32 ∷ rest))))
compared n word rest =
    append_assoc (codes "cmp ") (decimal n ++ (32 ∷ (word ++ (32 ∷ [])))) rest
    ∙ ap (λ (l : List ℕ). codes "cmp " ++ l) (append_assoc (decimal n) (32 ∷ (word ++ (32 ∷ []))) rest
    ∙ ap (λ (l : List ℕ). decimal n ++ (32 ∷ l)) (append_assoc word (32 ∷ []) rest))

accessed : (n : ℕ) (word : List ℕ) (size : Size) (v : ℕ) →
    (codes "cmp " ++ (decimal n ++ (32 ∷ (word ++ (32 ∷ [])))))
    ++ value_text size v ≡ joined (codes "cmp"
    ∷ (decimal n ∷ (word ∷ size_word size ∷ (hex_digits (2 * byte_count size) v ∷ []))))
accessed n word One v = compared n word (value_text One v)
    ∙ ap (λ d. codes "cmp " ++ (decimal n ++ (32 ∷ (word ++ (32 ∷ d))))) (value_is One v)
accessed n word size v = compared n word (value_text size v)
    ∙ ap (λ d. codes "cmp " ++ (decimal n ++ (32 ∷ (word ++ (32 ∷ d))))) (value_is size v)

pub itm_joined : (packet : ItmPacket) → IsSaidItm packet → item_text packet ≡ joined (itm_words packet)
itm_joined (itm.Software port size value) h = value_joined (codes "port") size port value
itm_joined (itm.Hardware disc size value) h = absurd h
itm_joined (itm.GlobalFirst len value change wrap) h =
    ap (λ d. codes "global1 " ++ (decimal len ++ (32 ∷ (decimal value ++ (32 ∷ (d ++ (32 ∷ flag_text wrap)))))))
    (flag_is change)
    ∙ ap (λ d. codes "global1 " ++ (decimal len ++ (32 ∷ (decimal value ++ (32 ∷ (decimal (bit change) ++ (32 ∷ d)))))))
    (flag_is wrap)
itm_joined (itm.Extension dwt value) h =
    ap (λ d. codes "ext " ++ ((if dwt then codes "dwt" else codes "itm") ++ (codes " " ++ d))) (encoded 4 value)
itm_joined packet h = refl

pub dwt_joined : (item : DwtItem) → IsInRange item → hardware_text item ≡ joined (dwt_words item)
dwt_joined (dwt.Counters counters) h =
    let k : counters < 64 = h in
    ap (λ d. codes "counters " ++ d) (byte_is counters (omega arith))
dwt_joined (dwt.Exception number Enter) h = refl
dwt_joined (dwt.Sample pc) h = ap (λ d. codes "pc " ++ d) (encoded 4 pc)
dwt_joined (dwt.MatchPc comparator pc) h =
    compared comparator (codes "pc") (encode_lower (to_be_bytes w32 pc))
    ∙ ap (λ d. codes "cmp " ++ (decimal comparator ++ (32 ∷ (codes "pc" ++ (32 ∷ d))))) (encoded 4 pc)
dwt_joined (dwt.MatchAddress comparator low) h =
    compared comparator (codes "addr") (encode_lower (to_be_bytes w16 low))
    ∙ ap (λ d. codes "cmp " ++ (decimal comparator ++ (32 ∷ (codes "addr" ++ (32 ∷ d))))) (encoded 2 low)
dwt_joined (dwt.Read comparator size value) h = accessed comparator (codes "read") size value
dwt_joined (dwt.Written comparator size value) h = accessed comparator (codes "write") size value
dwt_joined (dwt.Other disc size value) h = value_joined (codes "hw") size disc value
dwt_joined item h = refl

place_joined : (place : Place) (rest : List ℕ) → place_text place ++ (32 ∷ rest) ≡ known_text place.master
    ++ (32 ∷ (known_text place.channel ++ (32 ∷ rest)))
place_joined place rest = append_assoc (known_text place.master) (32 ∷ known_text place.channel) (32 ∷ rest)

datum_joined : (width : Width) (value : ℕ) (rest : List ℕ) →
    (width_text width ++ (32 ∷ hex_digits (bits_of width / 4) value)) ++ (32 ∷ rest) ≡ width_text width
    ++ (32 ∷ (hex_digits (bits_of width / 4) value ++ (32 ∷ rest)))
datum_joined width value rest = append_assoc (width_text width) (32 ∷ hex_digits (bits_of width / 4) value) (32 ∷ rest)

pub stp_joined : (item : StpItem) → IsProperItem item → stp_text item ≡ joined (stp_words item)
stp_joined (stp.MasterError place code) h =
    ap (λ d. codes "merr " ++ (place_text place ++ (32 ∷ d))) (byte_is code h.1)
    ∙ ap (λ d. codes "merr " ++ d) (place_joined place (hex_digits 2 code))
stp_joined (stp.GlobalError code) h = ap (λ d. codes "gerr " ++ d) (byte_is code h)
stp_joined (stp.Datum place width value marked stamp) h =
    ap (λ d. codes "data " ++ (place_text place ++ (32 ∷ d)))
    (datum_joined width value (mark_text marked ++ (32 ∷ stamp_text stamp)))
    ∙ ap (λ d. codes "data " ++ d) (place_joined place (width_text width
    ++ (32 ∷ (hex_digits (bits_of width / 4) value ++ (32 ∷ (mark_text marked ++ (32 ∷ stamp_text stamp)))))))
stp_joined (stp.Flag place stamp) h = ap (λ d. codes "flag " ++ d) (place_joined place (stamp_text stamp))
stp_joined (stp.Trigger code stamp) h = ap (λ d. codes "trig " ++ (d ++ (32 ∷ stamp_text stamp))) (byte_is code h.0)
stp_joined item h = refl

pub text_joined : (item : Item) → IsSayable item → text_of item ≡ joined (words_of item)
text_joined (Itm packet) h = itm_joined packet h.1
text_joined (Dwt item) h = dwt_joined item (in_range item h)
text_joined (Stp item) h = stp_joined item h.0
text_joined (Raw bytes) h = refl

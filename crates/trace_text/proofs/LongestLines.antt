-- How long lines are at most.
use Rattle.std.proofs.Common.{◌≡◌, ℕ, zero, suc, ◌+◌, ◌-◌, ◌*◌, ◌/◌, ◌^◌, ◌≤◌, ◌<◌, List, [], ◌∷◌, ◌++◌, length, take, length-append, Bool, true, false, refl, ap, arith, rules}
use Rattle.std.specs.Prelude.{codes, decimal, Option, None, Some, ◌==◌, nat_lt, if◌then◌else◌}
use Rattle.std.specs.Option.{ForSome}
use Rattle.std.specs.Fmt.{digits as fmt_digits}
use Rattle.std.specs.Int.{to_be_bytes, w8, w16, w32}
use Rattle.std.proofs.lemmas.Fmt.{length-decimal-le}
use Rattle.std.proofs.lemmas.List.{length-take-le}
use Rattle.std.proofs.Math.Nat.{pow-le-pow_right}
use Rattle.std.proofs.lemmas.Bool.Decides.{nat_tests}
use Rattle.std.proofs.lemmas.Bool.{false≢true}
use Rattle.hex.specs.Hex.{encode_lower, lower_digits}
use Rattle.hex.proofs.HexLemmas.{length-encode_with}
use Rattle.itm_grammar.specs.declared.packet.Size.{Size}
use Rattle.itm_grammar.specs.declared.packet.Size.TheVariants.{One, Two, Four}
use Rattle.itm_grammar.specs.declared.packet.Lateness.{Lateness}
use Rattle.itm_grammar.specs.declared.packet.ItmPacket.{ItmPacket}
use Rattle.itm_grammar.specs.declared.packet.ItmPacket.TheVariants.{Sync, Overflow, Software, Hardware, Local, GlobalFirst, GlobalSecond, Extension}
use Rattle.itm_grammar.specs.Proper.{IsProper, first_bits, second_bits}
use Rattle.dwt_packets.specs.declared.item.Change.{Change}
use Rattle.dwt_packets.specs.declared.item.DwtItem.{DwtItem}
use Rattle.dwt_packets.specs.declared.item.DwtItem.TheVariants.{Counters, Exception, Sample, Asleep, MatchPc, MatchAddress, Read, Written, Other}
use Rattle.dwt_packets.specs.Table.{name}
use Rattle.dwt_packets.specs.Packet.{IsInRange}
use Rattle.dwt_packets.proofs.Inverses.{in_range}
use Rattle.stp_grammar.specs.declared.packet.Width.{Width}
use Rattle.stp_grammar.specs.declared.packet.Width.TheVariants.{Four as Four_bits, Eight, Sixteen, ThirtyTwo, SixtyFour}
use Rattle.stp_grammar.specs.declared.item.Stamp.{Stamp}
use Rattle.stp_grammar.specs.declared.item.Stamp.TheVariants.{None as NoStamp, Natural, Gray, Raw as RawStamp}
use Rattle.stp_grammar.specs.declared.item.StpItem.{StpItem}
use Rattle.stp_grammar.specs.declared.item.StpItem.TheVariants.{Async, Version, MasterError, GlobalError, Datum, Flag, Trigger as StpTrigger, Frequency, NullStamp}
use Rattle.stp_grammar.specs.Proper.{bits_of, IsProperStamp, IsProperItem}
use Rattle.trace_values.specs.declared.fault.Reason.{Reason}
use Rattle.trace_values.specs.Faults.{name_of, number_of}
use Rattle.trace_values.specs.Placed.{Place}
use Rattle.source_events.specs.declared.event.Event.{Event}
use Rattle.source_events.specs.declared.event.What.{What}
use Rattle.source_events.specs.declared.event.What.TheVariants.{Locked, Packet as Said, Raw, Trigger}
use Rattle.source_events.specs.declared.packet.Packet.{Packet}
use Rattle.source_events.specs.declared.packet.Packet.TheVariants.{Itm, Stp}
use Rattle.source_events.specs.declared.plan.SourceKind.{SourceKind}
use Rattle.source_events.specs.declared.port_mode.PortMode.{PortMode}
use Rattle.source_events.specs.declared.tails.SourceTail.{SourceTail}
use Rattle.trace_clock.specs.LastWord.{nibble_count}
use Rattle.trace_text.specs.Values.{value_text}
use Rattle.trace_text.specs.HardwareText.{change_text, hardware_text}
use Rattle.trace_text.specs.ItemText.{lateness_text, flag_text, item_text}
use Rattle.trace_text.specs.HexDigits.{hex_digits}
use Rattle.trace_text.specs.StpText.{known_text, width_text, mark_text, stamp_text, stp_text}
use Rattle.trace_text.specs.declared.remark.Remark.{Remark}
use Rattle.trace_text.specs.declared.remark.Remark.TheVariants.{None as NoRemark, Clock, Time}
use Rattle.trace_text.specs.LineText.{doubted, source_text, what_text, remark_text, event_line, itm_event, stp_event, raw_event}
use Rattle.trace_text.specs.Printable.{IsProperWhat, IsNone, SuitsPacket, Suits, HasSource, IsPrintable}
use Rattle.trace_text.specs.FaultText.{fault_line}
use Rattle.trace_text.specs.Lengths.{HasDigits, IsShortWhat, IsShortSource, IsShortRemark, IsShort, IsShortFault}
use Rattle.trace_text.specs.EndText.{mode_text, kind_text, source_line}

value : (size : Size) (v : ℕ) → length (value_text size v) ≤ 12
value One v = omega (arith, length-append (codes "u8 ") (encode_lower (to_be_bytes w8 v)), length-encode_with lower_digits (to_be_bytes w8 v))
value Two v = omega (arith, length-append (codes "u16 ") (encode_lower (to_be_bytes w16 v)), length-encode_with lower_digits (to_be_bytes w16 v))
value Four v = omega (arith, length-append (codes "u32 ") (encode_lower (to_be_bytes w32 v)), length-encode_with lower_digits (to_be_bytes w32 v))

change : (c : Change) → length (change_text c) ≤ 7
change c = search rules

hardware : (item : DwtItem) → IsInRange item → length (hardware_text item) ≤ 27
hardware (Counters counters) h = omega (arith, length-encode_with lower_digits (counters ∷ []))
hardware (Exception number c) h = simp length-append (omega (arith, length-decimal-le 3 number (omega arith) (omega arith) (omega arith), change c))
hardware (Sample pc) h = omega (arith, length-encode_with lower_digits (to_be_bytes w32 pc))
hardware Asleep h = omega arith
hardware (MatchPc comparator pc) h =
    simp length-append (omega (arith, length-decimal-le 1 comparator (omega arith) (omega arith) (omega arith), length-encode_with lower_digits (to_be_bytes w32 pc)))
hardware (MatchAddress comparator low) h =
    simp length-append (omega (arith, length-decimal-le 1 comparator (omega arith) (omega arith) (omega arith), length-encode_with lower_digits (to_be_bytes w16 low)))
hardware (Read comparator size v) h = simp length-append (omega (arith, length-decimal-le 1 comparator (omega arith) (omega arith) (omega arith), value size v))
hardware (Written comparator size v) h = simp length-append (omega (arith, length-decimal-le 1 comparator (omega arith) (omega arith) (omega arith), value size v))
hardware (Other disc size v) h = simp length-append (omega (arith, length-decimal-le 2 disc (omega arith) (omega arith) (omega arith), value size v))

lateness : (l : Lateness) → length (lateness_text l) ≤ 11
lateness l = search rules

flag : (b : Bool) → length (flag_text b) ≤ 1
flag b = search rules

bits : (wide : Bool) → length (if wide then codes "64" else codes "48") ≤ 2
bits wide = search rules

owner : (dwt : Bool) → length (if dwt then codes "dwt" else codes "itm") ≤ 3
owner dwt = search rules

-- a first global timestamp has at most 26 bits, and a second one 38
few_bits : (len : ℕ) → len ≤ 4 → first_bits len ≤ 26
few_bits len h = by (len == 4) refl where
  by : (t : Bool) → (len == 4) ≡ t → (if t then 26 else 7 * len) ≤ 26
  by true e = omega arith
  by false e = let less : len ≤ 3 = grind (arith, nat_tests) in omega arith

first_value : (len v : ℕ) → len ≤ 4 → v < 2 ^ first_bits len → v < 2 ^ 26
first_value len v h l =
    let p : 2 ^ first_bits len ≤ 2 ^ 26 = pow-le-pow_right (omega arith) {i = first_bits len} {j = 26} (few_bits len h) in
    omega arith

second_value : (wide : Bool) (v : ℕ) → v < 2 ^ second_bits wide → v < 2 ^ 38
second_value wide v h = grind arith

pub item : (p : ItmPacket) → IsProper p → length (item_text p) ≤ 27
item Sync h = omega arith
item Overflow h = omega arith
item (Software port size v) h = simp length-append (omega (arith, length-decimal-le 2 port (omega arith) (omega arith) (omega arith), value size v))
item (Hardware disc size v) h = hardware (name disc size v) (in_range (name disc size v) (disc, size, v, (h.0, h.1), refl))
item (Local l delta) h = simp length-append (omega (arith, length-decimal-le 9 delta (omega arith) (omega arith) (omega arith), lateness l))
item (GlobalFirst len v c w) h =
    let a = length-decimal-le 1 len (omega arith) (omega arith) (omega arith) in
    let r = first_value len v h.1 h.2 in
    let b = length-decimal-le 8 v (omega arith) (omega arith) (omega arith) in
    let d = flag c in
    let e = flag w in
    simp length-append (omega arith)
item (GlobalSecond wide v) h =
    let r = second_value wide v h in
    simp length-append (omega (arith, length-decimal-le 12 v (omega arith) (omega arith) (omega arith), bits wide))
item (Extension dwt v) h = simp length-append (omega (arith, length-encode_with lower_digits (to_be_bytes w32 v), owner dwt))

digits : (count v : ℕ) → length (hex_digits count v) ≡ count
unfolding hex_digits
digits zero v = refl
digits (suc count) v = ap suc (digits count v)

known : (number : Option ℕ) → ForSome number (λ n. n < 2 ^ 16) → length (known_text number) ≤ 5
known None h = omega arith
known (Some n) h = let l : n < 2 ^ 16 = h n refl in length-decimal-le 5 n (omega arith) (omega arith) (omega arith)

datum : (w : Width) (v : ℕ) → length (width_text w) + length (hex_digits (bits_of w / 4) v) ≤ 19
datum Four_bits v = let a = digits 1 v in omega arith
datum Eight v = let a = digits 2 v in omega arith
datum Sixteen v = let a = digits 4 v in omega arith
datum ThirtyTwo v = let a = digits 8 v in omega arith
datum SixtyFour v = let a = digits 16 v in omega arith

nibbles : (size : ℕ) → nibble_count size ≤ 16
nibbles size = by (nat_lt size 13) (size == 13) refl where
  by : (t u : Bool) → nat_lt size 13 ≡ t → (if t then size else (if u then 14 else 16)) ≤ 16
  by true u e = let less : size < 13 = grind (arith, nat_tests) in omega arith
  by false true e = omega arith
  by false false e = omega arith

stamp : (s : Stamp) → IsProperStamp s → length (stamp_text s) ≤ 22
stamp NoStamp h = omega arith
stamp (Natural time) h = let a = length-decimal-le 20 time (omega arith) (omega arith) h in omega arith
stamp (Gray time) h = let a = length-decimal-le 20 time (omega arith) (omega arith) h in omega arith
stamp (RawStamp size word) h = omega (arith, digits (nibble_count size) word, nibbles size)

mark : (m : Bool) → length (mark_text m) ≤ 1
mark m = search rules

code : (n : ℕ) → length (encode_lower (n ∷ [])) ≡ 2
code n = length-encode_with lower_digits (n ∷ [])

stp : (i : StpItem) → IsProperItem i → length (stp_text i) ≤ 62
stp Async h = omega arith
stp (Version n) h = let a = length-decimal-le 2 n (omega arith) (omega arith) (omega arith) in omega arith
stp (MasterError p n) h = simp length-append (omega (arith, known p.master h.0.0, known p.channel h.0.1, code n))
stp (GlobalError n) h = let b = code n in omega arith
stp (Datum p w v m s) h = simp length-append (omega (arith, known p.master h.0.0, known p.channel h.0.1, datum w v, mark m, stamp s h.2))
stp (Flag p s) h = simp length-append (omega (arith, known p.master h.0.0, known p.channel h.0.1, stamp s h.1))
stp (StpTrigger n s) h = simp length-append (omega (arith, code n, stamp s h.1))
stp (Frequency hertz s) h = simp length-append (omega (arith, length-decimal-le 10 hertz (omega arith) (omega arith) (omega arith), stamp s h.1))
stp (NullStamp s) h = let e = stamp s h in omega arith

source : (s : Option ℕ) → IsShortSource s → length (source_text s) ≤ 4
source s h = grind arith

beside : (r : Remark) → IsShortRemark r → length (remark_text r) ≤ 27
beside r h = grind arith

nothing : (r : Remark) → IsNone r → length (remark_text r) ≤ 0
nothing NoRemark h = omega arith
nothing (Clock ticks) h = absurd h
nothing (Time time) h = absurd h

-- a source, what it gives, and what is beside it
rest : (w : What Packet) (s : Option ℕ) (r : Remark) → IsProperWhat w → Suits w r → HasSource w s →
    IsShortWhat w → IsShortSource s → IsShortRemark r → length (source_text s) + (length (what_text w) + length (remark_text r)) ≤ 65
rest (Locked skipped) s r p u e a b c = omega (arith, source s b, nothing r u)
rest (Said (Itm packet)) s r p u e a b c = omega (arith, source s b, item packet p, beside r c)
rest (Said (Stp i)) None r p u e a b c = absurd (false≢true e)
rest (Said (Stp i)) (Some id) r p u e a b c = omega (arith, stp i p, nothing r u)
rest (Raw bytes) s r p u e a b c = omega (arith, source s b, length-encode_with lower_digits bytes, nothing r u)
rest (Trigger byte) s r p u e a b c = omega (arith, source s b, code byte, nothing r u)

half : (s : Bool) (h : ℕ) → HasDigits 3 h → length (if s then codes "." ++ decimal h else []) ≤ 4
half s h l = grind arith

-- the line of an event
pub event : (s : Bool) (e : Event Packet) (r : Remark) → IsPrintable e r → IsShort e → IsShortRemark r → length (event_line s e r) ≤ 92
event s e r p a b = simp length-append (omega (arith, half s e.half a.half, rest e.what e.source r p.proper p.suits p.source a.what a.source b, a.at))

-- and that of an ITM packet
pub packet : (at id : ℕ) (p : ItmPacket) (r : Remark) → IsProper p → SuitsPacket p r → HasDigits 20 at → HasDigits 3 id → IsShortRemark r →
    length (event_line false (itm_event at id p) r) ≤ 92
packet at id p r proper suits a b c =
    event false (itm_event at id p) r
    (record { proper = proper; suits = suits; source = refl })
    (record { at = a; half = length-decimal-le 3 0 (omega arith) (omega arith) (omega arith); source = b; what = tt }) c

-- and that of an item of an STP source
pub stp_item : (at half id : ℕ) (i : StpItem) → IsProperItem i → HasDigits 20 at → HasDigits 3 half → HasDigits 3 id →
    length (event_line true (stp_event at half id i) NoRemark) ≤ 92
stp_item at half id i proper a b c =
    event true (stp_event at half id i) NoRemark
    (record { proper = proper; suits = tt; source = refl })
    (record { at = a; half = b; source = c; what = tt }) tt

-- and that of a run of bytes
pub raw_run : (at id : ℕ) (bytes : List ℕ) → length bytes ≤ 15 → HasDigits 20 at → HasDigits 3 id →
    length (event_line false (raw_event at id bytes) NoRemark) ≤ 92
raw_run at id bytes few a b = simp length-append (omega (arith, length-encode_with lower_digits bytes))

reason : (r : Reason) → length (decimal (number_of r)) + length (name_of r) ≤ 15
unfolding fmt_digits
reason r = search rules

-- the line of a fault
pub fault : (s : Bool) (f : Place × (Reason × Option ℕ)) → IsShortFault f → length (fault_line s f) ≤ 92
fault s f a = simp length-append (omega (arith, half s f.0.half a.half, source f.1.1 a.source, reason f.1.0, a.at))

mode : (m : PortMode) → length (mode_text m) ≤ 7
mode m = search rules

kind : (k : SourceKind) → length (kind_text k) ≤ 3
kind k = search rules

-- the line at the end of a source
pub source_end : (s : SourceTail) → HasDigits 3 s.id → HasDigits 20 s.skipped → HasDigits 20 s.tail → length (source_line s) ≤ 71
source_end s a b c = simp length-append (omega (arith, kind s.kind, mode s.mode))

-- what a line adds
pub longer : (n : ℕ) (old new line : List ℕ) → new ≡ old ++ line → length line ≤ n → length new ≤ length old + n
longer n old new line e h = omega (arith, ap length e, length-append old line)

-- The line of an event or of a fault. One with the mark of a guess, which stands before its last byte, is longer by two
-- bytes.
pub longer_event : (old new line : List ℕ) → new ≡ old ++ line → length line ≤ 92 → length new ≤ length old + 94
longer_event old new line e h = omega (arith, ap length e, length-append old line)

pub longer_doubted : (old new line : List ℕ) → new ≡ old ++ doubted line → length line ≤ 92 →
    length new ≤ length old + 94
longer_doubted old new line e h =
    let front = length-take-le (length line - 1) line (omega arith) in
    omega (
      arith,
      h,
      front,
      ap length e,
      length-append old (doubted line),
      length-append (take (length line - 1) line) (codes " ?\n"),
    )

-- a line has a byte
pub event_some : (s : Bool) (e : Event Packet) (r : Remark) → 0 < length (event_line s e r)
event_some s e r = simp length-append (omega arith)

pub fault_some : (s : Bool) (f : Place × (Reason × Option ℕ)) → 0 < length (fault_line s f)
fault_some s f = simp length-append (omega arith)

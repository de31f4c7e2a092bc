-- The items of words have their numbers in their ranges.
use Rattle.std.proofs.Common.{◌≡◌, ℕ, ◌+◌, ◌-◌, ◌*◌, ◌/◌, ◌<◌, ◌≤◌, ◌^◌, List, refl, subst, arith, Bool, true, false}
use Rattle.std.proofs.Common.{Some, Option, ◌==◌, nat_le}
use Rattle.std.specs.Option.{ForSome}
use Rattle.std.proofs.lemmas.Bool.Decides.{nat_tests}
use Rattle.script_text.specs.Names.{IsProper, first_bits, second_bits, byte_count, Size, ItmPacket, IsInRange, DwtItem}
use Rattle.script_text.specs.Names.{bits_of, IsProperStamp, IsProperItem, Width, Stamp, StpItem}
use Rattle.itm_grammar.specs.declared.packet.ItmPacket.TheVariants as itm
use Rattle.dwt_packets.specs.Packet.{IsProperItem as IsProperDwt}
use Rattle.dwt_packets.specs.Table.{name}
use Rattle.dwt_packets.specs.declared.item.DwtItem.TheVariants as dwt
use Rattle.dwt_packets.proofs.Inverses.{proper}
use Rattle.stp_grammar.specs.declared.item.Stamp.TheVariants.{None as NoStamp, Natural, Gray, Raw}
use Rattle.stp_grammar.specs.declared.item.StpItem.TheVariants as stp
use Rattle.script_text.specs.declared.itm_shapes.ItmShape.{ItmShape}
use Rattle.script_text.specs.declared.itm_shapes.ItmShape.TheVariants.{Sync, Overflow, Software, Local, GlobalFirst}
use Rattle.script_text.specs.declared.itm_shapes.ItmShape.TheVariants.{GlobalSecond, Extension}
use Rattle.script_text.specs.declared.dwt_shapes.DwtShape.{DwtShape}
use Rattle.script_text.specs.declared.dwt_shapes.DwtShape.TheVariants.{Counters, Exception, Sample, Asleep, MatchPc}
use Rattle.script_text.specs.declared.dwt_shapes.DwtShape.TheVariants.{MatchAddress, Read, Written, Other}
use Rattle.script_text.specs.declared.stp_shapes.StpShape.{StpShape}
use Rattle.script_text.specs.declared.stp_shapes.StpShape.TheVariants.{Async, Version, MasterError, GlobalError, Datum}
use Rattle.script_text.specs.declared.stp_shapes.StpShape.TheVariants.{Flag, Trigger, Frequency, NullStamp}
use Rattle.script_text.specs.Table.{Known, Bytes, Fits, Values, AllFit, values_at, Row, row, fields_in, made_in}
use Rattle.script_text.specs.Table.{said_in, itm_row, dwt_row, stp_row, raw_row, is_first, unnamed, null_stamp}
use Rattle.script_text.specs.Items.{itm_of, dwt_of, stp_of}
use Rattle.script_text.specs.Said.{IsSaidItm, IsSaidStp}
use Rattle.script_text.proofs.Options.{bind_some, some_of, chosen_some}
use Rattle.script_text.proofs.Fields.{values_fit}

pub value_small : (size : Size) (v : ℕ) → v < 16 ^ (2 * byte_count size) → v < 256 ^ byte_count size
value_small size v h = grind arith

width_small : (width : Width) (v : ℕ) → v < 16 ^ (bits_of width / 4) → v < 2 ^ bits_of width
width_small width v h = grind arith

second_proper : (wide : Bool) (value : ℕ) → value ≤ 2 ^ second_bits wide - 1 → value < 2 ^ second_bits wide
second_proper wide value h = grind arith

first_true : (len value : ℕ) (change wrap : Bool) → is_first len value change wrap ≡ true → (0 < len) × (len ≤ 4)
    × (value < 2 ^ first_bits len)
first_true len value change wrap e = (grind (arith, nat_tests), grind (arith, nat_tests), grind (arith, nat_tests))

no_flags : (len value : ℕ) (change wrap : Bool) → is_first len value change wrap ≡ true → len < 4 → (change ≡ false)
    × (wrap ≡ false)
no_flags len value true wrap e h = absurd (grind (arith, nat_tests))
no_flags len value false true e h = absurd (grind (arith, nat_tests))
no_flags len value false false e h = (refl, refl)

known : (o : Option ℕ) → Fits (Known 65535) o → ForSome o (λ n. n < 2 ^ 16)
known o h n e = let k = h.1 n e in omega arith

under : (n k : ℕ) → nat_le n k ≡ true → n < k + 1
under n k h = grind (arith, nat_tests)

-- the values of words, in their ranges, and what they make
values_of : {A : Type 0} (r : Row A) (words : List (List ℕ)) (x : A) → said_in r words ≡ Some x →
    (values : Values (fields_in r)) × AllFit (fields_in r) values × (made_in r values ≡ Some x)
values_of (row word fields make) words x e =
    let v = bind_some (values_at fields 1 words) make x e in
    (v.0, values_fit fields 1 words v.0 v.1, v.2)

-- ITM packets
abbrev pub IsSoundItm : ItmPacket → Type 0
IsSoundItm packet = IsProper packet × IsSaidItm packet

itm_sound : (shape : ItmShape) (values : Values (fields_in (itm_row shape))) (packet : ItmPacket) →
    AllFit (fields_in (itm_row shape)) values → made_in (itm_row shape) values ≡ Some packet → IsSoundItm packet
itm_sound Sync values packet h e = subst IsSoundItm (some_of _ packet e) (tt, tt)
itm_sound Overflow values packet h e = subst IsSoundItm (some_of _ packet e) (tt, tt)
itm_sound (Software size) (port, (value, end)) packet h e =
    subst IsSoundItm (some_of _ packet e) (((let k = h.0 in omega arith), value_small size value h.1.0), tt)
itm_sound (Local lateness) (delta, end) packet h e =
    subst IsSoundItm (some_of _ packet e) ((let k = h.0 in omega arith), tt)
itm_sound GlobalFirst (len, (value, (change, (wrap, end)))) packet h e =
    let f = chosen_some (is_first len value (change == 1) (wrap == 1))
    (itm.GlobalFirst len value (change == 1) (wrap == 1)) packet e in
    let t = first_true len value (change == 1) (wrap == 1) f.0 in
    subst IsSoundItm f.1 ((t.0, t.1, t.2, no_flags len value (change == 1) (wrap == 1) f.0), tt)
itm_sound (GlobalSecond wide) (value, end) packet h e =
    subst IsSoundItm (some_of _ packet e) (second_proper wide value h.0, tt)
itm_sound (Extension dwt) (value, end) packet h e =
    subst IsSoundItm (some_of _ packet e) ((let k = h.0 in omega arith), tt)

pub itm_said : (shape : ItmShape) (words : List (List ℕ)) (packet : ItmPacket) → itm_of shape words ≡ Some packet →
    IsSoundItm packet
unfolding itm_of
itm_said shape words packet e = let w = values_of (itm_row shape) words packet e in itm_sound shape w.0 packet w.1 w.2

-- hardware packets
pub unnamed_is : (item given : DwtItem) → unnamed item ≡ Some given → item ≡ given
unnamed_is (dwt.Other disc size value) given e = some_of (dwt.Other disc size value) given e
unnamed_is item given e = cc

-- an item in its range is one of a packet
in_range : (item given : DwtItem) → Some item ≡ Some given → IsInRange item → IsProperDwt given
in_range item given e h = subst IsProperDwt (some_of item given e) (proper item h)

dwt_sound : (shape : DwtShape) (values : Values (fields_in (dwt_row shape))) (item : DwtItem) →
    AllFit (fields_in (dwt_row shape)) values → made_in (dwt_row shape) values ≡ Some item → IsProperDwt item
dwt_sound Counters (bits, end) item h e =
    let f = chosen_some (nat_le bits 63) (dwt.Counters bits) item e in
    subst IsProperDwt f.1 (proper (dwt.Counters bits) (let k = under bits 63 f.0 in omega arith))
dwt_sound (Exception change) (number, end) item h e = in_range _ item e (let k = h.0 in omega arith)
dwt_sound Sample (pc, end) item h e = in_range _ item e (let k = h.0 in omega arith)
dwt_sound Asleep values item h e = in_range dwt.Asleep item e tt
dwt_sound MatchPc (comparator, (pc, end)) item h e =
    in_range _ item e ((let k = h.0 in omega arith), (let k = h.1.0 in omega arith))
dwt_sound MatchAddress (comparator, (low, end)) item h e =
    in_range _ item e ((let k = h.0 in omega arith), (let k = h.1.0 in omega arith))
dwt_sound (Read size) (comparator, (value, end)) item h e =
    in_range _ item e ((let k = h.0 in omega arith), value_small size value h.1.0)
dwt_sound (Written size) (comparator, (value, end)) item h e =
    in_range _ item e ((let k = h.0 in omega arith), value_small size value h.1.0)
dwt_sound (Other size) (disc, (value, end)) item h e = (
  disc,
  size,
  value,
  ((let k = h.0 in omega arith), value_small size value h.1.0),
  unnamed_is
      (name disc size value) item e,
)

pub dwt_said : (shape : DwtShape) (words : List (List ℕ)) (item : DwtItem) → dwt_of shape words ≡ Some item →
    IsProperDwt item
unfolding dwt_of
dwt_said shape words item e = let w = values_of (dwt_row shape) words item e in dwt_sound shape w.0 item w.1 w.2

-- STP items
abbrev pub IsSoundStp : StpItem → Type 0
IsSoundStp item = IsProperItem item × IsSaidStp item

null_said : (stamp : Stamp) (item : StpItem) → IsProperStamp stamp → null_stamp stamp ≡ Some item → IsSoundStp item
null_said NoStamp item h e = cc
null_said (Natural time) item h e = subst IsSoundStp (some_of (stp.NullStamp (Natural time)) item e) (h, tt)
null_said (Gray time) item h e = subst IsSoundStp (some_of (stp.NullStamp (Gray time)) item e) (h, tt)
null_said (Raw size word) item h e = subst IsSoundStp (some_of (stp.NullStamp (Raw size word)) item e) (h, tt)

stp_sound : (shape : StpShape) (values : Values (fields_in (stp_row shape))) (item : StpItem) →
    AllFit (fields_in (stp_row shape)) values → made_in (stp_row shape) values ≡ Some item → IsSoundStp item
stp_sound Async values item h e = subst IsSoundStp (some_of _ item e) (tt, tt)
stp_sound Version (version, end) item h e = subst IsSoundStp (some_of _ item e) ((let k = h.0 in omega arith), tt)
stp_sound MasterError (master, (channel, (code, end))) item h e =
    subst IsSoundStp (some_of _ item e) (
      ((known master h.0, known channel h.1.0), (let k = h.1.1.0 in omega arith)),
      (h.0.0, h.1.0.0),
    )
stp_sound GlobalError (code, end) item h e = subst IsSoundStp (some_of _ item e) ((let k = h.0 in omega arith), tt)
stp_sound (Datum width marked) (master, (channel, (value, (stamp, end)))) item h e =
    subst IsSoundStp (some_of _ item e) (
      (
        (known master h.0, known channel h.1.0),
        width_small width value h.1.1.0,
        h.1.1.1.0,
      ),
      (h.0.0, h.1.0.0),
    )
stp_sound Flag (master, (channel, (stamp, end))) item h e =
    subst IsSoundStp (some_of _ item e) (((known master h.0, known channel h.1.0), h.1.1.0), (h.0.0, h.1.0.0))
stp_sound Trigger (code, (stamp, end)) item h e =
    subst IsSoundStp (some_of _ item e) (((let k = h.0 in omega arith), h.1.0), tt)
stp_sound Frequency (hertz, (stamp, end)) item h e =
    subst IsSoundStp (some_of _ item e) (((let k = h.0 in omega arith), h.1.0), tt)
stp_sound NullStamp (stamp, end) item h e = null_said stamp item h.0 e

pub stp_said : (shape : StpShape) (words : List (List ℕ)) (item : StpItem) → stp_of shape words ≡ Some item →
    IsSoundStp item
unfolding stp_of
stp_said shape words item e = let w = values_of (stp_row shape) words item e in stp_sound shape w.0 item w.1 w.2

-- bytes
pub raw_said : (words : List (List ℕ)) (bytes : List ℕ) → said_in raw_row words ≡ Some bytes → Fits Bytes bytes
raw_said words bytes e = let w = values_of raw_row words bytes e in subst (Fits Bytes) (some_of w.0.0 bytes w.2) w.1.0

-- Each packet for fitting items has a spelling.
use Rattle.std.proofs.Common.{◌≡◌, ℕ, ◌^◌, ◌<◌, List, [], ◌∷◌, ◌++◌, refl, sym, ◌∙◌, subst, append_assoc, arith, Bool, true, false, not, Option, None, Some}
use Rattle.std.proofs.lemmas.List.Elements.{All-nil, All-append}
use Rattle.std.specs.Option.{ForSome}
use Rattle.std.specs.List.{All}
use Rattle.stp_encoder.specs.Names.{SizedWord, Order, Width, Row, Master8, Master16, Channel8, Channel16, StpPacket}
use Rattle.stp_encoder.specs.Names.{Place, Stamp, None as NoStamp, StpItem, Async as AsyncItem}
use Rattle.stp_encoder.specs.Names.{Version as VersionItem, MasterError as MasterErrorItem}
use Rattle.stp_encoder.specs.Names.{GlobalError as GlobalErrorItem, Datum as DatumItem, Flag as FlagItem}
use Rattle.stp_encoder.specs.Names.{Trigger as TriggerItem, Frequency as FrequencyItem, NullStamp as NullStampItem}
use Rattle.stp_encoder.specs.Names.{line_of, IsProper, IsProperItem, IsProperPlace, IsProperStamp, short, IsByRow}
use Rattle.stp_encoder.specs.Names.{master_of, channel_of}
use Rattle.stp_grammar.specs.declared.packet.Row.TheVariants.{Datum, Flag, NullStamp, Trigger, Frequency}
use Rattle.stp_grammar.proofs.EachRow.{each_test}
use Rattle.stp_grammar.proofs.ShortSpellings.{shortest}
use Rattle.stp_encoder.specs.Fitting.{item_place, has_content, version_after, AreFitting}
use Rattle.stp_encoder.specs.Packets.{telling, telling_place, packed_stamp, with_stamp, own_packet, packets_with, packets_after, packets_for}
use Rattle.stp_encoder.specs.Bytes.{spelled}
use Rattle.stp_encoder.proofs.Standing.{packets_more}
use Rattle.stp_encoder.proofs.Places.{telling_within}
use Rattle.stp_encoder.proofs.Stamps.{packed_fits, MakesItem}
use Rattle.stp_encoder.proofs.OwnRows.{makes_datum, makes_flag, makes_trigger, makes_frequency, makes_null, fits_of}

-- a packet that has a spelling, and a list of such packets
pub record IsWhole (packet : StpPacket) : Type 0 where
  pub proper : IsProper packet
  pub by_row : IsByRow packet

abbrev pub AreWhole : List StpPacket → Type 0
AreWhole [] = Unit {0}
AreWhole (packet ∷ packets) = IsWhole packet × AreWhole packets

pub whole_append : (a b : List StpPacket) → AreWhole a → AreWhole b → AreWhole (a ++ b)
whole_append [] b h k = k
whole_append (p ∷ a) b h k = (h.0, whole_append a b h.1 k)

-- their nibbles are nibbles
pub nibbles_whole : (order : Order) (packets : List StpPacket) → AreWhole packets → All (λ b. b < 16) (spelled order packets)
nibbles_whole order [] h = All-nil (λ b. b < 16)
nibbles_whole order (p ∷ packets) h = All-append (λ b. b < 16) (short order p) (spelled order packets) (shortest order p h.0.proper h.0.by_row).nibbles (nibbles_whole order packets h.1)

-- a number's packet
told_whole : (low whole : Row) (known number : Option ℕ) → ForSome number (λ n. n < 2 ^ 16) →
    (line_of low).stamped ≡ false → 2 ^ 8 ≡ 16 ^ (line_of low).payload → (line_of whole).stamped ≡ false → 2 ^ 16 ≡ 16 ^ (line_of whole).payload → AreWhole (telling low whole known number)
told_whole low whole known number h a e b f =
    telling_within AreWhole low whole known number h tt
    (λ v l. (record { proper = subst (λ (n : ℕ). v < n) e l; by_row = a }, tt))
    (λ v l. (record { proper = subst (λ (n : ℕ). v < n) f l; by_row = b }, tt))

place_whole : (before : List StpPacket) (place : Place) → IsProperPlace place → AreWhole (telling_place before (Some place))
place_whole before place h =
    let masters = telling Master8 Master16 (master_of before) place.master in
    whole_append masters (telling Channel8 Channel16 (channel_of (before ++ masters)) place.channel)
    (told_whole Master8 Master16 (master_of before) place.master h.0 refl refl refl refl)
    (told_whole Channel8 Channel16 (channel_of (before ++ masters)) place.channel h.1 refl refl refl refl)

-- a packet with a timestamp or none
module _ (before : List StpPacket) (plain stamped : Row) (payload : ℕ) (make : Place → Stamp → StpItem) (stamp : Stamp) where
  made_whole : MakesItem plain payload make → MakesItem stamped payload make → IsProperStamp stamp → (packed_stamp before stamp ≡ None → (line_of plain).stamped ≡ false) → (line_of stamped).stamped ≡ true →
      IsWhole (with_stamp plain stamped payload (packed_stamp before stamp))
  made_whole a b h f g = by (packed_stamp before stamp) refl where
    by : (o : Option SizedWord) → packed_stamp before stamp ≡ o → IsWhole (with_stamp plain stamped payload o)
    by None e = record { proper = a.fits; by_row = f e }
    by (Some s) e = record { proper = (b.fits, packed_fits before stamp s h e); by_row = g }

is_stamped : Row → Bool
is_stamped (Datum width marked true) = (line_of (Datum width marked true)).stamped
is_stamped (Datum width marked false) = not (line_of (Datum width marked false)).stamped
is_stamped row = true

datum_stamped : (width : Width) (marked : Bool) → (line_of (Datum width marked true)).stamped ≡ true
unfolding is_stamped
datum_stamped width marked = each_test is_stamped refl (Datum width marked true)

datum_plain : (width : Width) (marked : Bool) → (line_of (Datum width marked false)).stamped ≡ false
unfolding is_stamped
datum_plain width marked = by (line_of (Datum width marked false)).stamped (each_test is_stamped refl (Datum width marked false)) where
  by : (t : Bool) → not t ≡ true → t ≡ false
  by true e = cc
  by false e = refl

own_whole : (before : List StpPacket) (item : StpItem) → IsProperItem item → has_content item ≡ true → IsWhole (own_packet before item)
own_whole before AsyncItem h e = record { proper = tt; by_row = tt }
own_whole before (VersionItem version) h e = record { proper = omega (arith, h); by_row = refl }
own_whole before (MasterErrorItem place code) h e = record { proper = (let z = h.1 in omega (arith, z)); by_row = refl }
own_whole before (GlobalErrorItem code) h e = record { proper = omega (arith, h); by_row = refl }
own_whole before (DatumItem place width value marked stamp) h e =
    made_whole before (Datum width marked false) (Datum width marked true) value (λ z s. DatumItem z width value marked s) stamp (makes_datum width marked false value h.1) (makes_datum width marked true value h.1) h.2
    (λ n. datum_plain width marked) (datum_stamped width marked)
own_whole before (FlagItem place stamp) h e = made_whole before (Flag false) (Flag true) 0 (λ z s. FlagItem z s) stamp (makes_flag false) (makes_flag true) h.1 (λ n. refl) refl
own_whole before (TriggerItem code stamp) h e =
    made_whole before (Trigger false) (Trigger true) code (λ z s. TriggerItem code s) stamp (makes_trigger false code h.0) (makes_trigger true code h.0) h.1 (λ n. refl) refl
own_whole before (FrequencyItem hertz stamp) h e =
    made_whole before (Frequency false) (Frequency true) hertz (λ z s. FrequencyItem hertz s) stamp (makes_frequency false hertz h.0) (makes_frequency true hertz h.0) h.1 (λ n. refl) refl
own_whole before (NullStampItem stamp) h e = made_whole before NullStamp NullStamp 0 (λ z s. NullStampItem s) stamp makes_null makes_null h (λ n. absurd (none stamp e n)) refl where
  none : (stamp : Stamp) → has_content (NullStampItem stamp) ≡ true → packed_stamp before stamp ≡ None → ⊥
  none NoStamp e n = cc
  none x e n = cc

place_in_whole : (before : List StpPacket) (item : StpItem) → IsProperItem item → AreWhole (telling_place before (item_place item))
place_in_whole before (MasterErrorItem place code) h = place_whole before place h.0
place_in_whole before (DatumItem place width value marked stamp) h = place_whole before place h.0
place_in_whole before (FlagItem place stamp) h = place_whole before place h.0
place_in_whole before x h = tt

whole_from : (all done items : List StpItem) → AreFitting all → all ≡ done ++ items → AreWhole (packets_for done) → AreWhole (packets_after (packets_for done) items)
whole_from all done [] h e k = k
whole_from all done (item ∷ items) h e k =
    let packets = packets_for done in
    let place = telling_place packets (item_place item) in
    let fit = h done items item e in
    let there = (fits_of (version_after done) item fit.1).there in
    let more : AreWhole (packets_with packets item) =
    whole_append place (own_packet (packets ++ place) item ∷ []) (place_in_whole packets item fit.0) (own_whole (packets ++ place) item fit.0 there, tt) in
    subst (λ (l : List StpPacket). AreWhole (packets_after l items)) (packets_more done item)
    (whole_from all (done ++ item ∷ []) items h (e ∙ sym (append_assoc done (item ∷ []) items))
    (subst AreWhole (sym (packets_more done item)) (whole_append packets (packets_with packets item) k more)))

pub packets_whole : (items : List StpItem) → AreFitting items → AreWhole (packets_for items)
unfolding packets_for
packets_whole items h = whole_from items [] items h refl tt

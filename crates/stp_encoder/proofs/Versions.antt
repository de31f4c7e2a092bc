-- The version that the packets for items tell is the one that the items name.
use Rattle.std.proofs.Common.{◌≡◌, ℕ, ◌/◌, ◌%◌, ◌==◌, List, [], ◌∷◌, ◌++◌, refl, sym, ◌∙◌, ap, Bool, true, false, cond, Option, None, Some}
use Rattle.std.specs.List.{filter_map, last_or}
use Rattle.std.proofs.lemmas.List.Elements.{filter_map-append}
use Rattle.stp_encoder.specs.Names.{SizedWord, Row, Master8, Channel8, Master16, Channel16, StpPacket, Plain, Place}
use Rattle.stp_encoder.specs.Names.{StpItem, Async as AsyncItem, Version as VersionItem, MasterError as MasterErrorItem}
use Rattle.stp_encoder.specs.Names.{GlobalError as GlobalErrorItem, Datum as DatumItem, Flag as FlagItem}
use Rattle.stp_encoder.specs.Names.{Trigger as TriggerItem, Frequency as FrequencyItem, NullStamp as NullStampItem}
use Rattle.stp_encoder.specs.Names.{version_in, version_of, master_of, channel_of}
use Rattle.stp_grammar.specs.declared.packet.Row.TheVariants.{Datum, Flag, NullStamp, Trigger, Frequency}
use Rattle.stp_grammar.proofs.Attributing.{none_known}
use Rattle.stp_encoder.specs.Fitting.{version_named, version_after, item_place}
use Rattle.stp_encoder.specs.Packets.{telling, telling_place, with_stamp, packed_stamp, own_packet, packets_with, packets_after, packets_for}

-- what holds of no packet, and of one of either row, holds of the packet that tells a number
pub telling_cases : (P : List StpPacket → Type 0) (low whole : Row) (known number : Option ℕ) → P [] → ((v : ℕ) → P (Plain low v ∷ [])) → ((v : ℕ) → P (Plain whole v ∷ [])) →
    P (telling low whole known number)
telling_cases P low whole known None none l w = none
telling_cases P low whole None (Some n) none l w = w n
telling_cases P low whole (Some k) (Some n) none l w = by (k == n) (k / 256 == n / 256) where
  by : (s t : Bool) → P (cond s [] (cond t (Plain low (n % 256) ∷ []) (Plain whole n ∷ [])))
  by true t = none
  by false true = l (n % 256)
  by false false = w n

last_or_append : {A : Type 0} (o : Option A) (xs ys : List A) → last_or o (xs ++ ys) ≡ last_or (last_or o xs) ys
last_or_append o [] ys = refl
last_or_append o (x ∷ xs) ys = last_or_append (Some x) xs ys

version_told : (before more : List StpPacket) → version_of (before ++ more) ≡ last_or (version_of before) (filter_map version_in more)
unfolding version_of
version_told before more =
    ap (last_or None) (filter_map-append version_in before more) ∙ last_or_append None (filter_map version_in before) (filter_map version_in more)

-- a master or a channel tells no version
none_by_place : (before : List StpPacket) (place : Option Place) → filter_map version_in (telling_place before place) ≡ []
none_by_place before None = refl
none_by_place before (Some place) =
    let masters = telling Master8 Master16 (master_of before) place.master in
    let channels = telling Channel8 Channel16 (channel_of (before ++ masters)) place.channel in
    let P : List StpPacket → Type 0 = λ l. filter_map version_in l ≡ [] in
    let m = telling_cases P Master8 Master16 (master_of before) place.master refl (λ v. refl) (λ v. refl) in
    let n = telling_cases P Channel8 Channel16 (channel_of (before ++ masters)) place.channel refl (λ v. refl) (λ v. refl) in
    filter_map-append version_in masters channels ∙ ap (λ (l : List ℕ). l ++ filter_map version_in channels) m ∙ n

pub version_kept : (before : List StpPacket) (place : Option Place) → version_of (before ++ telling_place before place) ≡ version_of before
version_kept before place = version_told before (telling_place before place) ∙ ap (last_or (version_of before)) (none_by_place before place)

-- an item's own packet tells the version that the item names
named_by_own : (before : List StpPacket) (item : StpItem) → filter_map version_in (own_packet before item ∷ []) ≡ filter_map version_named (item ∷ [])
named_by_own before AsyncItem = refl
named_by_own before (VersionItem version) = refl
named_by_own before (MasterErrorItem place code) = refl
named_by_own before (GlobalErrorItem code) = refl
named_by_own before (DatumItem place width value marked stamp) = by (packed_stamp before stamp) where
  by : (o : Option SizedWord) → filter_map version_in (with_stamp (Datum width marked false) (Datum width marked true) value o ∷ []) ≡ []
  by None = refl
  by (Some s) = refl
named_by_own before (FlagItem place stamp) = by (packed_stamp before stamp) where
  by : (o : Option SizedWord) → filter_map version_in (with_stamp (Flag false) (Flag true) 0 o ∷ []) ≡ []
  by None = refl
  by (Some s) = refl
named_by_own before (TriggerItem code stamp) = by (packed_stamp before stamp) where
  by : (o : Option SizedWord) → filter_map version_in (with_stamp (Trigger false) (Trigger true) code o ∷ []) ≡ []
  by None = refl
  by (Some s) = refl
named_by_own before (FrequencyItem hertz stamp) = by (packed_stamp before stamp) where
  by : (o : Option SizedWord) → filter_map version_in (with_stamp (Frequency false) (Frequency true) hertz o ∷ []) ≡ []
  by None = refl
  by (Some s) = refl
named_by_own before (NullStampItem stamp) = by (packed_stamp before stamp) where
  by : (o : Option SizedWord) → filter_map version_in (with_stamp NullStamp NullStamp 0 o ∷ []) ≡ []
  by None = refl
  by (Some s) = refl

version_with : (before : List StpPacket) (item : StpItem) → version_of (before ++ packets_with before item) ≡ last_or (version_of before) (filter_map version_named (item ∷ []))
version_with before item =
    let told = telling_place before (item_place item) in
    version_told before (told ++ own_packet (before ++ told) item ∷ [])
    ∙ ap (last_or (version_of before)) (filter_map-append version_in told (own_packet (before ++ told) item ∷ []) ∙ ap (λ (l : List ℕ). l ++ filter_map version_in (own_packet (before ++ told) item ∷ [])) (none_by_place before (item_place item)) ∙ named_by_own (before ++ told) item)

version_from : (before : List StpPacket) (items : List StpItem) → version_of (packets_after before items) ≡ last_or (version_of before) (filter_map version_named items)
version_from before [] = refl
version_from before (item ∷ items) =
    version_from (before ++ packets_with before item) items
    ∙ ap (λ (o : Option ℕ). last_or o (filter_map version_named items)) (version_with before item)
    ∙ sym (last_or_append (version_of before) (filter_map version_named (item ∷ [])) (filter_map version_named items))
    ∙ ap (last_or (version_of before)) (sym (filter_map-append version_named (item ∷ []) items))

pub version_for : (items : List StpItem) → version_of (packets_for items) ≡ version_after items
unfolding packets_for
version_for items = version_from [] items ∙ ap (λ (o : Option ℕ). last_or o (filter_map version_named items)) none_known.0

-- The packets for fitting items tell exactly the items, and each has a spelling.
use Rattle.std.proofs.Common.{◌≡◌, ℕ, List, [], ◌∷◌, ◌++◌, refl, sym, ◌∙◌, ap, append_assoc, append-nil, replicate, zero, suc, subst, arith, true, false, ◌&&◌, Option, None, Some}
use Rattle.std.specs.Option.{option_to_list, is_some}
use Rattle.stp_encoder.specs.Names.{Null, Master8, Master16, Channel8, Channel16, StpPacket, Plain, Stamped, Place}
use Rattle.stp_encoder.specs.Names.{None as NoStamp, StpItem, Async as AsyncItem, Version as VersionItem}
use Rattle.stp_encoder.specs.Names.{MasterError as MasterErrorItem, GlobalError as GlobalErrorItem, Datum as DatumItem}
use Rattle.stp_encoder.specs.Names.{Flag as FlagItem, Trigger as TriggerItem, Frequency as FrequencyItem}
use Rattle.stp_encoder.specs.Names.{NullStamp as NullStampItem, IsProper, IsProperPlace, IsProperItem, version_of}
use Rattle.stp_grammar.proofs.Told.{stamp_of}
use Rattle.stp_encoder.specs.Names.{master_of, channel_of, last_word_of, stamp_by, place_of, item_with}
use Rattle.stp_encoder.specs.Names.{item_of, next_version, next_master, next_channel, next_last}
use Rattle.stp_grammar.specs.declared.packet.Row.TheVariants.{MasterError, Datum, Flag, NullStamp, Trigger, Frequency}
use Rattle.stp_grammar.specs.declared.packet.StpPacket.TheVariants.{Async}
use Rattle.stp_grammar.proofs.Attributing.{version_more, master_more, channel_more, last_more}
use Rattle.stp_encoder.specs.Fitting.{item_place, item_stamp, is_of_version, is_named, is_unfit, AreFitting}
use Rattle.stp_encoder.specs.Packets.{telling, telling_place, own_packet, packets_with, packets_after, packets_for}
use Rattle.stp_encoder.proofs.Versions.{telling_cases, version_for, version_kept}
use Rattle.stp_encoder.proofs.Standing.{packets_more}
use Rattle.stp_encoder.proofs.Places.{place_told, place_kept}
use Rattle.stp_encoder.proofs.Stamps.{made_back}
use Rattle.stp_encoder.proofs.OwnRows.{makes_datum, makes_flag, makes_trigger, makes_frequency, makes_null, fits_of}

-- the items that packets are after these
abbrev pub told : List StpPacket → List StpPacket → List StpItem
told before [] = []
told before (p ∷ packets) = option_to_list (item_of (before ++ p ∷ []) p) ++ told (before ++ p ∷ []) packets

pub told_append : (before a b : List StpPacket) → told before (a ++ b) ≡ told before a ++ told (before ++ a) b
told_append before [] b = ap (λ (l : List StpPacket). told l b) (sym (append-nil before))
told_append before (p ∷ a) b =
    let first = option_to_list (item_of (before ++ p ∷ []) p) in
    ap (λ (l : List StpItem). first ++ l) (told_append (before ++ p ∷ []) a b)
    ∙ sym (append_assoc first (told (before ++ p ∷ []) a) (told ((before ++ p ∷ []) ++ a) b))
    ∙ ap (λ (l : List StpPacket). (first ++ told (before ++ p ∷ []) a) ++ told l b) (append_assoc before (p ∷ []) a)

-- those that tell a place are no items
nothing_told : (before : List StpPacket) (place : Option Place) → told before (telling_place before place) ≡ []
nothing_told before None = refl
nothing_told before (Some place) =
    let masters = telling Master8 Master16 (master_of before) place.master in
    let channels = telling Channel8 Channel16 (channel_of (before ++ masters)) place.channel in
    told_append before masters channels
    ∙ ap (λ (l : List StpItem). l ++ told (before ++ masters) channels) (telling_cases (λ l. told before l ≡ []) Master8 Master16 (master_of before) place.master refl (λ v. refl) (λ v. refl))
    ∙ telling_cases (λ l. told (before ++ masters) l ≡ []) Channel8 Channel16 (channel_of (before ++ masters)) place.channel refl (λ v. refl) (λ v. refl)

-- the place is the one in force, where there is one
abbrev IsIn : List StpPacket → Option Place → Type 0
IsIn before None = Unit {0}
IsIn before (Some place) = place_of before ≡ place

-- an item's own packet is the item
own_back : (before : List StpPacket) (item : StpItem) → IsProperItem item → is_of_version (version_of before) (item_stamp item) ≡ true → IsIn before (item_place item) →
    item_of (before ++ own_packet before item ∷ []) (own_packet before item) ≡ Some item
own_back before AsyncItem h e i = refl
own_back before (VersionItem version) h e i = refl
own_back before (MasterErrorItem place code) h e i =
    let p = Plain MasterError code in
    ap (λ (z : Place). Some (MasterErrorItem z code)) (place_kept before p (let z = h.1 in omega (arith, z)) (λ o. (refl, refl)) ∙ i)
own_back before (GlobalErrorItem code) h e i = refl
own_back before (DatumItem place width value marked stamp) h e i =
    made_back before (Datum width marked false) (Datum width marked true) value (λ z s. DatumItem z width value marked s) stamp (makes_datum width marked false value h.1) (makes_datum width marked true value h.1) h.2 e
    ∙ ap (λ (z : Place). Some (DatumItem z width value marked stamp)) i
own_back before (FlagItem place stamp) h e i =
    made_back before (Flag false) (Flag true) 0 (λ z s. FlagItem z s) stamp (makes_flag false) (makes_flag true) h.1 e
    ∙ ap (λ (z : Place). Some (FlagItem z stamp)) i
own_back before (TriggerItem code stamp) h e i =
    made_back before (Trigger false) (Trigger true) code (λ z s. TriggerItem code s) stamp (makes_trigger false code h.0) (makes_trigger true code h.0) h.1 e
own_back before (FrequencyItem hertz stamp) h e i =
    made_back before (Frequency false) (Frequency true) hertz (λ z s. FrequencyItem hertz s) stamp (makes_frequency false hertz h.0) (makes_frequency true hertz h.0) h.1 e
own_back before (NullStampItem stamp) h e i =
    made_back before NullStamp NullStamp 0 (λ z s. NullStampItem s) stamp makes_null makes_null h e

-- the place of a proper item is proper
named_in : (before : List StpPacket) (place : Place) (m n : Option ℕ) → place.master ≡ m → place.channel ≡ n → IsProperPlace place → is_named (Some place) ≡ true →
    IsIn (before ++ telling_place before (Some place)) (Some place)
named_in before place None n e f h k = let q = ap is_some e in absurd cc
named_in before place (Some m) None e f h k = let p = ap is_some e in let q = ap is_some f in absurd (by place.master place.channel p q k) where
  by : (a b : Option ℕ) → is_some a ≡ true → is_some b ≡ false → (is_some a && is_some b) ≡ true → ⊥
  by None b p q k = cc
  by (Some x) None p q k = cc
  by (Some x) (Some y) p q k = cc
named_in before place (Some m) (Some n) e f h k = place_told before place m n e f (h.0 m e) (h.1 n f)

in_force : (before : List StpPacket) (item : StpItem) → IsProperItem item → is_named (item_place item) ≡ true → IsIn (before ++ telling_place before (item_place item)) (item_place item)
in_force before (MasterErrorItem place code) h k = named_in before place place.master place.channel refl refl h.0 k
in_force before (DatumItem place width value marked stamp) h k = named_in before place place.master place.channel refl refl h.0 k
in_force before (FlagItem place stamp) h k = named_in before place place.master place.channel refl refl h.0 k
in_force before x h k = tt

-- the packets for an item are the item
pub item_back : (before : List StpPacket) (item : StpItem) → IsProperItem item → is_unfit (version_of before) item ≡ false → told before (packets_with before item) ≡ item ∷ []
item_back before item h e =
    let place = telling_place before (item_place item) in
    let own = own_packet (before ++ place) item in
    let f = fits_of (version_of before) item e in
    let kind : is_of_version (version_of (before ++ place)) (item_stamp item) ≡ true =
    ap (λ (o : Option ℕ). is_of_version o (item_stamp item)) (version_kept before (item_place item)) ∙ f.stamp in
    told_append before place (own ∷ [])
    ∙ ap (λ (l : List StpItem). l ++ told (before ++ place) (own ∷ [])) (nothing_told before (item_place item))
    ∙ ap (λ (o : Option StpItem). option_to_list o ++ []) (own_back (before ++ place) item h kind (in_force before item h f.named))

-- and those for items the items
told_from : (all done items : List StpItem) → AreFitting all → all ≡ done ++ items → told [] (packets_after (packets_for done) items) ≡ told [] (packets_for done) ++ items
told_from all done [] h e = sym (append-nil (told [] (packets_for done)))
told_from all done (item ∷ items) h e =
    let packets = packets_for done in
    let fit = h done items item e in
    let own : told packets (packets_with packets item) ≡ item ∷ [] =
    item_back packets item fit.0 (ap (λ (o : Option ℕ). is_unfit o item) (version_for done) ∙ fit.1) in
    ap (λ (l : List StpPacket). told [] (packets_after l items)) (sym (packets_more done item))
    ∙ told_from all (done ++ item ∷ []) items h (e ∙ sym (append_assoc done (item ∷ []) items))
    ∙ ap (λ (l : List StpPacket). told [] l ++ items) (packets_more done item)
    ∙ ap (λ (l : List StpItem). l ++ items) (told_append [] packets (packets_with packets item) ∙ ap (λ (l : List StpItem). told [] packets ++ l) own)
    ∙ append_assoc (told [] packets) (item ∷ []) items

pub told_back : (items : List StpItem) → AreFitting items → told [] (packets_for items) ≡ items
unfolding packets_for
told_back items h = told_from items [] items h refl

-- packets after which the same is in force
pub record AreAlike (a b : List StpPacket) : Type 0 where
  pub version : version_of a ≡ version_of b
  pub master : master_of a ≡ master_of b
  pub channel : channel_of a ≡ channel_of b
  pub last : last_word_of a ≡ last_word_of b

alike_more : (a b : List StpPacket) (p : StpPacket) → IsProper p → AreAlike a b → AreAlike (a ++ p ∷ []) (b ++ p ∷ [])
alike_more a b p h k = record {
  version = version_more a p ∙ ap (λ (o : Option ℕ). next_version o p) k.version ∙ sym (version_more b p);
  master = master_more a p h ∙ ap (λ (o : Option ℕ). next_master o p) k.master ∙ sym (master_more b p h);
  channel = channel_more a p h ∙ ap (λ (o : Option ℕ). next_channel o p) k.channel ∙ sym (channel_more b p h);
  last = last_more a p h ∙ ap (λ (o : Option ℕ). next_last o (last_word_of a) p) k.version ∙ ap (λ (n : ℕ). next_last (version_of b) n p) k.last ∙ sym (last_more b p h);
}

abbrev place_by : Option ℕ → Option ℕ → Place
place_by m c = record { master = m; channel = c }

place_alike : (a b : List StpPacket) → AreAlike a b → place_of a ≡ place_of b
place_alike a b k = ap (λ (m : Option ℕ). place_by m (channel_of a)) k.master ∙ ap (λ (c : Option ℕ). place_by (master_of b) c) k.channel

item_alike : (a b : List StpPacket) (p : StpPacket) → AreAlike a b → item_of a p ≡ item_of b p
item_alike a b Async k = refl
item_alike a b (Plain row v) k = ap (λ (z : Place). item_with z NoStamp row v) (place_alike a b k)
item_alike a b (Stamped row v size word) k =
    ap (λ (z : Place). item_with z (stamp_of a size word) row v) (place_alike a b k)
    ∙ ap (λ (o : Option ℕ). item_with (place_of b) (stamp_by o (last_word_of a) size word) row v) k.version
    ∙ ap (λ (n : ℕ). item_with (place_of b) (stamp_by (version_of b) n size word) row v) k.last

abbrev pub AreProper : List StpPacket → Type 0
AreProper [] = Unit {0}
AreProper (p ∷ packets) = IsProper p × AreProper packets

-- they tell the same items, and the same is in force after them
pub told_alike : (a b l : List StpPacket) → AreProper l → AreAlike a b → told a l ≡ told b l
told_alike a b [] h k = refl
told_alike a b (p ∷ l) h k =
    let more = alike_more a b p h.0 k in
    ap (λ (o : Option StpItem). option_to_list o ++ told (a ++ p ∷ []) l) (item_alike (a ++ p ∷ []) (b ++ p ∷ []) p more)
    ∙ ap (λ (t : List StpItem). option_to_list (item_of (b ++ p ∷ []) p) ++ t) (told_alike (a ++ p ∷ []) (b ++ p ∷ []) l h.1 more)

pub alike_append : (a b l : List StpPacket) → AreProper l → AreAlike a b → AreAlike (a ++ l) (b ++ l)
alike_append a b [] h k = subst (λ (x : List StpPacket). AreAlike x (b ++ [])) (sym (append-nil a)) (subst (λ (x : List StpPacket). AreAlike a x) (sym (append-nil b)) k)
alike_append a b (p ∷ l) h k =
    subst (λ (x : List StpPacket). AreAlike x (b ++ (p ∷ l))) (append_assoc a (p ∷ []) l)
    (subst (λ (x : List StpPacket). AreAlike ((a ++ p ∷ []) ++ l) x) (append_assoc b (p ∷ []) l) (alike_append (a ++ p ∷ []) (b ++ p ∷ []) l h.1 (alike_more a b p h.0 k)))

-- a NULL tells nothing
null_proper : IsProper (Plain Null 0)
null_proper = omega arith

alike_null : (a : List StpPacket) → AreAlike a (a ++ Plain Null 0 ∷ [])
alike_null a = record {
  version = sym (version_more a (Plain Null 0));
  master = sym (master_more a (Plain Null 0) null_proper);
  channel = sym (channel_more a (Plain Null 0) null_proper);
  last = sym (last_more a (Plain Null 0) null_proper);
}

pub alike_nulls : (a b : List StpPacket) (count : ℕ) → AreAlike a b → AreAlike a (b ++ replicate count (Plain Null 0))
alike_nulls a b zero k = subst (λ (x : List StpPacket). AreAlike a x) (sym (append-nil b)) k
alike_nulls a b (suc count) k =
    let n = alike_null b in
    subst (λ (x : List StpPacket). AreAlike a x) (append_assoc b (Plain Null 0 ∷ []) (replicate count (Plain Null 0)))
    (alike_nulls a (b ++ Plain Null 0 ∷ []) count (record { version = k.version ∙ n.version; master = k.master ∙ n.master; channel = k.channel ∙ n.channel; last = k.last ∙ n.last }))

pub alike_none : AreAlike [] []
alike_none = record { version = refl; master = refl; channel = refl; last = refl }

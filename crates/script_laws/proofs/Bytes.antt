-- The bytes that the lines of a script put, by source.
use Rattle.std.proofs.Common.{◌≡◌, ℕ, List, [], ◌∷◌, ◌++◌, refl, sym, ◌∙◌, ap, subst, arith, Bool, true, false}
use Rattle.std.proofs.Common.{append-nil, append_assoc, Option, None, Some, Ok, ◌==◌, ◌||◌, flat_map, if◌then◌else◌}
use Rattle.std.proofs.lemmas.Bool.Decides.{nat_tests}
use Rattle.std.proofs.lemmas.List.Concat.{flat_map-append}
use Rattle.script_laws.specs.Names.{ItmPacket, IsProper, short, packets_for, nibbles_after, nibbles_for, written}
use Rattle.script_laws.specs.Names.{end_bytes, encoded, Tagged, joined, Plan, SourceKind, kind_of, are_sound, is_sound}
use Rattle.script_laws.specs.Names.{Item, Itm, Dwt, Stp, Raw, Line, Nothing, Of, Line2, One, Flush, Trigger, taken_by}
use Rattle.script_laws.specs.Names.{IsSayable, IsSaid2, by_item, packets_of, packets_by, given_packets, items_of}
use Rattle.script_laws.specs.Names.{items_by, given_items, puts_by, given_puts, raw_of, bytes_by, given_bytes}
use Rattle.script_laws.specs.Names.{item_bytes, tagged, ends_with, in_order, line_bytes, segments_of, script_segments}
use Rattle.dwt_packets.proofs.Inverses.{name_of_packet, in_range}
use Rattle.stp_grammar.specs.declared.packet.Order.{Order}
use Rattle.stp_grammar.specs.declared.packet.StpPacket.{StpPacket}
use Rattle.stp_encoder.specs.Puts.{Put, items_in, unmarked, Of as PutOf, Flush as FlushPut}
use Rattle.stp_encoder.specs.Bytes.{joined as joined_nibbles, filled}
use Rattle.stp_encoder.proofs.Joining.{filled_append}
use Rattle.stp_encoder.proofs.Standing.{written_more, written_flush}
use Rattle.source_events.specs.declared.plan.SourceKind.TheVariants as kinds
use Rattle.port_formatter.specs.Segments.{now_ended}
use Rattle.script_rebuild.proofs.AllSegments.{joined_with, joined_more, given_more, items_put}
use Rattle.script_rebuild.proofs.InOrder.{in_order_sound}
use Rattle.script_laws.specs.Puts.{CanAllBePut}
use Rattle.script_laws.specs.ReadBack.{is_line_of, has_line}
use Rattle.script_laws.proofs.MappedIds.{is_one, sound_first, sound_back, stp_in_order, trigger_none, other_out}

-- what a source of this kind sends: ITM packets, STP items, or bytes where it is not mapped
abbrev HasKind : Option SourceKind → Item → Type 0
HasKind (Some kinds.Itm) (Itm p) = Unit {0}
HasKind (Some kinds.Itm) (Dwt d) = Unit {0}
HasKind (Some kinds.Stp) (Stp item) = Unit {0}
HasKind None (Raw bytes) = Unit {0}
HasKind kind item = ⊥

taken_kind : (kind : Option SourceKind) (id : ℕ) (item : Item) (line : Line) → taken_by kind id item ≡ Ok line → HasKind kind item
taken_kind kind id item line e = grind arith

-- the bytes of a source among tagged bytes
abbrev pub bytes_for : ℕ → List Tagged → List ℕ
bytes_for x [] = []
bytes_for x (b ∷ t) = if b.id == x then b.byte ∷ bytes_for x t else bytes_for x t

-- the shortest bytes of packets, one after the other
abbrev pub spelled : List ItmPacket → List ℕ
spelled packets = flat_map short packets

abbrev pub AreProper : List ItmPacket → Type 0
AreProper [] = Unit {0}
AreProper (p ∷ packets) = IsProper p × AreProper packets

pub for_append : (x : ℕ) (a b : List Tagged) → bytes_for x (a ++ b) ≡ bytes_for x a ++ bytes_for x b
for_append x [] b = refl
for_append x (y ∷ a) b = by (y.id == x) (for_append x a b)
  where
    by : (v : Bool) → bytes_for x (a ++ b) ≡ bytes_for x a ++ bytes_for x b →
        (if v then y.byte ∷ bytes_for x (a ++ b) else bytes_for x (a ++ b)) ≡ (if v then y.byte ∷ bytes_for x a else bytes_for x a) ++ bytes_for x b
    by true e = ap (λ (l : List ℕ). y.byte ∷ l) e
    by false e = e

for_tagged : (x id : ℕ) (bytes : List ℕ) → bytes_for x (tagged id bytes) ≡ (if id == x then bytes else [])
for_tagged x id [] = by (id == x)
  where
    by : (v : Bool) → (let none : List ℕ = [] in none ≡ (if v then [] else []))
    by true = refl
    by false = refl
for_tagged x id (b ∷ bytes) = by (id == x) (for_tagged x id bytes)
  where
    by : (v : Bool) → bytes_for x (tagged id bytes) ≡ (if v then bytes else []) →
        (if v then b ∷ bytes_for x (tagged id bytes) else bytes_for x (tagged id bytes)) ≡ (if v then b ∷ bytes else [])
    by true e = ap (λ (l : List ℕ). b ∷ l) e
    by false e = e

-- no items have no bytes, however often they are flushed
none_nibbles : (order : Order) (before : List StpPacket) (puts : List Put) → items_in puts ≡ [] → nibbles_after order before [] puts ≡ []
none_nibbles order before [] e = refl
none_nibbles order before (PutOf item ∷ puts) e = cc
none_nibbles order before (FlushPut ∷ puts) e = none_nibbles order before puts e

none_encoded : (order : Order) (puts : List Put) → items_in puts ≡ [] → encoded order puts ≡ []
unfolding nibbles_for
none_encoded order puts e = ap (λ (n : List ℕ). joined_nibbles (filled n)) (none_nibbles order [] puts e)

nothing_written : (order : Order) → written order [] ≡ []
unfolding packets_for nibbles_for
nothing_written order = refl

module _ (plan : Plan) (x : ℕ) (sound : is_sound plan ≡ true) where
  abbrev ids : List ℕ
  ids = in_order plan.stp

  -- what lines put, and what one more puts of this source
  abbrev put : List Line2 → List Tagged
  put lines = joined (now_ended (segments_of plan.order ids lines))

  abbrev own : List Line2 → Line2 → List ℕ
  own before line = bytes_for x (line_bytes plan.order ids before line)

  -- a line of this source is for its kind
  abbrev OfKind : Option SourceKind → Line2 → Type 0
  OfKind kind (One Nothing) = Unit {0}
  OfKind kind (One (Of id item)) = id ≡ x → HasKind kind item
  OfKind kind Flush = Unit {0}
  OfKind kind (Trigger byte) = 125 ≡ x → kind ≡ None

  line_kind : (line : Line2) → IsSaid2 plan line → OfKind (kind_of plan x) line
  line_kind (One Nothing) s = tt
  line_kind (One (Of id item)) s = λ same.
      subst (λ (k : ℕ). HasKind (kind_of plan k) item) same (taken_kind (kind_of plan id) id item (Of id item) s.3)
  line_kind Flush s = tt
  line_kind (Trigger byte) s = λ same. subst (λ (k : ℕ). kind_of plan k ≡ None) same (trigger_none plan sound)

  -- what lines put of this source, where G is it so far
  module _ (kind : Option SourceKind) (k : kind_of plan x ≡ kind) (G : List Line2 → List ℕ)
      (step : (before : List Line2) (line : Line2) → OfKind kind line → G before ++ own before line ≡ G (before ++ line ∷ [])) where
    put_as : (before lines : List Line2) → CanAllBePut plan before lines → bytes_for x (put before) ≡ G before →
        bytes_for x (put (before ++ lines)) ≡ G (before ++ lines)
    put_as before [] g e = ap (λ (l : List Line2). bytes_for x (put l)) (append-nil before) ∙ e ∙ ap G (sym (append-nil before))
    put_as before (line ∷ lines) g e =
        let one = subst (λ (o : Option SourceKind). OfKind o line) k (line_kind line g.0.said) in
        subst (λ (l : List Line2). bytes_for x (put l) ≡ G l) (append_assoc before (line ∷ []) lines)
        (put_as (before ++ line ∷ []) lines g.1
        (ap (bytes_for x) (joined_more plan.order ids before line)
        ∙ for_append x (put before) (line_bytes plan.order ids before line)
        ∙ ap (λ (l : List ℕ). l ++ own before line) e ∙ step before line one))

  -- a line's bytes, and what it gives, where the item alone tells the bytes
  by_kind : (before : List Line2) (id : ℕ) (item : Item) (given : List ℕ) →
      (id ≡ x → item_bytes plan.order (given_puts id before) item ≡ given) →
      own before (One (Of id item)) ≡ (if id == x then given else [])
  by_kind before id item given h = for_tagged x id (item_bytes plan.order (given_puts id before) item) ∙ by (id == x) refl
    where
      by : (v : Bool) → (id == x) ≡ v → (if v then item_bytes plan.order (given_puts id before) item else []) ≡ (if v then given else [])
      by true e = h (grind (arith, nat_tests))
      by false e = refl

  -- a trigger's byte is of no mapped source
  no_trigger : (before : List Line2) (kind : SourceKind) (byte : ℕ) → OfKind (Some kind) (Trigger byte) → own before (Trigger byte) ≡ []
  no_trigger before kind byte h = for_tagged x 125 (byte ∷ []) ∙ by (125 == x) refl
    where
      by : (v : Bool) → (125 == x) ≡ v → (if v then byte ∷ [] else []) ≡ []
      by true e = (let no : Some kind ≡ None = h (grind (arith, nat_tests)) in cc)
      by false e = refl

  -- what a flush, or the end, puts
  module _ (given : ℕ → List Put) where
    ends_by : (id : ℕ) → bytes_for x (tagged id (end_bytes plan.order (given id))) ≡ (if id == x then end_bytes plan.order (given x) else [])
    ends_by id = for_tagged x id (end_bytes plan.order (given id)) ∙ by (id == x) refl
      where
        by : (v : Bool) → (id == x) ≡ v → (if v then end_bytes plan.order (given id) else []) ≡ (if v then end_bytes plan.order (given x) else [])
        by true e = (let same : id ≡ x = grind (arith, nat_tests) in ap (λ (k : ℕ). end_bytes plan.order (given k)) same)
        by false e = refl

    ends_more : (id : ℕ) (l : List ℕ) → bytes_for x (ends_with plan.order given (id ∷ l))
        ≡ (if id == x then end_bytes plan.order (given x) else []) ++ bytes_for x (ends_with plan.order given l)
    ends_more id l =
        for_append x (tagged id (end_bytes plan.order (given id))) (ends_with plan.order given l)
        ∙ ap (λ (b : List ℕ). b ++ bytes_for x (ends_with plan.order given l)) (ends_by id)

    ends_out : (l : List ℕ) → is_one x l ≡ false → bytes_for x (ends_with plan.order given l) ≡ []
    ends_out [] e = refl
    ends_out (id ∷ l) e = ends_more id l ∙ by (id == x) e (λ k. ends_out l k)
      where
        by : (v : Bool) → (v || is_one x l) ≡ false → (is_one x l ≡ false → bytes_for x (ends_with plan.order given l) ≡ []) →
            (if v then end_bytes plan.order (given x) else []) ++ bytes_for x (ends_with plan.order given l) ≡ []
        by true k more = (let z : true ≡ false = k in cc)
        by false k more = more k

    ends_in : (l : List ℕ) → are_sound l ≡ true → is_one x l ≡ true → bytes_for x (ends_with plan.order given l) ≡ end_bytes plan.order (given x)
    ends_in [] s e = (let z : false ≡ true = e in cc)
    ends_in (id ∷ l) s e =
        let f = sound_first id l s in
        ends_more id l ∙ by (id == x) refl e f.once (λ k. ends_in l f.rest k)
      where
        by : (v : Bool) → (id == x) ≡ v → (v || is_one x l) ≡ true → is_one id l ≡ false →
            (is_one x l ≡ true → bytes_for x (ends_with plan.order given l) ≡ end_bytes plan.order (given x)) →
            (if v then end_bytes plan.order (given x) else []) ++ bytes_for x (ends_with plan.order given l) ≡ end_bytes plan.order (given x)
        by true i k once more =
            let same : id ≡ x = grind (arith, nat_tests) in
            ap (λ (b : List ℕ). end_bytes plan.order (given x) ++ b) (ends_out l (subst (λ (z : ℕ). is_one z l ≡ false) same once))
            ∙ append-nil (end_bytes plan.order (given x))
        by false i k once more = more k

  -- packets
  item_spelled : (before : List Put) (item : Item) → HasKind (Some kinds.Itm) item → item_bytes plan.order before item ≡ spelled (packets_of item)
  item_spelled before (Itm p) h = sym (append-nil (short p))
  item_spelled before (Dwt d) h = sym (append-nil (item_bytes plan.order before (Dwt d)))
  item_spelled before item h = absurd h

  choose_spelled : (v : Bool) (packets : List ItmPacket) → (if v then spelled packets else []) ≡ spelled (if v then packets else [])
  choose_spelled true packets = refl
  choose_spelled false packets = refl

  line_spelled : is_one x ids ≡ false → (before : List Line2) (line : Line2) → OfKind (Some kinds.Itm) line →
      own before line ≡ spelled (by_item (packets_by x) line)
  line_spelled out before (One Nothing) h = refl
  line_spelled out before (One (Of id item)) h =
      by_kind before id item (spelled (packets_of item)) (λ same. item_spelled (given_puts id before) item (h same))
      ∙ choose_spelled (id == x) (packets_of item)
  line_spelled out before Flush h = ends_out (λ y. given_puts y before) ids out
  line_spelled out before (Trigger byte) h = no_trigger before kinds.Itm byte h

  packets_more : (before : List Line2) (line : Line2) →
      spelled (given_packets x before) ++ spelled (by_item (packets_by x) line) ≡ spelled (given_packets x (before ++ line ∷ []))
  packets_more before line =
      sym (flat_map-append short (given_packets x before) (by_item (packets_by x) line))
      ∙ ap spelled (sym (flat_map-append (by_item (packets_by x)) before (line ∷ [])
      ∙ ap (λ (l : List ItmPacket). given_packets x before ++ l) (append-nil (by_item (packets_by x) line))))

  -- bytes
  item_raw : (before : List Put) (item : Item) → HasKind None item → item_bytes plan.order before item ≡ raw_of item
  item_raw before (Raw bytes) h = refl
  item_raw before item h = absurd h

  line_raw : is_one x ids ≡ false → (before : List Line2) (line : Line2) → OfKind None line → own before line ≡ bytes_by x line
  line_raw out before (One Nothing) h = refl
  line_raw out before (One (Of id item)) h = by_kind before id item (raw_of item) (λ same. item_raw (given_puts id before) item (h same))
  line_raw out before Flush h = ends_out (λ y. given_puts y before) ids out
  line_raw out before (Trigger byte) h = for_tagged x 125 (byte ∷ [])

  raw_more : (before : List Line2) (line : Line2) → given_bytes x before ++ bytes_by x line ≡ given_bytes x (before ++ line ∷ [])
  raw_more before line =
      sym (flat_map-append (bytes_by x) before (line ∷ []) ∙ ap (λ (l : List ℕ). given_bytes x before ++ l) (append-nil (bytes_by x line)))

  -- STP items
  line_written : is_one x ids ≡ true → (before : List Line2) (line : Line2) → OfKind (Some kinds.Stp) line →
      written plan.order (given_puts x before) ++ own before line ≡ written plan.order (given_puts x before ++ puts_by x line)
  line_written among before (One Nothing) h =
      append-nil (written plan.order (given_puts x before)) ∙ ap (written plan.order) (sym (append-nil (given_puts x before)))
  line_written among before Flush h =
      ap (λ (l : List ℕ). written plan.order (given_puts x before) ++ l)
      (ends_in (λ y. given_puts y before) ids (in_order_sound plan.stp (sound_back plan.itm plan.stp sound)) among)
      ∙ sym (written_flush plan.order (given_puts x before))
  line_written among before (Trigger byte) h =
      ap (λ (l : List ℕ). written plan.order (given_puts x before) ++ l) (no_trigger before kinds.Stp byte h)
      ∙ append-nil (written plan.order (given_puts x before)) ∙ ap (written plan.order) (sym (append-nil (given_puts x before)))
  line_written among before (One (Of id item)) h =
      ap (λ (l : List ℕ). written plan.order (given_puts x before) ++ l) (for_tagged x id (item_bytes plan.order (given_puts id before) item))
      ∙ by (id == x) refl
    where
      of_item : (item : Item) → HasKind (Some kinds.Stp) item →
          written plan.order (given_puts x before) ++ item_bytes plan.order (given_puts x before) item ≡ written plan.order (given_puts x before ++ unmarked (items_of item))
      of_item (Stp item) k = sym (written_more plan.order (given_puts x before) item)
      of_item item k = absurd k

      by : (v : Bool) → (id == x) ≡ v →
          written plan.order (given_puts x before) ++ (if v then item_bytes plan.order (given_puts id before) item else [])
          ≡ written plan.order (given_puts x before ++ unmarked (if v then items_of item else []))
      by true e =
          let same : id ≡ x = grind (arith, nat_tests) in
          ap (λ (k : ℕ). written plan.order (given_puts x before) ++ item_bytes plan.order (given_puts k before) item) same ∙ of_item item (h same)
      by false e = append-nil (written plan.order (given_puts x before)) ∙ ap (written plan.order) (sym (append-nil (given_puts x before)))

  -- all bytes of the script
  module _ (lines : List Line2) (g : CanAllBePut plan [] lines) where
    abbrev given : ℕ → List Put
    given y = given_puts y lines

    abbrev ends : List ℕ
    ends = bytes_for x (ends_with plan.order given ids)

    all_parts : (so_far : List ℕ) → bytes_for x (put lines) ≡ so_far → bytes_for x (joined (script_segments plan lines)) ≡ so_far ++ ends
    all_parts so_far e =
        ap (bytes_for x) (joined_with (segments_of plan.order ids lines) (ends_with plan.order given ids))
        ∙ for_append x (put lines) (ends_with plan.order given ids) ∙ ap (λ (l : List ℕ). l ++ ends) e

    without_end : (so_far : List ℕ) → is_one x ids ≡ false → bytes_for x (put lines) ≡ so_far → bytes_for x (joined (script_segments plan lines)) ≡ so_far
    without_end so_far out e = all_parts so_far e ∙ ap (λ (l : List ℕ). so_far ++ l) (ends_out given ids out) ∙ append-nil so_far

    pub itm_bytes : kind_of plan x ≡ Some kinds.Itm → bytes_for x (joined (script_segments plan lines)) ≡ spelled (given_packets x lines)
    itm_bytes k =
        let out = other_out plan x sound (λ s. (let z : Some kinds.Itm ≡ Some kinds.Stp = sym k ∙ s in cc)) in
        without_end (spelled (given_packets x lines)) out
        (put_as (Some kinds.Itm) k (λ l. spelled (given_packets x l))
        (λ before line h. ap (λ (l : List ℕ). spelled (given_packets x before) ++ l) (line_spelled out before line h) ∙ packets_more before line)
        [] lines g refl)

    pub raw_bytes : kind_of plan x ≡ None → bytes_for x (joined (script_segments plan lines)) ≡ given_bytes x lines
    raw_bytes k =
        let out = other_out plan x sound (λ s. (let z = sym k ∙ s in cc)) in
        without_end (given_bytes x lines) out
        (put_as None k (λ l. given_bytes x l)
        (λ before line h. ap (λ (l : List ℕ). given_bytes x before ++ l) (line_raw out before line h) ∙ raw_more before line)
        [] lines g refl)

    pub stp_bytes : kind_of plan x ≡ Some kinds.Stp → bytes_for x (joined (script_segments plan lines)) ≡ encoded plan.order (given_puts x lines)
    stp_bytes k =
        let among = stp_in_order plan x sound k in
        all_parts (written plan.order (given_puts x lines))
        (put_as (Some kinds.Stp) k (λ l. written plan.order (given_puts x l))
        (λ before line h. line_written among before line h ∙ ap (written plan.order) (sym (given_more x before line)))
        [] lines g (sym (nothing_written plan.order)))
        ∙ ap (λ (l : List ℕ). written plan.order (given_puts x lines) ++ l)
        (ends_in given ids (in_order_sound plan.stp (sound_back plan.itm plan.stp sound)) among)
        ∙ sym (filled_append (nibbles_for plan.order (given_puts x lines)))

  -- without a line of the source nothing is given
  either : (a b : Bool) → (a || b) ≡ false → (a ≡ false) × (b ≡ false)
  either true b e = cc
  either false b e = (refl, e)

  none_of : {A : Type 0} (given : Line2 → List A) → ((line : Line2) → is_line_of x line ≡ false → given line ≡ []) →
      (lines : List Line2) → has_line x lines ≡ false → flat_map given lines ≡ []
  none_of given none [] e = refl
  none_of {A = A} given none (line ∷ lines) e =
      let k = either (is_line_of x line) (has_line x lines) e in
      ap (λ (l : List A). l ++ flat_map given lines) (none line k.0) ∙ none_of given none lines k.1

  none_by : {A : Type 0} (given : Line → List A) (of : Item → List A) → given Nothing ≡ [] →
      ((id : ℕ) (item : Item) → given (Of id item) ≡ (if id == x then of item else [])) →
      (line : Line2) → is_line_of x line ≡ false → by_item given line ≡ []
  none_by given of n f (One Nothing) e = n
  none_by {A = A} given of n f (One (Of id item)) e = f id item ∙ ap (λ (v : Bool). let r : List A = if v then of item else [] in r) e
  none_by given of n f Flush e = refl
  none_by given of n f (Trigger byte) e = refl

  pub none_items : (lines : List Line2) → has_line x lines ≡ false → given_items x lines ≡ []
  none_items lines e = none_of (by_item (items_by x)) (none_by (items_by x) items_of refl (λ id item. refl)) lines e

  pub none_packets : (lines : List Line2) → has_line x lines ≡ false → given_packets x lines ≡ []
  none_packets lines e = none_of (by_item (packets_by x)) (none_by (packets_by x) packets_of refl (λ id item. refl)) lines e

  none_byte : (line : Line2) → is_line_of x line ≡ false → bytes_by x line ≡ []
  none_byte (One Nothing) e = refl
  none_byte (One (Of id item)) e = ap (λ (v : Bool). let r : List ℕ = if v then raw_of item else [] in r) e
  none_byte Flush e = refl
  none_byte (Trigger byte) e = ap (λ (v : Bool). let r : List ℕ = if v then byte ∷ [] else [] in r) e

  pub none_bytes : (lines : List Line2) → CanAllBePut plan [] lines → has_line x lines ≡ false → bytes_for x (joined (script_segments plan lines)) ≡ []
  none_bytes lines g e = by (kind_of plan x) refl
    where
      by : (o : Option SourceKind) → kind_of plan x ≡ o → bytes_for x (joined (script_segments plan lines)) ≡ []
      by None k = raw_bytes lines g k ∙ none_of (bytes_by x) none_byte lines e
      by (Some kinds.Itm) k = itm_bytes lines g k ∙ ap spelled (none_packets lines e)
      by (Some kinds.Stp) k =
          stp_bytes lines g k ∙ none_encoded plan.order (given_puts x lines) (items_put x lines ∙ none_items lines e)

-- the packets that lines give are proper
proper_append : (a b : List ItmPacket) → AreProper a → AreProper b → AreProper (a ++ b)
proper_append [] b p q = q
proper_append (x ∷ a) b p q = (p.0, proper_append a b p.1 q)

item_proper : (item : Item) → IsSayable item → AreProper (packets_of item)
item_proper (Itm p) h = (h.0, tt)
item_proper (Dwt d) h = (let k = name_of_packet d (in_range d h) in (k.0, k.1), tt)
item_proper item h = tt

line_proper : (plan : Plan) (x : ℕ) (line : Line2) → IsSaid2 plan line → AreProper (by_item (packets_by x) line)
line_proper plan x (One (Of id item)) s = by (id == x)
  where
    by : (v : Bool) → AreProper (if v then packets_of item else [])
    by true = item_proper item s.2
    by false = tt
line_proper plan x line s = tt

pub all_proper : (plan : Plan) (x : ℕ) (before lines : List Line2) → CanAllBePut plan before lines → AreProper (given_packets x lines)
all_proper plan x before [] g = tt
all_proper plan x before (line ∷ lines) g =
    proper_append (by_item (packets_by x) line) (given_packets x lines) (line_proper plan x line g.0.said) (all_proper plan x (before ++ line ∷ []) lines g.1)

-- What a decoder stands for while bytes wait in it.
use Rattle.std.proofs.Common.{◌≡◌, ℕ, zero, suc, ◌+◌, ◌-◌, ◌*◌, ◌/◌, ◌<◌, ◌≤◌, List, [], ◌∷◌, ◌++◌, length, take}
use Rattle.std.proofs.Common.{refl, sym, ◌∙◌, ap, subst, arith, Option, None, Some, Bool, true, false, cond}
use Rattle.std.specs.Prelude.{IfSome, nat_lt}
use Rattle.std.proofs.lemmas.Bool.Decides.{nat_tests}
use Rattle.std.proofs.lemmas.List.{take_all, length-take-le}
use Rattle.stp_codec.specs.Names.{item_at, StpItem, Go, End, Fail, Next, Mode, Placed, units_of, nibbles_of, hunts}
use Rattle.stp_codec.specs.Names.{is_locked, skipped_of, Order, Msn, StpPacket, Attribution, Partial, Start, IsProper}
use Rattle.stp_codec.specs.Names.{rule, count_of, Passes}
use Rattle.stp_grammar.proofs.Beginning.{start_never_fails}
use Rattle.stp_grammar.proofs.Counting.{counts}
use Rattle.stp_codec.specs.Reading.{items_in}
use Rattle.stp_codec.specs.Wholes.{nibbles_in, reached, Fronts, left_after, left_by, begun, Leaves, between}
use Rattle.stp_codec.specs.Wholes.{Ends}
use Rattle.stp_codec.specs.declared.flat.TheConstants.{WINDOW}
use Rattle.trace_values.specs.declared.taking.TakenAtOnce.{TakenAtOnce}
use Rattle.stp_codec.specs.declared.decoder.StpDecoder.{StpDecoder}
use Rattle.trace_values.specs.declared.taking.Found.{Found}
use Rattle.trace_values.specs.declared.taking.Found.TheVariants.{Ends as EndsIn, Waits, Unknown}
use Rattle.stp_codec.specs.declared.flat.PacketParts.{PacketParts}
use Rattle.stp_codec.specs.Parts.{packet_of}
use Rattle.stp_codec.specs.Decoder.{waiting_in, partial_of, begun_of, BegunAt, IsSettled, StandsWith, Stands, Reads}
use Rattle.stp_codec.specs.Decoder.{ReadsAt, order_of, is_hunter, held_of, skipped_by, read_of, is_live, has_locked}
use Rattle.stp_codec.specs.Decoder.{Finishes, IsReady, Settles, HoldsAhead, Copies, Idles, TakesPart, Finds}
use Rattle.stp_codec.proofs.Taking.{At}
use Rattle.stp_codec.proofs.PacketPieces.{take_nibbles}
use Rattle.stp_codec.proofs.PartPieces.{inside_count, inside_passes}
use Rattle.stp_codec.proofs.Unread.{nibbles_append, reached_on, fronts_on, fronts_behind, reached_none, some_behind}
use Rattle.stp_codec.proofs.Unread.{ends_behind, take_fewer}

-- the same in all parts
pub stands_as : (d e : StpDecoder) (s t : Partial) → e.order ≡ d.order → e.mode ≡ d.mode → e.live ≡ d.live → e.attribution ≡ d.attribution → t ≡ s →
    (n : List Placed) → StandsWith d s n → StandsWith e t n
stands_as d e s t order mode live attribution same n h =
    subst (λ (x : Order). At x e.mode e.live t e.attribution n) (sym order)
    (subst (λ (x : Mode). At d.order x e.live t e.attribution n) (sym mode)
    (subst (λ (x : Bool). At d.order d.mode x t e.attribution n) (sym live)
    (subst (λ (x : Partial). At d.order d.mode d.live x e.attribution n) (sym same)
    (subst (λ (x : Attribution). At d.order d.mode d.live s x n) (sym attribution) h))))

-- where no bytes wait
pub settled : (d : StpDecoder) → d.waiting ≡ 0 → partial_of d ≡ begun_of d
settled d e = reached_none d.order (begun_of d) d.held d.waiting e

pub filled : (d : StpDecoder) → IsSettled d → partial_of d ≡ d.partial
filled d e = settled d e.0 ∙ e.1

pub to_stands : (d : StpDecoder) → IsSettled d → (n : List Placed) → ReadsAt d n → StandsWith d (partial_of d) n
to_stands d e n h = subst (λ (p : Partial). StandsWith d p n) (sym (filled d e)) h

pub from_begun : (d : StpDecoder) → d.waiting ≡ 0 → (n : List Placed) → BegunAt d n → StandsWith d (partial_of d) n
from_begun d e n h = subst (λ (p : Partial). StandsWith d p n) (sym (settled d e)) h

pub held_read : (d : StpDecoder) → IsSettled d → held_of d ≡ read_of d
held_read d e = ap (λ (p : Partial). count_of p) (filled d e)

pub held_begun : (d : StpDecoder) → d.waiting ≡ 0 → held_of d ≡ count_of (begun_of d)
held_begun d e = ap (λ (p : Partial). count_of p) (settled d e)

-- the first nibble, or more
pub begun_first : (order : Order) (first : ℕ) (partial : Partial) → first < 16 → begun order first partial ≡ left_by order first
begun_first order first partial h = ap (λ (t : Bool). cond t (left_by order first) partial) (let e : nat_lt first 16 ≡ true = grind (arith, nat_tests) in e)

pub begun_again : (order : Order) (first : ℕ) (partial t : Partial) → t ≡ begun order first partial → begun order first t ≡ t
begun_again order first partial t e = by (nat_lt first 16) e where
  by : (b : Bool) → t ≡ cond b (left_by order first) partial → cond b (left_by order first) t ≡ t
  by true f = sym f
  by false f = refl

-- what is left of a byte: its high nibble, or nothing
pub left_half : (order : Order) (half byte : ℕ) → byte < 256 → half ≤ 1 → (P : ℕ → Partial → Type 0) →
    P 0 (left_by order (byte / 16)) → P 1 Start → P half (left_by order (byte / 16 * (1 - half)))
left_half order zero byte small h P a b =
    subst (P 0) (ap (left_by order) (let e : byte / 16 ≡ byte / 16 * (1 - 0) = omega arith in e)) a
left_half order (suc zero) byte small h P a b =
    subst (P 1) (ap (left_by order) (let e : 0 ≡ byte / 16 * (1 - 1) = omega arith in e)) b
left_half order (suc (suc n)) byte small h P a b = absurd (omega arith)

pub left_leaves : (order : Order) (b : ℕ) → b < 16 → Leaves (rule order Start b) (left_by order b)
left_leaves order b h = by (rule order Start b) refl where
  by : (x : Next Partial StpPacket) → rule order Start b ≡ x → Leaves x (left_after x)
  by (Go t) e = refl
  by (End v) e = refl
  by (Fail r) e = absurd (start_never_fails order r b h (sym e))

-- the bytes that wait end nothing
pub fronts_of : (d : StpDecoder) → Fronts d.order (begun_of d) (nibbles_in (waiting_in d))
fronts_of d = by d.waiting refl where
  by : (n : ℕ) → d.waiting ≡ n → Fronts d.order (begun_of d) (nibbles_in (waiting_in d))
  by zero e = subst (λ (k : ℕ). Fronts d.order (begun_of d) (nibbles_in (take k d.held))) (sym e) refl
  by (suc n) e = d.fronts (omega (arith, e))

pub waiting_length : (d : StpDecoder) → length (waiting_in d) ≡ d.waiting
waiting_length d = (let s = d.size in let f = d.few in length-take-le d.waiting d.held (omega (arith, s, f)))

pub held_count : (d : StpDecoder) → held_of d ≡ count_of (begun_of d) + 2 * d.waiting
held_count d =
    let l = waiting_length d in
    let k = inside_count d.order (begun_of d) (partial_of d) (waiting_in d) (fronts_of d) in
    omega (arith, k, l)

-- a packet's first nibble leaves at most one
pub left_count : (order : Order) (first : ℕ) → count_of (left_by order first) ≤ 1
left_count order first = by (rule order Start first) refl where
  by : (x : Next Partial StpPacket) → rule order Start first ≡ x → count_of (left_after x) ≤ 1
  by (Go t) e = (let n = counts order Start t first e in omega (arith, n))
  by (End v) e = omega arith
  by (Fail r) e = omega arith

pub read_few : (d : StpDecoder) → 0 < d.waiting → count_of (begun_of d) ≤ 1
read_few d h = subst (λ (p : Partial). count_of p ≤ 1) (sym (begun_first d.order d.first d.partial (d.waits h))) (left_count d.order d.first)

-- bytes that were read
module _ (d e : StpDecoder) (s : Settles d e) where
  pub settles_reads : (u : List Placed) → Stands d u → Reads e u
  settles_reads u h = stands_as d e (partial_of d) e.partial s.order s.mode s.live s.attribution s.partial (nibbles_of u) h

  pub settles_at : (n : List Placed) → StandsWith d (partial_of d) n → ReadsAt e n
  settles_at n h = stands_as d e (partial_of d) e.partial s.order s.mode s.live s.attribution s.partial n h

  pub settles_read : read_of e ≡ held_of d
  settles_read = ap (λ (p : Partial). count_of p) s.partial

  pub settles_skipped : skipped_by e ≡ skipped_by d
  settles_skipped = ap (λ (m : Mode). skipped_of m) s.mode

  pub settles_same : (order_of e ≡ order_of d) × (is_hunter e ≡ is_hunter d)
  settles_same = (s.order, ap (λ (m : Mode). hunts m) s.mode)

  pub settles_idle : Idles d e
  settles_idle = (λ u h. to_stands e s.none (nibbles_of u) (settles_reads u h), held_read e s.none ∙ settles_read, settles_skipped)

-- bytes that were copied
module _ (d e : StpDecoder) (ahead : List ℕ) (c : Copies d e ahead) where
  copies_partial : partial_of e ≡ partial_of d
  copies_partial =
      ap (λ (o : Order). reached o (begun o e.first e.partial) (nibbles_in (waiting_in e))) c.order
      ∙ ap (λ (p : Partial). reached d.order (begun d.order e.first p) (nibbles_in (waiting_in e))) c.partial
      ∙ ap (λ (f : ℕ). reached d.order (begun d.order f d.partial) (nibbles_in (waiting_in e))) c.first
      ∙ ap (λ (l : List ℕ). reached d.order (begun_of d) (nibbles_in l)) c.bytes

  copies_same : (order_of e ≡ order_of d) × (is_hunter e ≡ is_hunter d)
  copies_same = (c.order, ap (λ (m : Mode). hunts m) c.mode)

  copies_idle : Idles d e
  copies_idle = (
    λ u h. stands_as d e (partial_of d) (partial_of e) c.order c.mode c.live c.attribution copies_partial (nibbles_of u) h,
    ap (λ (p : Partial). count_of p) copies_partial,
    ap (λ (m : Mode). skipped_of m) c.mode,
  )

  pub copies_ready : IsReady d → IsReady e
  copies_ready r = record {
    live = c.live ∙ r.live;
    order = c.order ∙ r.order;
    first = subst (λ (n : ℕ). n < 16) (sym c.first) r.first;
    locked = ap (λ (m : Mode). is_locked m) c.mode ∙ r.locked;
  }

  pub copies_fronts : (x : List ℕ) → Fronts (order_of d) (partial_of d) x → Fronts (order_of e) (partial_of e) x
  copies_fronts x f = subst (λ (o : Order). Fronts o (partial_of e) x) (sym c.order) (subst (λ (p : Partial). Fronts (order_of d) p x) (sym copies_partial) f)

-- one after another
module _ (d e f : StpDecoder) (same : (order_of e ≡ order_of d) × (is_hunter e ≡ is_hunter d)) (i : Idles d e) where
  pub idle_idle : Idles e f → Idles d f
  idle_idle j = (λ u h. j.0 u (i.0 u h), j.1 ∙ i.1, j.2 ∙ i.2)

  pub idle_part : (ahead : List ℕ) (count : ℕ) (taken : TakenAtOnce StpItem) → TakesPart e f ahead count taken → TakesPart d f ahead count taken
  idle_part ahead count taken t = record {
    bytes = t.bytes;
    passes = λ u front last h units.
        subst (λ (o : Order). Passes (items_in o (is_hunter d)) (Stands f) u front last (item_at taken.half taken.item)) same.0
        (subst (λ (b : Bool). Passes (items_in (order_of e) b) (Stands f) u front last (item_at taken.half taken.item)) same.1
        (t.passes u front last (i.0 u h) units));
    fits = t.fits;
    few = (let k = t.few in let l = i.1 in let m = i.2 in omega (arith, k, l, m));
  }

  pub idle_parts : (ahead : List ℕ) (count : ℕ) (o : Option (TakenAtOnce StpItem)) → IfSome o (TakesPart e f ahead count) → IfSome o (TakesPart d f ahead count)
  idle_parts ahead count None t = tt
  idle_parts ahead count (Some taken) t = idle_part ahead count taken t

  idle_finds : (ahead : List ℕ) (count : ℕ) (found : Found PacketParts) → Finds e f ahead count found → Finds d f ahead count found
  idle_finds ahead count (EndsIn parts) h = (h.0, h.1, h.2, idle_idle h.3)
  idle_finds ahead count Waits h = idle_part ahead count (record { bytes = count; half = 1; item = None }) h
  idle_finds ahead count Unknown h = idle_idle h

-- and after bytes were copied
pub copies_finds : (d e f : StpDecoder) (ahead : List ℕ) (count : ℕ) (found : Found PacketParts) → Copies d e ahead → Finds e f ahead count found → Finds d f ahead count found
copies_finds d e f ahead count found c h = idle_finds d e f (copies_same d e ahead c) (copies_idle d e ahead c) ahead count found h

-- a packet was found, and nothing was taken
pub finds_packet : (d : StpDecoder) (ahead : List ℕ) (count : ℕ) (x : PacketParts) → x.number < 36 → (x.number ≡ 35 → x.payload ≡ 0) → x.nibbles ≤ 2 * count → IsReady d → Finishes d ahead x.nibbles (packet_of x) → Finds d d ahead count (EndsIn x)
finds_packet d ahead count x number none within r p = (p.some, within, record { order = r.order; number = number; none = none; packet = p }, (λ u h. h, refl, refl))

pub same_order : (d e : StpDecoder) → (order_of e ≡ order_of d) × (is_hunter e ≡ is_hunter d) → (P : Order → Bool → Type 0) → P (order_of e) (is_hunter e) → P (order_of d) (is_hunter d)
same_order d e same P h = subst (λ (o : Order). P o (is_hunter d)) same.0 (subst (λ (b : Bool). P (order_of e) b) same.1 h)

-- the nibbles of the first bytes
first_nibbles : (count : ℕ) (bytes : List ℕ) → nibbles_in (take count bytes) ≡ between (nibbles_in bytes) 0 (2 * count)
first_nibbles count bytes =
    take_nibbles count bytes ∙ ap (λ (n : ℕ). take n (nibbles_in bytes)) (let z : 2 * count ≡ 2 * count - 0 = omega arith in z)

-- a packet that can be read at once
module _ (d : StpDecoder) (r : IsReady d) where
  parts_ends : (w : List ℕ) (v : StpPacket) → Ends Msn (Go (left_by Msn d.first)) w v → Ends d.order (Go (begun_of d)) w v
  parts_ends w v k =
      subst (λ (t : Partial). Ends d.order (Go t) w v) (sym (begun_first d.order d.first d.partial r.first))
      (subst (λ (o : Order). Ends o (Go (left_by o d.first)) w v) (sym r.order) k)

  -- where no bytes wait
  module _ (e : d.waiting ≡ 0) (ahead : List ℕ) (n : ℕ) (v : StpPacket) where
    fresh_ends : Ends Msn (Go (left_by Msn d.first)) (between (nibbles_in ahead) 0 n) v → Ends d.order (Go (partial_of d)) (between (nibbles_in ahead) 0 n) v
    fresh_ends k =
        subst (λ (t : Partial). Ends d.order (Go t) (between (nibbles_in ahead) 0 n) v) (sym (settled d e))
        (parts_ends (between (nibbles_in ahead) 0 n) v k)

    pub fresh_finishes : 0 < n → n ≤ 2 * length ahead → Ends Msn (Go (left_by Msn d.first)) (between (nibbles_in ahead) 0 n) v → IsProper v → Finishes d ahead n v
    fresh_finishes some within k proper = record { locked = r.locked; some = some; within = within; whole = fresh_ends k; proper = proper }

  -- and those of these bytes are within it
  parts_fronts : (w : List ℕ) → Fronts Msn (left_by Msn d.first) w → Fronts d.order (begun_of d) w
  parts_fronts w k =
      subst (λ (t : Partial). Fronts d.order t w) (sym (begun_first d.order d.first d.partial r.first))
      (subst (λ (o : Order). Fronts o (left_by o d.first) w) (sym r.order) k)

  pub fresh_fronts : d.waiting ≡ 0 → (ahead : List ℕ) (count : ℕ) → Fronts Msn (left_by Msn d.first) (between (nibbles_in ahead) 0 (2 * count)) →
      Fronts (order_of d) (partial_of d) (nibbles_in (take count ahead))
  fresh_fronts e ahead count k =
      subst (λ (t : Partial). Fronts d.order t (nibbles_in (take count ahead))) (sym (settled d e))
      (parts_fronts (nibbles_in (take count ahead))
      (subst (λ (x : List ℕ). Fronts Msn (left_by Msn d.first) x) (sym (first_nibbles count ahead)) k))

  pub held_fronts : (ahead : List ℕ) (count : ℕ) → HoldsAhead d ahead count → d.waiting + count ≤ 24 →
      Fronts Msn (left_by Msn d.first) (between (nibbles_in (take 24 d.held)) 0 (2 * d.waiting + 2 * count)) →
      Fronts (order_of d) (partial_of d) (nibbles_in (take count ahead))
  held_fronts ahead count h few k =
      let all : between (nibbles_in (take 24 d.held)) 0 (2 * d.waiting + 2 * count) ≡ nibbles_in (waiting_in d) ++ nibbles_in (take count ahead) =
      ap (between (nibbles_in (take 24 d.held)) 0) (let q : 2 * d.waiting + 2 * count ≡ 2 * (d.waiting + count) = omega arith in q)
      ∙ sym (first_nibbles (d.waiting + count) (take 24 d.held)) ∙ ap nibbles_in (take_fewer (d.waiting + count) 24 d.held few ∙ h)
      ∙ nibbles_append (waiting_in d) (take count ahead) in
      fronts_behind d.order (begun_of d) (nibbles_in (waiting_in d)) (nibbles_in (take count ahead)) (fronts_of d)
      (parts_fronts (nibbles_in (waiting_in d) ++ nibbles_in (take count ahead))
      (subst (λ (x : List ℕ). Fronts Msn (left_by Msn d.first) x) all k))

  -- where these bytes are behind those that wait
  module _ (ahead : List ℕ) (h : (more : ℕ) → more ≤ WINDOW → HoldsAhead d ahead more) (n : ℕ) (v : StpPacket) (most : n ≤ 48)
      (k : Ends Msn (Go (left_by Msn d.first)) (between (nibbles_in (take 24 d.held)) 0 n) v) where
    few : length (waiting_in d) ≤ 24
    few = (let l = waiting_length d in let f = d.few in omega (arith, l, f))

    window : take 24 d.held ≡ waiting_in d ++ take (24 - length (waiting_in d)) ahead
    window =
        let l = waiting_length d in
        let f = d.few in
        let all : d.waiting + (24 - d.waiting) ≡ 24 = omega (arith, f) in
        ap (λ i. take i d.held) (sym all) ∙ h (24 - d.waiting) (omega arith) ∙ ap (λ i. waiting_in d ++ take (24 - i) ahead) (sym l)

    pub held_some : 2 * d.waiting < n
    held_some =
        let l = waiting_length d in
        let s = some_behind d.order (begun_of d) (waiting_in d) ahead (take 24 d.held) n v few most window (fronts_of d) (parts_ends (between (nibbles_in (take 24 d.held)) 0 n) v k) in
        omega (arith, l, s)

    held_ends : Ends d.order (Go (partial_of d)) (between (nibbles_in ahead) 0 (n - 2 * d.waiting)) v
    held_ends =
        subst (λ (i : ℕ). Ends d.order (Go (partial_of d)) (between (nibbles_in ahead) 0 (n - 2 * i)) v) (waiting_length d)
        (ends_behind d.order (begun_of d) (waiting_in d) ahead (take 24 d.held) n v few most window (fronts_of d) (parts_ends (between (nibbles_in (take 24 d.held)) 0 n) v k))

    pub held_finishes : n - 2 * d.waiting ≤ 2 * length ahead → IsProper v → Finishes d ahead (n - 2 * d.waiting) v
    held_finishes within proper =
        let s = held_some in
        record { locked = r.locked; some = omega (arith, s); within = within; whole = held_ends; proper = proper }

-- bytes that wait from now on
module _ (d : StpDecoder) (ahead : List ℕ) (count : ℕ) (held : HoldsAhead d ahead count) (fronts : Fronts (order_of d) (partial_of d) (nibbles_in (take count ahead))) where
  more_nibbles : nibbles_in (take (d.waiting + count) d.held) ≡ nibbles_in (waiting_in d) ++ nibbles_in (take count ahead)
  more_nibbles = ap nibbles_in held ∙ nibbles_append (waiting_in d) (take count ahead)

  pub more_fronts : Fronts d.order (begun_of d) (nibbles_in (take (d.waiting + count) d.held))
  more_fronts =
      subst (λ (x : List ℕ). Fronts d.order (begun_of d) x) (sym more_nibbles)
      (fronts_on d.order (begun_of d) (nibbles_in (waiting_in d)) (nibbles_in (take count ahead)) (fronts_of d) fronts)

  more_reached : reached d.order (begun_of d) (nibbles_in (take (d.waiting + count) d.held)) ≡ reached d.order (partial_of d) (nibbles_in (take count ahead))
  more_reached =
      ap (λ (x : List ℕ). reached d.order (begun_of d) x) more_nibbles
      ∙ reached_on d.order (begun_of d) (nibbles_in (waiting_in d)) (nibbles_in (take count ahead)) (fronts_of d)

  pub more_count : count ≤ length ahead → count_of (reached d.order (begun_of d) (nibbles_in (take (d.waiting + count) d.held))) ≡ held_of d + 2 * count
  more_count within =
      let l = length-take-le count ahead within in
      let k = inside_count d.order (partial_of d) (reached d.order (partial_of d) (nibbles_in (take count ahead))) (take count ahead) fronts in
      let m = ap (λ (p : Partial). count_of p) more_reached in
      omega (arith, k, l, m)

  pub more_passes : is_live d ≡ true → has_locked d ≡ true → (u front : List Placed) (last : Placed) → Stands d u → units_of (front ++ last ∷ []) ≡ take count ahead →
      Passes (items_in (order_of d) (is_hunter d))
      (λ w. At d.order d.mode d.live (reached d.order (begun_of d) (nibbles_in (take (d.waiting + count) d.held))) d.attribution (nibbles_of w)) u front last None
  more_passes live locked u front last s e =
      let t = reached d.order (partial_of d) (nibbles_in (take count ahead)) in
      subst (λ (p : Partial). Passes (items_in (order_of d) (is_hunter d)) (λ w. At d.order d.mode d.live p d.attribution (nibbles_of w)) u front last None) (sym more_reached)
      (subst (λ (l : Bool). Passes (items_in (order_of d) (is_hunter d)) (λ w. At d.order d.mode l t d.attribution (nibbles_of w)) u front last None) (sym live)
      (inside_passes d.order d.mode d.attribution locked (partial_of d) t (take count ahead) u front last fronts
      (subst (λ (l : Bool). At d.order d.mode l (partial_of d) d.attribution (nibbles_of u)) live s)
      (e ∙ sym (take_all (length (take count ahead)) (take count ahead) (omega arith)))))

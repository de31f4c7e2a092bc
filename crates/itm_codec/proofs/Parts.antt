-- What a decoder says of a part that it took.
use Rattle.std.proofs.Common.{◌≡◌, ℕ, ◌+◌, ◌<◌, ◌≤◌, List, [], ◌∷◌, ◌++◌, length, take, IfSome, Option, Some, None, Bool, true, refl, sym, ◌∙◌, ap, subst, arith}
use Rattle.std.proofs.lemmas.List.{length-take-le}
use Rattle.itm_codec.specs.Names.{Mode, Placed, units_of, by_unit, walk, StandsIn, is_locked, skipped_of}
use Rattle.itm_codec.specs.Names.{ItmPacket, Sync, Partial, Header, rule, count_of, IsProper, Found, Ends, Waits}
use Rattle.itm_codec.specs.Names.{Unknown, TakenAtOnce, Passes, item_at}
use Rattle.itm_grammar.proofs.Deciding.{counted_bytes}
use Rattle.itm_codec.specs.declared.decoder.ItmDecoder.{ItmDecoder}
use Rattle.itm_codec.specs.declared.decoder.ItmEnd.{ItmEnd}
use Rattle.itm_codec.specs.Reading.{pattern, packets_in}
use Rattle.itm_codec.specs.Decoder.{Stands, partial_of, is_hunter, is_live, held_of}
use Rattle.itm_codec.specs.Parts.{EndsPart, Idles, Looked, Reads, TakesPart, Took}
use Rattle.itm_codec.proofs.Wholes.{cut_goes, walked}

few_by : (s t : Partial) (bytes : List ℕ) (packet : Option ItmPacket) → Reads s t bytes packet → count_of t ≤ count_of s + length bytes
few_by s t bytes None r = (let k = counted_bytes s t bytes r in omega arith)
few_by s t bytes (Some p) r = (let k : count_of t ≡ 0 = ap count_of r.1 in omega arith)

reads_as : (s t : Partial) (units : List ℕ) (packet : Option ItmPacket) → Reads s t units packet →
    (walk rule s units ≡ walked packet t) × ((p : ItmPacket) → packet ≡ Some p → t ≡ Header)
reads_as s t units None r = (r, λ p e. cc)
reads_as s t units (Some q) r = (r.0, λ p e. r.1)

passes_by : (old new : ItmDecoder) (front : List Placed) (last : Placed) (u : List Placed) (packet : Option ItmPacket) →
    is_live old ≡ true → is_locked old.mode ≡ true → new.mode ≡ old.mode → new.live ≡ old.live →
    Reads (partial_of old) (partial_of new) (units_of (front ++ last ∷ [])) packet → Stands old u →
    Passes (packets_in (is_hunter old)) (Stands new) u front last (item_at last.place.half packet)
passes_by old new front last u packet live locked mode lives r h =
    let both = reads_as (partial_of old) (partial_of new) (units_of (front ++ last ∷ [])) packet r in
    subst (λ (l : Bool). Passes (packets_in (is_hunter old)) (λ v. StandsIn pattern Sync (by_unit rule) Header new.mode l (partial_of new) v) u front last (item_at last.place.half packet)) (sym (lives ∙ live))
    (subst (λ (m : Mode). Passes (packets_in (is_hunter old)) (λ v. StandsIn pattern Sync (by_unit rule) Header m true (partial_of new) v) u front last (item_at last.place.half packet)) (sym mode)
    (cut_goes pattern Sync rule Header old.mode locked front last u (partial_of old) (partial_of new) packet both.0 both.1
    (subst (λ (l : Bool). StandsIn pattern Sync (by_unit rule) Header old.mode l (partial_of old) u) live h)))

-- with the same unfinished packet it stands for what it stood for
pub idles : (old new : ItmDecoder) → new.mode ≡ old.mode → new.live ≡ old.live → partial_of new ≡ partial_of old → Idles old new
idles old new mode live partial = (
  λ u h. subst (λ (m : Mode). StandsIn pattern Sync (by_unit rule) Header m new.live (partial_of new) u) (sym mode)
      (subst (λ (l : Bool). StandsIn pattern Sync (by_unit rule) Header old.mode l (partial_of new) u) (sym live)
      (subst (λ (p : Partial). StandsIn pattern Sync (by_unit rule) Header old.mode old.live p u) (sym partial) h)),
  ap count_of partial,
  ap skipped_of mode,
)

-- the packet of a part is proper
fits_by : (s t : Partial) (bytes : List ℕ) (packet : Option ItmPacket) → Reads s t bytes packet → IfSome packet IsProper
fits_by s t bytes None r = tt
fits_by s t bytes (Some p) r = r.2

module _ (old new : ItmDecoder) (bytes : List ℕ) where
  pub took_part : (x : Option (TakenAtOnce ItmPacket)) → is_live old ≡ true → Took old new bytes (length bytes) x → IfSome x (TakesPart old new bytes)
  took_part None live t = tt
  took_part (Some x) live t = record {
    bytes = (t.part.1, t.part.2, t.part.3);
    passes = λ u front last h e.
        passes_by old new front last u x.item live t.part.0 t.mode t.live
        (subst (λ (units : List ℕ). Reads (partial_of old) (partial_of new) units x.item) (sym e) t.part.4) h;
    fits = fits_by (partial_of old) (partial_of new) (take x.bytes bytes) x.item t.part.4;
    few =
        let k = few_by (partial_of old) (partial_of new) (take x.bytes bytes) x.item t.part.4 in
        let n = length-take-le x.bytes bytes t.part.2 in
        omega (arith, k, n);
  }

module _ (old new : ItmDecoder) (bytes : List ℕ) (most : ℕ) where
  pub took_none : (x : Option (TakenAtOnce ItmPacket)) → Took old new bytes most x → x ≡ None → Idles old new
  took_none None t e = idles old new t.mode t.live t.part
  took_none (Some x) t e = cc

  -- what a look says
  pub looked_ends : (x : Found ItmEnd) → Looked old new bytes most x → (end : ItmEnd) → x ≡ Ends end →
      EndsPart new bytes end × (end.bytes ≤ most)
  looked_ends (Ends y) t end e =
      let same : y ≡ end = cc in
      subst (λ (z : ItmEnd). EndsPart new bytes z × (z.bytes ≤ most)) same (t.part.0, t.part.1)
  looked_ends Waits t end e = cc
  looked_ends Unknown t end e = cc

  pub looked_idles : (x : Found ItmEnd) → Looked old new bytes most x → (x ≡ Waits → ⊥) → Idles old new
  looked_idles (Ends y) t e = idles old new t.mode t.live t.part.2
  looked_idles Waits t e = absurd (e refl)
  looked_idles Unknown t e = idles old new t.mode t.live t.part

  pub looked_waits : (x : Found ItmEnd) → most ≤ length bytes → Looked old new bytes most x → x ≡ Waits →
      (0 < most) × (held_of new ≤ held_of old + most)
  looked_waits Waits l t e = (
    t.part.1,
    (let k = counted_bytes (partial_of old) (partial_of new) (take most bytes) t.part.2 in
        let n : length (take most bytes) ≡ most = length-take-le most bytes l in
        omega (arith, k, n)),
  )
  looked_waits (Ends y) l t e = cc
  looked_waits Unknown l t e = cc

  pub looked_passes : (x : Found ItmEnd) → is_live old ≡ true → Looked old new bytes most x → (u front : List Placed) (last : Placed) → Stands old u → x ≡ Waits →
      units_of (front ++ last ∷ []) ≡ take most bytes → Passes (packets_in (is_hunter old)) (Stands new) u front last None
  looked_passes Waits live t u front last h w e =
      passes_by old new front last u None live t.part.0 t.mode t.live (ap (walk rule (partial_of old)) e ∙ t.part.2) h
  looked_passes (Ends y) live t u front last h w e = cc
  looked_passes Unknown live t u front last h w e = cc

-- what the end of a packet gives
pub ended_passes : (old new : ItmDecoder) (bytes : List ℕ) (end : ItmEnd) → is_live old ≡ true → EndsPart old bytes end → new.mode ≡ old.mode → new.live ≡ old.live →
    partial_of new ≡ Header → (u front : List Placed) (last : Placed) → Stands old u → units_of (front ++ last ∷ []) ≡ take end.bytes bytes →
    Passes (packets_in (is_hunter old)) (Stands new) u front last (item_at last.place.half (Some end.packet))
ended_passes old new bytes end live t mode lives none u front last h e =
    passes_by old new front last u (Some end.packet) live t.locked mode lives
    (ap (walk rule (partial_of old)) e ∙ t.whole, none, t.proper) h

-- What a decoder does that takes a part of bytes.
use Rattle.std.specs.Prelude.{◌≡◌, ◌+◌, ◌<◌, ◌≤◌, ℕ, List, [], ◌∷◌, ◌++◌, length, take, Option, None, Some, true}
use Rattle.std.specs.Prelude.{IfSome}
use Rattle.itm_codec.specs.Names.{Found, Ends, Waits, Unknown, TakenAtOnce, Placed, Within, Whole, walk, ItmPacket}
use Rattle.itm_codec.specs.Names.{Partial, Header, rule, IsProper, Passes, TakesNone, item_at, units_of}
use Rattle.itm_codec.specs.declared.decoder.ItmDecoder.{ItmDecoder}
use Rattle.itm_codec.specs.declared.decoder.ItmEnd.{ItmEnd}
use Rattle.itm_codec.specs.Reading.{packets_in}
use Rattle.itm_codec.specs.Decoder.{Stands, partial_of, has_locked, held_of, is_hunter, is_live, skipped_by}

-- these bytes leave t unfinished of s, or end it as this packet
abbrev pub Reads : Partial → Partial → List ℕ → Option ItmPacket → Type 0
Reads s t bytes None = walk rule s bytes ≡ Within t
Reads s t bytes (Some packet) = (walk rule s bytes ≡ Whole packet) × (t ≡ Header) × IsProper packet

-- in its reading it took some of these bytes, at most so many; where it took none, what is unfinished is the same
abbrev pub TookPart : ItmDecoder → ItmDecoder → List ℕ → ℕ → Option (TakenAtOnce ItmPacket) → Type 0
TookPart old new bytes most None = partial_of new ≡ partial_of old
TookPart old new bytes most (Some part) =
    (has_locked old ≡ true) × (0 < part.bytes) × (part.bytes ≤ most) × (part.half ≡ 0)
    × Reads (partial_of old) (partial_of new) (take part.bytes bytes) part.item

-- and it stayed in its mode, and as live
pub record Took (old new : ItmDecoder) (bytes : List ℕ) (most : ℕ) (taken : Option (TakenAtOnce ItmPacket))
    : Type 0 where
  pub mode : new.mode ≡ old.mode
  pub live : new.live ≡ old.live
  pub part : TookPart old new bytes most taken

-- Nothing was taken.
abbrev pub Idles : ItmDecoder → ItmDecoder → Type 0
Idles = TakesNone Stands held_of skipped_by

-- It has the same reading, is live, and has skipped as many bytes.
abbrev pub Stays : ItmDecoder → ItmDecoder → Type 0
Stays old new =
    (packets_in (is_hunter new) ≡ packets_in (is_hunter old)) × (is_live new ≡ true) × (skipped_by new ≡ skipped_by old)

-- Of these bytes this was taken.
pub record TakesPart (old new : ItmDecoder) (ahead : List ℕ) (taken : TakenAtOnce ItmPacket) : Type 0 where
  pub bytes : (0 < taken.bytes) × (taken.bytes ≤ length ahead) × (taken.half ≡ 0)
  pub passes : (u front : List Placed) (last : Placed) → Stands old u →
      units_of (front ++ last ∷ []) ≡ take taken.bytes ahead →
      Passes (packets_in (is_hunter old)) (Stands new) u front last (item_at last.place.half taken.item)
  pub fits : IfSome taken.item IsProper
  pub few : held_of new ≤ held_of old + taken.bytes

-- The front of these bytes ends the unfinished packet as this one, of which no more is read than the bytes that wait.
pub record EndsPart (decoder : ItmDecoder) (bytes : List ℕ) (end : ItmEnd) : Type 0 where
  pub locked : has_locked decoder ≡ true
  pub header : decoder.partial ≡ Header
  pub some : 0 < end.bytes
  pub whole : walk rule (partial_of decoder) (take end.bytes bytes) ≡ Whole end.packet
  pub proper : IsProper end.packet

-- of the first `count` of these bytes it found: a packet that ends in them, and took none; or that they are all within
-- one, and took them; or nothing, and took none
abbrev pub Saw : ItmDecoder → ItmDecoder → List ℕ → ℕ → Found ItmEnd → Type 0
Saw old new bytes count (Ends end) =
    EndsPart new bytes end × (end.bytes ≤ count) × (partial_of new ≡ partial_of old)
Saw old new bytes count Waits =
    (has_locked old ≡ true) × (0 < count) × (walk rule (partial_of old) (take count bytes) ≡ Within (partial_of new))
Saw old new bytes count Unknown = partial_of new ≡ partial_of old

-- and it stayed in its mode, and as live
pub record Looked (old new : ItmDecoder) (bytes : List ℕ) (count : ℕ) (found : Found ItmEnd) : Type 0 where
  pub mode : new.mode ≡ old.mode
  pub live : new.live ≡ old.live
  pub part : Saw old new bytes count found

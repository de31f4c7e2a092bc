-- What a decoder stands for, and what it shows.
use Rattle.std.specs.Prelude.{◌≡◌, ℕ, ◌+◌, ◌*◌, ◌<◌, ◌≤◌, List, [], ◌∷◌, ◌++◌, length, take, Bool, true, None, IfSome}
use Rattle.stp_codec.specs.Names.{Go, Step, Item, Locked, Placed, units_of, nibbles_of, by_unit, StandsIn, hunts}
use Rattle.stp_codec.specs.Names.{is_locked, skipped_of, Order, Msn, StpPacket, Async, StpItem, Partial, Start}
use Rattle.stp_codec.specs.Names.{IsProper, IsProperItem, rule, count_of, Passes, TakesNone, item_at}
use Rattle.stp_grammar.specs.Attributed as attributed
use Rattle.stp_codec.specs.Reading.{pattern, packets_of, items_in}
use Rattle.stp_codec.specs.Wholes.{Ends, between, nibbles_in, reached, begun, left_by}
use Rattle.stp_codec.specs.Parts.{packet_of}
use Rattle.stp_codec.specs.declared.flat.PacketParts.{PacketParts}
use Rattle.stp_codec.specs.declared.flat.TheConstants.{WINDOW}
use Rattle.trace_values.specs.declared.taking.TakenAtOnce.{TakenAtOnce}
use Rattle.stp_codec.specs.declared.decoder.StpDecoder.{StpDecoder}
use Rattle.trace_values.specs.declared.taking.Found.{Found}
use Rattle.trace_values.specs.declared.taking.Found.TheVariants.{Ends as EndsIn, Waits, Unknown}

-- the bytes that it took and has not read
abbrev pub waiting_in : StpDecoder → List ℕ
waiting_in decoder = take decoder.waiting decoder.held

-- the unfinished packet without the bytes that wait
abbrev pub begun_of : StpDecoder → Partial
begun_of decoder = begun decoder.order decoder.first decoder.partial

-- the unfinished packet
abbrev pub partial_of : StpDecoder → Partial
partial_of decoder = reached decoder.order (begun_of decoder) (nibbles_in (waiting_in decoder))

-- With this unfinished packet its parts are those of this list of nibbles: before its lock how far the hunt has come;
-- else whether the reading has no fault, and the unfinished packet; and what the packets so far say of the next item.
abbrev pub StandsWith : StpDecoder → Partial → List Placed → Type 0
StandsWith decoder partial n =
    StandsIn pattern Async (by_unit (rule decoder.order)) Start decoder.mode decoder.live partial n
    × attributed.Stands decoder.attribution (packets_of decoder.order (hunts decoder.mode) n)

-- It stands for this list of nibbles.
abbrev pub StandsAt : StpDecoder → List Placed → Type 0
StandsAt decoder n = StandsWith decoder (partial_of decoder) n

-- of this list of bytes
abbrev pub Stands : StpDecoder → List Placed → Type 0
Stands decoder u = StandsAt decoder (nibbles_of u)

-- without the bytes that wait
abbrev pub BegunAt : StpDecoder → List Placed → Type 0
BegunAt decoder n = StandsWith decoder (begun_of decoder) n

-- no bytes wait, and its state says what is unfinished, also where that is one nibble
abbrev pub IsSettled : StpDecoder → Type 0
IsSettled decoder = (decoder.waiting ≡ 0) × (begun_of decoder ≡ decoder.partial)

-- It stands for this list of nibbles by its state, where it is settled.
abbrev pub ReadsAt : StpDecoder → List Placed → Type 0
ReadsAt decoder n = StandsWith decoder decoder.partial n

-- of this list of bytes
abbrev pub Reads : StpDecoder → List Placed → Type 0
Reads decoder u = ReadsAt decoder (nibbles_of u)

-- the order of the nibbles of its numbers
abbrev pub order_of : StpDecoder → Order
order_of decoder = decoder.order

-- it was made to hunt
abbrev pub is_hunter : StpDecoder → Bool
is_hunter decoder = hunts decoder.mode

-- it has met no fault
abbrev pub is_live : StpDecoder → Bool
is_live decoder = decoder.live

-- its reading has begun
abbrev pub has_locked : StpDecoder → Bool
has_locked decoder = is_locked decoder.mode

-- how many nibbles of an unfinished packet it holds
abbrev pub held_of : StpDecoder → ℕ
held_of decoder = count_of (partial_of decoder)

-- how many of these it has read
abbrev pub read_of : StpDecoder → ℕ
read_of decoder = count_of decoder.partial

-- how many nibbles are before its reading
abbrev pub skipped_by : StpDecoder → ℕ
skipped_by decoder = skipped_of decoder.mode

-- after an item it has locked, and holds nothing
abbrev pub EndsItem : Step StpItem → Partial → Bool → Type 0
EndsItem (Item half item) partial locked = (partial ≡ Start) × (locked ≡ true)
EndsItem (Locked skipped half item) partial locked = (partial ≡ Start) × (locked ≡ true)
EndsItem step partial locked = Unit {0}

-- a nibble at this half of the byte at this offset
abbrev pub nibble_at : ℕ → ℕ → ℕ → Placed
nibble_at at half nibble = record { unit = nibble; place = record { at = at; half = half } }

-- so many nibbles at the front of these bytes finish this packet, and its reading has begun
pub record Finishes (decoder : StpDecoder) (bytes : List ℕ) (nibbles : ℕ) (packet : StpPacket) : Type 0 where
  pub locked : has_locked decoder ≡ true
  pub some : 0 < nibbles
  pub within : nibbles ≤ 2 * length bytes
  pub whole : Ends decoder.order (Go (partial_of decoder)) (between (nibbles_in bytes) 0 nibbles) packet
  pub proper : IsProper packet

-- the packet of these parts is so finished, of which most significant nibbles come first
pub record FinishesParts (decoder : StpDecoder) (bytes : List ℕ) (parts : PacketParts) : Type 0 where
  pub order : decoder.order ≡ Msn
  pub number : parts.number < 36
  pub none : parts.number ≡ 35 → parts.payload ≡ 0
  pub packet : Finishes decoder bytes parts.nibbles (packet_of parts)

-- No bytes wait, and this is the one nibble of the unfinished packet, or it is 0 and there is none.
pub record Begins (old new : StpDecoder) (nibble : ℕ) : Type 0 where
  pub order : new.order ≡ old.order
  pub mode : new.mode ≡ old.mode
  pub live : new.live ≡ old.live
  pub attribution : new.attribution ≡ old.attribution
  pub waiting : new.waiting ≡ 0
  pub begun : begun_of new ≡ left_by old.order nibble

-- It has read the bytes that waited.
pub record Settles (old new : StpDecoder) : Type 0 where
  pub order : new.order ≡ old.order
  pub mode : new.mode ≡ old.mode
  pub live : new.live ≡ old.live
  pub attribution : new.attribution ≡ old.attribution
  pub partial : new.partial ≡ partial_of old
  pub none : IsSettled new

-- the first `more` of these bytes are behind those that wait
abbrev pub HoldsAhead : StpDecoder → List ℕ → ℕ → Type 0
HoldsAhead decoder ahead more = take (decoder.waiting + more) decoder.held ≡ waiting_in decoder ++ take more ahead

-- Nothing changed but what is behind the bytes that wait: there are now these.
pub record Copies (old new : StpDecoder) (ahead : List ℕ) : Type 0 where
  pub order : new.order ≡ old.order
  pub mode : new.mode ≡ old.mode
  pub live : new.live ≡ old.live
  pub attribution : new.attribution ≡ old.attribution
  pub partial : new.partial ≡ old.partial
  pub first : new.first ≡ old.first
  pub waiting : new.waiting ≡ old.waiting
  pub bytes : waiting_in new ≡ waiting_in old
  pub behind : (more : ℕ) → more ≤ WINDOW → HoldsAhead new ahead more

-- It is live, and a packet that began can be read at once.
pub record IsReady (decoder : StpDecoder) : Type 0 where
  pub live : is_live decoder ≡ true
  pub order : decoder.order ≡ Msn
  pub first : decoder.first < 16
  pub locked : has_locked decoder ≡ true

-- Nothing was taken.
abbrev pub Idles : StpDecoder → StpDecoder → Type 0
Idles = TakesNone Stands held_of skipped_by

-- It has the same order of nibbles and the same mode, and is live.
abbrev pub Stays : StpDecoder → StpDecoder → Type 0
Stays old new = (order_of new ≡ order_of old) × (is_hunter new ≡ is_hunter old) × (is_live new ≡ true)

-- Of the first `count` of these bytes this was taken.
pub record TakesPart (old new : StpDecoder) (ahead : List ℕ) (count : ℕ) (taken : TakenAtOnce StpItem) : Type 0 where
  pub bytes : (0 < taken.bytes) × (taken.bytes ≤ count)
  pub passes : (u front : List Placed) (last : Placed) → Stands old u →
      units_of (front ++ last ∷ []) ≡ take taken.bytes ahead →
      Passes (items_in (order_of old) (is_hunter old)) (Stands new) u front last (item_at taken.half taken.item)
  pub fits : IfSome taken.item IsProperItem
  pub few : held_of new + skipped_by new ≤ held_of old + skipped_by old + 2 * taken.bytes

-- What was found of the first `count` of these bytes: a packet that ends in them, and nothing was taken; or all of them
-- were taken, which are within one; or nothing is known of them, and nothing was taken.
abbrev pub Finds : StpDecoder → StpDecoder → List ℕ → ℕ → Found PacketParts → Type 0
Finds old new ahead count (EndsIn parts) =
    (0 < parts.nibbles) × (parts.nibbles ≤ 2 * count) × FinishesParts new ahead parts × Idles old new
Finds old new ahead count Waits = TakesPart old new ahead count (record { bytes = count; half = 1; item = None })
Finds old new ahead count Unknown = Idles old new

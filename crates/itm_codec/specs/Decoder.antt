-- What a decoder stands for, and what it shows.
use Rattle.std.specs.Prelude.{ℕ, List, Bool}
use Rattle.itm_codec.specs.Names.{Placed, by_unit, StandsIn, hunts, is_locked, skipped_of, Sync, Partial, Header, rule}
use Rattle.itm_codec.specs.Names.{count_of, bytes_of}
use Rattle.itm_codec.specs.Reading.{pattern}
use Rattle.itm_codec.specs.Reached.{reached}
use Rattle.itm_codec.specs.declared.decoder.ItmDecoder.{ItmDecoder}

-- the bytes that it took and has not read
abbrev pub waiting_in : ItmDecoder → List ℕ
waiting_in decoder = bytes_of decoder.waiting decoder.held

-- the unfinished packet
abbrev pub partial_of : ItmDecoder → Partial
partial_of decoder = reached decoder.partial (waiting_in decoder)

-- before its lock it keeps how far the hunt has come; else it is live exactly where the reading of the list has no
-- fault, and keeps the unfinished packet of that reading
abbrev pub Stands : ItmDecoder → List Placed → Type 0
Stands decoder u = StandsIn pattern Sync (by_unit rule) Header decoder.mode decoder.live (partial_of decoder) u

-- it was made to hunt
abbrev pub is_hunter : ItmDecoder → Bool
is_hunter decoder = hunts decoder.mode

-- it has met no fault
abbrev pub is_live : ItmDecoder → Bool
is_live decoder = decoder.live

-- its reading has begun
abbrev pub has_locked : ItmDecoder → Bool
has_locked decoder = is_locked decoder.mode

-- how many bytes of an unfinished packet it holds
abbrev pub held_of : ItmDecoder → ℕ
held_of decoder = count_of (partial_of decoder)

-- how many bytes are before its reading
abbrev pub skipped_by : ItmDecoder → ℕ
skipped_by decoder = skipped_of decoder.mode

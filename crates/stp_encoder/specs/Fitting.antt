-- Which items an encoder can write, by the version that the items before them named: this project's profile of the
-- System Trace Protocol (MIPI System Trace Protocol, version 2).
use Rattle.std.specs.Prelude.{◌≡◌, ℕ, List, ◌∷◌, ◌++◌, Bool, true, false, not, ◌==◌, ◌&&◌, ◌||◌, Option, None, Some}
use Rattle.std.specs.Option.{is_some}
use Rattle.std.specs.List.{filter_map, last_or}
use Rattle.stp_encoder.specs.Names.{Place, Stamp, None as NoStamp, Natural, Gray, Raw, StpItem, Version, MasterError}
use Rattle.stp_encoder.specs.Names.{Datum, Flag, Trigger, Frequency, NullStamp, keeps_word, IsProperItem}

-- the version that an item names
abbrev pub version_named : StpItem → Option ℕ
version_named (Version version) = Some version
version_named item = None

-- the version in force after these items: the one that was named last
abbrev pub version_after : List StpItem → Option ℕ
version_after items = last_or None (filter_map version_named items)

-- the place of an item, where it has one
abbrev pub item_place : StpItem → Option Place
item_place (MasterError place code) = Some place
item_place (Datum place width value marked stamp) = Some place
item_place (Flag place stamp) = Some place
item_place item = None

-- and its timestamp
abbrev pub item_stamp : StpItem → Stamp
item_stamp (Datum place width value marked stamp) = stamp
item_stamp (Flag place stamp) = stamp
item_stamp (Trigger code stamp) = stamp
item_stamp (Frequency hertz stamp) = stamp
item_stamp (NullStamp stamp) = stamp
item_stamp item = NoStamp

-- this version is in force
abbrev pub is_version : ℕ → Option ℕ → Bool
is_version number None = false
is_version number (Some version) = version == number

-- a natural time is for version 3, one as a Gray number for version 4, and a raw word for any other version or none
abbrev pub is_of_version : Option ℕ → Stamp → Bool
is_of_version version NoStamp = true
is_of_version version (Natural time) = is_version 3 version
is_of_version version (Gray time) = is_version 4 version
is_of_version version (Raw size word) = not (keeps_word version)

-- a place that an item has names its master and its channel
abbrev pub is_named : Option Place → Bool
is_named None = true
is_named (Some place) = is_some place.master && is_some place.channel

-- an item that is a timestamp alone has one
abbrev pub has_content : StpItem → Bool
has_content (NullStamp NoStamp) = false
has_content item = true

-- the item can't be written under this version: its timestamp is of another version's kind, a number of its place is
-- absent, or it is a timestamp alone and has none
abbrev pub is_unfit : Option ℕ → StpItem → Bool
is_unfit version item =
    not (is_of_version version (item_stamp item)) || (not (is_named (item_place item)) || not (has_content item))

-- Each item has its numbers in their ranges, and can be written after those before it.
abbrev pub AreFitting : List StpItem → Type 0
AreFitting items = (before after : List StpItem) (item : StpItem) → items ≡ before ++ (item ∷ after) →
    IsProperItem item × (is_unfit (version_after before) item ≡ false)

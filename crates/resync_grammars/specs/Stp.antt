-- Lost fronts of a source of STP packets (MIPI System Trace Protocol, version 2; the table of packets and what they
-- tell of later ones is this project's profile), nibble by nibble.
use Rattle.std.specs.Prelude.{◌≡◌, ◌⊎◌, ℕ, ◌-◌, ◌≤◌, List, [], ◌∷◌, ◌++◌, length, replicate, Bool, true, false, None}
use Rattle.std.specs.List.{AllByRecursion}
use Rattle.resync_grammars.specs.Names.{Place, Placed, units_of, InUnits, EndsWith, Reading, Splits, IsReading, Said}
use Rattle.resync_grammars.specs.Names.{Notice, Kept, kept, decorate, carried, Order, Version, StpPacket, Async, Plain}
use Rattle.resync_grammars.specs.Names.{StpItem, version_in, attribute}
use Rattle.stp_grammar.specs.declared.item.StpItem.TheVariants.{Version as VersionItem}
use Rattle.stp_grammar.specs.Spelling.{Spells, why}
use Rattle.stp_codec.specs.Reading.{packets_in, items_at}
use Rattle.resync_rules.specs.Fronts.{Hunting, IsSync, all_skipped, Locks}

-- A whole list of nibbles read from its first nibble on or after a hunt, and its rest read after a hunt, for an ASYNC,
-- by 21 nibbles F and a nibble 0.
abbrev pub hunting : Order → Bool → Hunting StpPacket
hunting order hunts =
    record { whole = packets_in order hunts; rest = packets_in order true; sync = Async; size = 22 }

-- these are nibbles F alone, at least two: with two the packet is an ASYNC
abbrev pub IsRun : List Placed → Type 0
IsRun r = (count : ℕ) × (2 ≤ count) × (units_of r ≡ replicate count 15)

-- These nibbles are whole packets, the first ones of these, and then nibbles F that only an ASYNC begins with.
pub record EndsInAsync (order : Order) (packets : List (StpPacket × Place)) (front : List Placed) : Type 0 where
  pub early : List (StpPacket × Place)
  pub later : List (StpPacket × Place)
  pub parts : packets ≡ early ++ later
  pub run : List Placed
  pub spelled : Splits (InUnits (Spells order)) early run front
  pub alone : IsRun run

-- In each list of nibbles that is packets and then a tail, this many nibbles F in succession end in an ASYNC.
abbrev pub OnlyInAsync : Order → ℕ → Type 0
OnlyInAsync order count =
    (u : List Placed) (r : Reading StpPacket) → IsReading (InUnits (Spells order)) (λ r. why (units_of r)) u r →
    r.fault ≡ None → (front rest : List Placed) → u ≡ front ++ rest → EndsWith (replicate count 15) (units_of front) →
    EndsInAsync order r.items front

-- the items of packets at their places, where these packets come before them
abbrev pub items_after : List StpPacket → List (StpPacket × Place) → List (Said StpItem × Place)
items_after before packets = decorate attribute before (kept packets)

-- no packet is a VERSION
abbrev pub HasNoVersion : List (StpPacket × Place) → Type 0
HasNoVersion packets = AllByRecursion (λ x. version_in x.0 ≡ None) packets

-- the first of these packets, if there is one, is a VERSION
abbrev pub BeginsWithVersion : List (StpPacket × Place) → Type 0
BeginsWithVersion [] = Unit {0}
BeginsWithVersion ((p, place) ∷ packets) = (version : ℕ) × (p ≡ Plain Version version)

-- it is the item of a VERSION
abbrev pub is_version : Said StpItem → Bool
is_version (Kept (VersionItem version)) = true
is_version said = false

-- packets up to the first VERSION, and from it on
pub record SplitAtVersion (packets : List (StpPacket × Place)) : Type 0 where
  pub until : List (StpPacket × Place)
  pub from : List (StpPacket × Place)
  pub parts : packets ≡ until ++ from
  pub no_version : HasNoVersion until
  pub version : BeginsWithVersion from

-- What the items of a whole and of its rest are from the ASYNC on with which the rest locks, at this place: these
-- packets are before that ASYNC in the whole, and these are after it in both. From the first VERSION after it on the
-- items are the same, with the same places in the trace and timestamps, and nothing that came before that VERSION
-- matters. From the ASYNC up to that VERSION they are of the same packets, at the same places in the capture: in the
-- whole as the earlier packets have it, and in the rest as if there were none.
pub record ItemsAgree (before : List StpPacket) (place : Place) (later : List (StpPacket × Place))
    (whole rest : List (Said StpItem × Place)) : Type 0 where
  pub split : SplitAtVersion later
  pub whole_items : whole ≡ items_after before ((Async, place) ∷ split.until) ++ items_after [] split.from
  pub rest_items : rest ≡ items_after [] ((Async, place) ∷ split.until) ++ items_after [] split.from
  -- so the first item of a VERSION is the first item from there on
  pub none_earlier : AllByRecursion (λ x. is_version x.0 ≡ false) (items_after [] ((Async, place) ∷ split.until))

-- The rest locks with this front, and its items are as above; so they are with any nibbles after the lock.
pub record ItemsLock (order : Order) (hunts : Bool) (lost rest front : List Placed) : Type 0 where
  pub packets : Locks (hunting order hunts) lost rest front
  pub whole_later : List Placed → List (Said StpItem × Place)
  pub rest_later : List Placed → List (Said StpItem × Place)
  pub whole_on : (more : List Placed) → (items_at order hunts (lost ++ (front ++ more))).given
      ≡ decorate attribute [] packets.early ++ whole_later more
  pub rest_on : (more : List Placed) → items_at order true (front ++ more) ≡ record {
    given = (Notice (length front - 22), packets.last.place) ∷ rest_later more;
    fault = (items_at order hunts (lost ++ (front ++ more))).fault;
    held = (items_at order hunts (lost ++ (front ++ more))).held;
    skipped = length front - 22;
    locked = true;
  }
  pub agree : (more : List Placed) →
      ItemsAgree (carried attribute [] packets.early) packets.last.place (packets.later more)
      (whole_later more) (rest_later more)

-- What a hunt in the rest reads as items, where these nibbles before it are lost: without an ASYNC in the rest it skips
-- all nibbles; else it locks at the first.
abbrev pub IsItemsRest : Order → Bool → List Placed → List Placed → Type 0
IsItemsRest order hunts lost rest =
    (((front : List Placed) → IsSync (hunting order hunts) lost rest front → ⊥)
    × (items_at order true rest ≡ all_skipped (length rest)))
    ⊎ ((front : List Placed) × ItemsLock order hunts lost rest front)

-- What the bytes of a port read as (CoreSight Architecture Specification, Arm IHI 0029E (version 3.0), chapter 'Trace
-- Formatter', its section on frames), by the grammar's spellings and the least place of a full synchronisation alone:
-- with no rule, no state and no hunt byte by byte.
use Rattle.std.specs.Prelude.{◌≡◌, ◌⊎◌, ℕ, ◌+◌, List, [], ◌∷◌, ◌++◌, length, map, true, false, Option, None, Some}
use Rattle.std.specs.List.{sum_by}
use Rattle.deformatter.specs.Names.{Reason, Place, Placed, units_of, IsNowhere, IsFirst, Reading, IsFirstFault}
use Rattle.deformatter.specs.Names.{IsReading, FramesMode, Hunt, Aligned, Bare, PortItem, Spells, why, half_words}
use Rattle.deformatter.specs.Names.{fulls_in, halves_in}
use Rattle.deformatter.specs.PortReading.{PortReading, bare, frames_of_items}

-- the bytes of a full synchronisation
abbrev pub full_sync : List ℕ
full_sync = 0xFF ∷ (0xFF ∷ (0xFF ∷ (0x7F ∷ [])))

-- how many half synchronisations an unfinished frame has: those of its bytes, and at a fault those of the bytes before
-- the one that breaks it
abbrev pub HasHalves : List Placed → Option (Place × Reason) → ℕ → Type 0
HasHalves rest None halves = halves ≡ half_words rest
HasHalves rest (Some fault) halves = (broken : IsFirstFault Spells why rest fault) × (halves ≡ half_words broken.before)

-- The reading of these items, after this many skipped bytes: no ID is in force before the first frame, half
-- synchronisations are counted between frames, in frames and in an unfinished frame, and what ends no item is the tail.
pub record IsOfItems (skipped : ℕ) (read : Reading PortItem) (r : PortReading) : Type 0 where
  pub unfinished : ℕ
  pub has : HasHalves read.rest read.fault unfinished
  pub frames : r.frames ≡ frames_of_items None (map (λ x. x.0) read.items)
  pub fulls : r.fulls ≡ sum_by fulls_in (map (λ x. x.0) read.items)
  pub halves : r.halves ≡ sum_by halves_in (map (λ x. x.0) read.items) + unfinished
  pub fault : r.fault ≡ read.fault
  pub tail : r.tail ≡ length read.rest
  pub skipped_is : r.skipped ≡ skipped
  pub locked : r.locked ≡ true

-- the bytes u, after this many skipped ones, read by the grammar
abbrev pub IsByGrammar : ℕ → List Placed → PortReading → Type 0
IsByGrammar skipped u r = (read : Reading PortItem) × IsReading Spells why u read × IsOfItems skipped read r

-- nothing is read, and this many bytes are skipped
abbrev pub only_skipped : ℕ → PortReading
only_skipped bytes = record {
  frames = [];
  fulls = 0;
  halves = 0;
  fault = None;
  tail = 0;
  skipped = bytes;
  locked = false;
}

-- Aligned: all bytes read by the grammar.
-- Hunt: a full synchronisation is nowhere, and all bytes are skipped; or those before its least place are, and the
-- others are read by the grammar.
-- Bare: each byte is a frame of one cell, of source 1.
abbrev pub IsPortReading : FramesMode → List Placed → PortReading → Type 0
IsPortReading Aligned u r = IsByGrammar 0 u r
IsPortReading Hunt u r =
    (IsNowhere full_sync (units_of u) × (r ≡ only_skipped (length u)))
    ⊎ ((before : List Placed) × (after : List Placed) × (u ≡ before ++ after)
    × IsFirst full_sync (units_of u) (units_of before)
    × IsByGrammar (length before) after r)
IsPortReading Bare u r = r ≡ bare u

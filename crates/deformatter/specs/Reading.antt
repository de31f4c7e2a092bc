-- What the bytes of a port read as (CoreSight Architecture Specification, Arm IHI 0029E (version 3.0), chapter 'Trace
-- Formatter', its section on frames), from the first one on or in a hunt for a full synchronisation.
use Rattle.std.specs.Prelude.{◌≡◌, ◌⊎◌, ℕ, ◌+◌, List, [], ◌++◌, length, map, Bool, true, false, Option, None, Some}
use Rattle.std.specs.List.{sum_by}
use Rattle.deformatter.specs.Names.{Cell, Reason, Place, Placed, units_of, IsNowhere, IsFirst, pattern_of, Found, hunt}
use Rattle.deformatter.specs.Names.{Progress, PortItem, Full, State, start, rule, port_progress, cells_of_items}
use Rattle.deformatter.specs.Names.{id_of_items, fulls_in, halves_in, frames_in, pattern}

-- What a port's bytes read as: the items, each with the place of its last byte; how many half synchronisations, those
-- in an unfinished frame too; the fault; how many bytes are after the last whole item; how many were skipped; and
-- whether it reads.
pub record PortStream : Type 0 where
  pub items : List (PortItem × Place)
  pub halves : ℕ
  pub fault : Option (Place × Reason)
  pub tail : ℕ
  pub skipped : ℕ
  pub locked : Bool

abbrev pub items_of : List (PortItem × Place) → List PortItem
items_of items = map (λ x. x.0) items

-- a reading after this many skipped bytes
abbrev pub read_after : ℕ → Progress State PortItem → PortStream
read_after skipped p = record {
  items = p.items;
  halves = sum_by halves_in (items_of p.items) + p.state.halves;
  fault = p.fault;
  tail = length p.rest;
  skipped = skipped;
  locked = true;
}

-- a hunt that has skipped this many bytes
abbrev pub all_skipped : ℕ → PortStream
all_skipped bytes = record { items = []; halves = 0; fault = None; tail = 0; skipped = bytes; locked = false }

abbrev pub port_hunted : ℕ → Option (Found State PortItem) → PortStream
port_hunted bytes None = all_skipped bytes
port_hunted bytes (Some found) = read_after found.skipped found.reading

-- the reading of the bytes from the first on, or in a hunt from the least place of FF FF FF 7F on
abbrev pub port_stream : Bool → List Placed → PortStream
port_stream false u = read_after 0 (port_progress u)
port_stream true u = port_hunted (hunt pattern Full rule start u).units (hunt pattern Full rule start u).found

-- the cells of its frames, with no ID before the first one, and the ID after the last
abbrev pub cells_in : PortStream → List Cell
cells_in s = cells_of_items None (items_of s.items)

abbrev pub id_in : PortStream → Option ℕ
id_in s = id_of_items None (items_of s.items)

-- how many full synchronisations and frames there are
abbrev pub fulls_of : PortStream → ℕ
fulls_of s = sum_by fulls_in (items_of s.items)

abbrev pub frames_of : PortStream → ℕ
frames_of s = sum_by frames_in (items_of s.items)

-- What a hunt is: the pattern is nowhere, and all bytes are skipped; or the bytes before its least place are
-- skipped, and the bytes from there on are read.
abbrev pub IsHunt : List Placed → PortStream → Type 0
IsHunt u s =
    (IsNowhere (pattern_of pattern) (units_of u) × (s ≡ all_skipped (length u)))
    ⊎ ((before : List Placed) × (after : List Placed) × (u ≡ before ++ after)
    × IsFirst (pattern_of pattern) (units_of u) (units_of before)
    × (s ≡ read_after (length before) (port_progress after)))

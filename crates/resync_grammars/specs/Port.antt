-- Lost fronts of a port's bytes (CoreSight Architecture Specification, Arm IHI 0029E (version 3.0), chapter 'Trace
-- Formatter', its section on frames): what a hunt in the rest reads, against the whole.
use Rattle.std.specs.Prelude.{◌≡◌, ◌⊎◌, ℕ, ◌+◌, List, [], ◌∷◌, ◌++◌, length, map, Bool, true, false, None, is_none}
use Rattle.std.specs.List.{sum_by}
use Rattle.resync_rules.specs.Fronts.{EndsIn, EndsFirst}
use Rattle.resync_grammars.specs.Names.{Cell, Place, Placed, FramesMode, Hunt, Aligned, Bare, PortItem, Full}
use Rattle.resync_grammars.specs.Names.{cells_of_items, halves_in, source_units, PortStream, all_skipped, items_of}
use Rattle.resync_grammars.specs.Names.{port_stream, cells_in, bare_cell, port_reading, cells_of}

-- a full synchronisation has just ended: it is the last item, and no bytes follow it
pub record FullEnded (s : PortStream) : Type 0 where
  pub before : List (PortItem × Place)
  pub place : Place
  pub items : s.items ≡ before ++ (Full, place) ∷ []
  pub tail : s.tail ≡ 0

-- with these bytes a full synchronisation of the whole ends
abbrev pub FullEnds : Bool → List Placed → Type 0
FullEnds hunts bytes = FullEnded (port_stream hunts bytes)

-- a cell whose source is not known
abbrev pub unnamed : Cell → Cell
unnamed c = record { at = c.at; id = None; run = c.run; byte = c.byte }

-- a cell that has an ID
abbrev pub HasId : Cell → Type 0
HasId c = is_none c.id ≡ false

-- the first of these cells, if there is one, has an ID
abbrev pub BeginsNamed : List Cell → Type 0
BeginsNamed [] = Unit {0}
BeginsNamed (c ∷ cells) = HasId c

-- The same cells, but that those before the first with an ID have lost theirs: at the same offsets, in the same runs
-- and with the same bytes.
pub record AreNamedLater (whole rest : List Cell) : Type 0 where
  pub hidden : List Cell
  pub named : List Cell
  pub whole_is : whole ≡ hidden ++ named
  pub rest_is : rest ≡ map unnamed hidden ++ named
  pub begins : BeginsNamed named

-- The hunt in the rest locks at that full synchronisation, and skips the bytes before its four. From it on the rest has
-- the items of the whole, at the same places, with as many half synchronisations, the same fault and the same tail.
pub record PortLocks (hunts : Bool) (lost rest front : List Placed) : Type 0 where
  pub first : EndsFirst (FullEnds hunts) 4 lost rest front
  pub start : List Placed
  pub last : Placed
  pub ends : front ≡ start ++ last ∷ []
  pub skipped : (port_stream true rest).skipped + 4 ≡ length front
  pub locked : (port_stream true rest).locked ≡ true
  -- what the whole has before that synchronisation, and what follows it
  pub early : List (PortItem × Place)
  pub later : List (PortItem × Place)
  pub whole_then : (port_stream hunts (lost ++ front)).items ≡ early ++ (Full, last.place) ∷ []
  pub whole_items : (port_stream hunts (lost ++ rest)).items ≡ early ++ ((Full, last.place) ∷ later)
  pub rest_items : (port_stream true rest).items ≡ (Full, last.place) ∷ later
  pub halves : (port_stream hunts (lost ++ rest)).halves
      ≡ sum_by halves_in (items_of early) + (port_stream true rest).halves
  pub fault : (port_stream true rest).fault ≡ (port_stream hunts (lost ++ rest)).fault
  pub tail : (port_stream true rest).tail ≡ (port_stream hunts (lost ++ rest)).tail
  -- the cells of the whole after that synchronisation
  pub cells_later : List Cell
  pub whole_cells : cells_in (port_stream hunts (lost ++ rest)) ≡ cells_of_items None (items_of early) ++ cells_later
  pub rest_cells : AreNamedLater cells_later (cells_in (port_stream true rest))

-- What a hunt in the rest reads, where these bytes before it are lost: without a full synchronisation in the rest it
-- skips all bytes; else it locks at the first.
abbrev pub IsFramedRest : Bool → List Placed → List Placed → Type 0
IsFramedRest hunts lost rest =
    (((front : List Placed) → EndsIn (FullEnds hunts) 4 lost rest front → ⊥)
    × (port_stream true rest ≡ all_skipped (length rest)))
    ⊎ ((front : List Placed) × PortLocks hunts lost rest front)

-- The same in each mode of the whole. With no formatter the rest loses the cells of the lost bytes, and no more.
abbrev pub IsPortRest : FramesMode → List Placed → List Placed → Type 0
IsPortRest Aligned lost rest = IsFramedRest false lost rest
IsPortRest Hunt lost rest = IsFramedRest true lost rest
IsPortRest Bare lost rest =
    ((port_reading Bare rest).skipped ≡ 0)
    × (cells_of (port_reading Bare (lost ++ rest)) ≡ map bare_cell lost ++ cells_of (port_reading Bare rest))

-- how the rest of a capture is read that was read in this mode: in frames by a hunt, and else as before
abbrev pub rest_mode : FramesMode → FramesMode
rest_mode Hunt = Hunt
rest_mode Aligned = Hunt
rest_mode Bare = Bare

-- What the cells of the rest are, against those of the whole. From a point on, the first cell of the rest that has an
-- ID, they are the same; before it cells are gone, or have lost their IDs. So of each source the rest has the bytes
-- that the whole has from that point on.
pub record CellsRest (whole rest : List Cell) : Type 0 where
  pub gone : List Cell
  pub hidden : List Cell
  pub named : List Cell
  pub whole_is : whole ≡ gone ++ (hidden ++ named)
  pub rest_is : rest ≡ map unnamed hidden ++ named
  pub begins : BeginsNamed named
  pub sources : (id : ℕ) → source_units id rest ≡ source_units id named

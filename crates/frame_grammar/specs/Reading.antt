-- What the bytes of a port read as: items, the cells of the frames, and counts. That an ID stays in force over
-- synchronisations and from frame to frame is as in CoreSight Architecture Specification, Arm IHI 0029E (version 3.0),
-- chapter 'Trace Formatter', its section on frames.
use Rattle.std.specs.Prelude.{ℕ, ◌+◌, List, [], ◌∷◌, ◌++◌, map, Bool, false, ◌==◌, Option, None, Some}
use Rattle.std.specs.List.{filter, sum_by}
use Rattle.frame_grammar.specs.Names.{Cell, Placed, units_of, Reading, Progress, progress, reading}
use Rattle.frame_grammar.specs.Frame.{cells, id_after}
use Rattle.frame_grammar.specs.Port.{PortItem, Full, Half, Frame, State, start, rule}

-- the offsets of bytes
abbrev pub offsets_of : List Placed → List ℕ
offsets_of u = map (λ p. p.place.at) u

-- the cells of an item after this ID, and the ID after it: synchronisations leave it as it is
abbrev pub item_cells : Option ℕ → PortItem → List Cell
item_cells id Full = []
item_cells id Half = []
item_cells id (Frame f halves) = cells (units_of f) (offsets_of f) id

abbrev pub item_id : Option ℕ → PortItem → Option ℕ
item_id id Full = id
item_id id Half = id
item_id id (Frame f halves) = id_after (units_of f) id

-- the same of items in order: each frame begins with the ID in force after the frame before it
abbrev pub cells_of_items : Option ℕ → List PortItem → List Cell
cells_of_items id [] = []
cells_of_items id (p ∷ items) = item_cells id p ++ cells_of_items (item_id id p) items

abbrev pub id_of_items : Option ℕ → List PortItem → Option ℕ
id_of_items id [] = id
id_of_items id (p ∷ items) = id_of_items (item_id id p) items

-- how many full synchronisations, half synchronisations and frames an item has
abbrev pub fulls_in : PortItem → ℕ
fulls_in Full = 1
fulls_in Half = 0
fulls_in (Frame f halves) = 0

abbrev pub halves_in : PortItem → ℕ
halves_in Full = 0
halves_in Half = 1
halves_in (Frame f halves) = halves

abbrev pub frames_in : PortItem → ℕ
frames_in Full = 0
frames_in Half = 0
frames_in (Frame f halves) = 1

-- the reading of a port's bytes by the grammar, and the same with the state of the unfinished item
abbrev pub port_reading : List Placed → Reading PortItem
port_reading u = reading rule start u

abbrev pub port_progress : List Placed → Progress State PortItem
port_progress u = progress rule start u

abbrev pub port_items : List Placed → List PortItem
port_items u = map (λ x. x.0) (port_reading u).items

-- all cells; before the first frame there is no ID
abbrev pub port_cells : List Placed → List Cell
port_cells u = cells_of_items None (port_items u)

-- the counts; half synchronisations are counted in an unfinished frame too
abbrev pub full_count : List Placed → ℕ
full_count u = sum_by fulls_in (port_items u)

abbrev pub half_count : List Placed → ℕ
half_count u = sum_by halves_in (port_items u) + (port_progress u).state.halves

abbrev pub frame_count : List Placed → ℕ
frame_count u = sum_by frames_in (port_items u)

-- the ID is this one
abbrev pub is_source : ℕ → Option ℕ → Bool
is_source id None = false
is_source id (Some other) = other == id

-- the source list of an ID: its cells, in order
abbrev pub source_list : ℕ → List Cell → List Cell
source_list id cs = filter (λ c. is_source id c.id) cs

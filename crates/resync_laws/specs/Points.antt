-- From where on the rest of a capture tells what the whole tells: the point of each source.
use Rattle.std.specs.Prelude.{ℕ, List, [], ◌∷◌, true, Option, None, Some}
use Rattle.resync_laws.specs.Names.{Cell, Place, Said, Notice, Kept, source_units, PortReading, cells_of, packets_in}
use Rattle.resync_laws.specs.Names.{StpItem, Version, items_in, Plan, SourceKind, Itm, Stp, kind_of, point_in}
use Rattle.resync_laws.specs.FromPoints.{first_in}

-- the place of the first item of a VERSION
abbrev pub first_version : List (Said StpItem × Place) → Option Place
first_version [] = None
first_version ((Notice skipped, at) ∷ given) = first_version given
first_version ((Kept (Version version), at) ∷ given) = Some at
first_version ((Kept item, at) ∷ given) = first_version given

-- The point of a source of this kind, where these cells are read by a hunt at both layers. That of an ITM source is
-- where it locks; that of an STP source is the first VERSION after its lock; and that of a source which is not mapped
-- is the first cell that has an ID.
abbrev pub point_by : Plan → List Cell → ℕ → Option SourceKind → Option Place
point_by plan cells x None = first_in cells
point_by plan cells x (Some Itm) = point_in (packets_in true (source_units x cells)).given
point_by plan cells x (Some Stp) = first_version (items_in plan.order true (source_units x cells)).given

abbrev pub point_of : Plan → PortReading → ℕ → Option Place
point_of plan r x = point_by plan (cells_of r) x (kind_of plan x)

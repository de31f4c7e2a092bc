-- The report of the rest of a capture, whose front is lost, against that of the whole.
use Rattle.std.specs.Prelude.{◌≡◌, ◌⊎◌, ℕ, ◌-◌, List, ◌++◌, length, map, true, false, ◌==◌, Option, None, Some}
use Rattle.std.specs.List.{list_any}
use Rattle.resync_laws.specs.Names.{nibbles_of, Place, Placed, placed, placed_from, packets_hunt, PortReading}
use Rattle.resync_laws.specs.Names.{port_reading, Event, Packet, Plan, SourceKind, Itm, Stp, part, kind_of, sources_by}
use Rattle.resync_laws.specs.Names.{stop_in, report, Hunting, IsSync, IsFirstSync, IsRest, IsPortRest, rest_mode}
use Rattle.resync_laws.specs.Names.{source_bytes}
use Rattle.trace_values.specs.declared.reading_modes.PacketsMode.TheVariants.{Hunt}
use Rattle.resync_grammars.specs.Itm as itm
use Rattle.resync_grammars.specs.Stp as stp
use Rattle.resync_laws.specs.Moved.{later_reading, later_event}
use Rattle.resync_laws.specs.Points.{point_of}
use Rattle.resync_laws.specs.FromPoints.{items_among, from_points}

-- how the rest of a capture is read that this plan reads whole: by hunts
abbrev pub rest_plan : Plan → Plan
rest_plan plan = record plan { frames = rest_mode plan.frames; packets = Hunt }

-- The whole capture, of which some bytes are lost and others are left; and what is left of it, at its offsets in the
-- whole.
abbrev pub whole_bytes : List ℕ → List ℕ → List Placed
whole_bytes lost left = placed (lost ++ left)

abbrev pub left_bytes : List ℕ → List ℕ → List Placed
left_bytes lost left = placed_from (length lost) left

-- what the port reads of both, and the reports
abbrev pub whole_reading : Plan → List ℕ → List ℕ → PortReading
whole_reading plan lost left = port_reading plan.frames (whole_bytes lost left)

abbrev pub left_reading : Plan → List ℕ → List ℕ → PortReading
left_reading plan lost left = port_reading (rest_mode plan.frames) (left_bytes lost left)

abbrev pub whole_report : Plan → List ℕ → List ℕ → List (Event Packet)
whole_report plan lost left = report (sources_by plan) plan.frames (whole_bytes lost left)

abbrev pub left_report : Plan → List ℕ → List ℕ → List (Event Packet)
left_report plan lost left = report (sources_by (rest_plan plan)) (rest_mode plan.frames) (left_bytes lost left)

-- the point of each source
abbrev pub points : Plan → List ℕ → List ℕ → ℕ → Option Place
points plan lost left x = point_of plan (left_reading plan lost left) x

-- what the bytes of a source of this kind read as in the rest, where these are before them in the whole
abbrev pub reads : Plan → SourceKind → List Placed → List Placed → Type 0
reads plan Itm early rest = IsRest (itm.hunting (packets_hunt plan.packets)) early rest
reads plan Stp early rest =
    stp.IsItemsRest plan.order (packets_hunt plan.packets) (nibbles_of early) (nibbles_of rest)

-- A hunt in the rest, where these units before it are lost, skips this many: all, where no sync has its last units, as
-- many as the pattern has, all in the rest; or those before the last units of the first such one.
abbrev pub Skips : {V : Type 0} → Hunting V → List Placed → List Placed → ℕ → Type 0
Skips h lost rest skipped =
    (((front : List Placed) → IsSync h lost rest front → ⊥) × (skipped ≡ length rest))
    ⊎ ((front : List Placed) × IsFirstSync h lost rest front × (skipped ≡ length front - h.size))

-- so in the bytes of an ITM source, and in the nibbles of an STP source
abbrev pub skips : Plan → SourceKind → List Placed → List Placed → ℕ → Type 0
skips plan Itm early rest skipped = Skips (itm.hunting (packets_hunt plan.packets)) early rest skipped
skips plan Stp early rest skipped =
    Skips (stp.hunting plan.order (packets_hunt plan.packets)) (nibbles_of early) (nibbles_of rest) skipped

-- The bytes of a mapped source in the rest are the last of its bytes in the whole, and they read as its kind has it.
pub record SourceFollows (plan : Plan) (kind : SourceKind) (whole rest : List Placed) : Type 0 where
  pub early : List Placed
  pub parts : whole ≡ early ++ rest
  pub rest_reads : reads plan kind early rest

-- The report of what is left of a capture follows that of the whole, which this plan reads.
pub record ReportFollows (plan : Plan) (lost left : List ℕ) : Type 0 where
  pub port : IsPortRest plan.frames (placed lost) (left_bytes lost left)
  pub sources : (x : ℕ) (kind : SourceKind) → kind_of plan x ≡ Some kind →
      SourceFollows plan kind (source_bytes plan.frames x (whole_bytes lost left))
      (source_bytes (rest_mode plan.frames) x (left_bytes lost left))
  -- but for notices, the events of both are the same from each source's point on, and in the same order
  pub events : from_points (points plan lost left) (items_among (left_report plan lost left))
      ≡ from_points (points plan lost left) (items_among (whole_report plan lost left))
  -- and of a source that is no STP source the rest has no others
  pub exact : (x : ℕ) → list_any (λ y. y == x) plan.stp ≡ false →
      part (Some x) (items_among (left_report plan lost left))
      ≡ part (Some x) (from_points (points plan lost left) (items_among (whole_report plan lost left)))
  -- the rest has no fault, and once its port has locked it has the whole's tail
  pub sound : stop_in (sources_by (rest_plan plan)) (left_reading plan lost left) ≡ None
  pub tail : (left_reading plan lost left).locked ≡ true →
      (left_reading plan lost left).tail ≡ (whole_reading plan lost left).tail
  -- at offsets from 0 on, all of the rest is the same, with each offset smaller by how many bytes are lost
  pub reading : left_reading plan lost left
      ≡ later_reading (length lost) (port_reading (rest_mode plan.frames) (placed left))
  pub report_is : left_report plan lost left ≡ map (λ e. later_event (length lost) e)
      (report (sources_by (rest_plan plan)) (rest_mode plan.frames) (placed left))
  pub sound_from_0 : stop_in (sources_by (rest_plan plan)) (port_reading (rest_mode plan.frames) (placed left)) ≡ None

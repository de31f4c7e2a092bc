-- What a hunt reads of realigned bytes, against the capture as it was sent.
use Rattle.std.specs.Prelude.{◌≡◌, ◌⊎◌, ℕ, ◌+◌, ◌*◌, ◌/◌, ◌<◌, List, [], ◌++◌, length, take, map, Bool, true, None}
use Rattle.std.specs.List.{AllByRecursion}
use Rattle.trace_values.specs.Placed.{Placed, placed, units_of}
use Rattle.trace_values.specs.Reading.{Reading}
use Rattle.trace_values.specs.declared.reading_modes.FramesMode.TheVariants.{Hunt, Aligned}
use Rattle.frame_grammar.specs.Port.{PortItem}
use Rattle.frame_grammar.specs.Reading.{port_reading as reading_of}
use Rattle.deformatter.specs.PortReading.{port_reading, cells_of}
use Rattle.port_slip.specs.Bits.{bits_of}
use Rattle.port_slip.specs.Segments.{realigned}
use Rattle.source_events.specs.declared.plan.Plan.{Plan}
use Rattle.source_events.specs.Plan.{sources_by}
use Rattle.source_events.specs.Report.{stop_in}
use Rattle.resync_grammars.specs.Port.{CellsRest}
use Rattle.resync_laws.specs.Moved.{later_cell}
use Rattle.resync_laws.specs.Report.{ReportFollows}
use Rattle.slip_laws.specs.Slips.{IsFullWithin, IsFirstWithin}

-- These bytes came of a capture that this plan reads without a fault, in frames from its first byte on: after any other
-- bits its bits from one on up to another, so that those before are lost and those after are too many.
pub record CameOf (plan : Plan) (input : List ℕ) : Type 0 where
  pub whole : List ℕ
  pub any : List Bool
  pub lost : List Bool
  pub kept : List Bool
  pub over : List Bool
  pub bytes : AllByRecursion (λ b. b < 256) whole
  pub frames : plan.frames ≡ Aligned
  pub sound : stop_in (sources_by plan) (port_reading plan.frames (placed whole)) ≡ None
  pub whole_is : bits_of whole ≡ lost ++ (kept ++ over)
  pub input_is : bits_of input ≡ any ++ kept

-- the whole capture up to its last byte whose bits are all before the end of what is kept
abbrev pub until_end : {plan : Plan} {input : List ℕ} → CameOf plan input → List ℕ
until_end c = take ((length c.lost + length c.kept) / 8) c.whole

-- These bytes are gone, up to the first full synchronisation that is whole among the bits that are kept; or there is
-- none, and then nothing is left.
abbrev pub IsGone : List Placed → Reading PortItem → List Bool → List Bool → List ℕ → List ℕ → Type 0
IsGone u r lost kept gone left =
    (((front : List Placed) → IsFullWithin u r lost kept front → ⊥) × (left ≡ []))
    ⊎ ((front : List Placed) × IsFirstWithin u r lost kept front × (gone ≡ units_of front))

-- The last realigned bytes are the capture's from that full synchronisation on; where no other bits came before, all
-- are, and the bits before the synchronisation are the skipped ones. Read with hunts they follow the capture up to its
-- last whole byte, in which the bytes that are gone are lost.
pub record RealignedFollows (plan : Plan) (input : List ℕ) (c : CameOf plan input) : Type 0 where
  pub early : List ℕ
  pub gone : List ℕ
  pub left : List ℕ
  pub written : (realigned input).bytes ≡ early ++ left
  pub parts : until_end c ≡ gone ++ left
  pub first : IsGone (placed c.whole) (reading_of (placed c.whole)) c.lost c.kept gone left
  pub alone : c.any ≡ [] →
      (early ≡ []) × ((left ≡ []) ⊎ (8 * length gone ≡ length c.lost + (realigned input).skipped))
  -- where any are left, a hunt in them skips nothing
  pub at_once : (left ≡ [])
      ⊎ (((port_reading Hunt (placed left)).locked ≡ true) × ((port_reading Hunt (placed left)).skipped ≡ 0))
  -- the cells that a hunt reads of these bytes, at their offsets in the capture, are the capture's from a point on
  pub cells : CellsRest (cells_of (port_reading plan.frames (placed (until_end c))))
      (map (λ x. later_cell (length gone) x) (cells_of (port_reading Hunt (placed left))))
  -- and the report follows that of the capture
  pub follows : ReportFollows plan gone left

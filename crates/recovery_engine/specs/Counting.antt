-- What a recovering engine has counted of its port.
use Rattle.std.specs.Prelude.{◌≡◌, ℕ, ◌+◌, List, [], ◌∷◌, ◌++◌}
use Rattle.trace_values.specs.declared.cell.Cell.{Cell}
use Rattle.source_counts.specs.Kept as kept
use Rattle.recovery_report.specs.Port.{PortStretches, frames_of, fulls_of, halves_of}
use Rattle.recovery_engine.specs.declared.counts.PortTotals.{PortTotals}

-- what each source has in the frames of all stretches, and the synchronisations
pub record HasCounted (counts : PortTotals) (r : PortStretches) : Type 0 where
  pub frames : kept.Stands counts.frames (frames_of r)
  pub fulls : counts.fulls ≡ fulls_of r
  pub halves : counts.halves ≡ halves_of r

-- how many cells, frames and synchronisations it has counted
abbrev pub counted_of : PortTotals → ℕ
counted_of counts = kept.total_of counts.frames + counts.fulls + counts.halves

-- With a whole frame of these cells, and so many half synchronisations between its halfwords, they grew by it.
pub record GrowsByFrame (old new : PortStretches) (inner : ℕ) (cells : List Cell) : Type 0 where
  pub frames : frames_of new ≡ frames_of old ++ cells ∷ []
  pub fulls : fulls_of new ≡ fulls_of old
  pub halves : halves_of new ≡ halves_of old + inner

-- What a `SourceCounts` stands for, and what it shows.
use Rattle.std.specs.Prelude.{◌≡◌, ◌≤◌, ℕ, ◌+◌, List, length, slice_index, sum}
use Rattle.trace_values.specs.declared.cell.Cell.{Cell}
use Rattle.source_counts.specs.Counts.{bytes_of, items_of, unattributed_of}
use Rattle.source_counts.specs.declared.source_counts.SourceCounts.{SourceCounts}

-- how many cells and frames it has counted
abbrev pub total_of : SourceCounts → ℕ
total_of counts = sum counts.bytes + counts.unattributed + counts.frames

-- It has the bytes of this list of frames: those of each source, the unattributed ones, and how many frames there are.
pub record HasBytes (counts : SourceCounts) (list : List (List Cell)) : Type 0 where
  pub bytes : (id : ℕ) → id ≤ 126 → slice_index counts.bytes id ≡ bytes_of id list
  pub unattributed : counts.unattributed ≡ unattributed_of list
  pub frames : counts.frames ≡ length list

-- It has the items of each source in this list of frames.
abbrev pub HasItems : SourceCounts → List (List Cell) → Type 0
HasItems counts list = (id : ℕ) → id ≤ 126 → slice_index counts.items id ≡ items_of id list

-- It has the counts of this list of frames.
pub record Stands (counts : SourceCounts) (list : List (List Cell)) : Type 0 where
  pub bytes : HasBytes counts list
  pub items : HasItems counts list

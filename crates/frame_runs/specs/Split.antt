-- A frame that is taken apart into the runs of its sources.
use Rattle.std.specs.Prelude.{◌≡◌, ℕ, ◌+◌, ◌*◌, ◌/◌, ◌%◌, ◌^◌, ◌<◌, ◌≤◌, List, [], ◌∷◌, ◌++◌, length, take}
use Rattle.std.specs.Prelude.{drop, Option}
use Rattle.std.specs.Prelude.{slice_index}
use Rattle.frame_grammar.specs.Frame.{cells}
use Rattle.frame_grammar.specs.Placing.{places_of}
use Rattle.frame_runs.specs.Data.{run_cells, byte_in, place_in}
use Rattle.frame_runs.specs.Gathered.{frame_places}
use Rattle.frame_runs.specs.Pairs.{ends_from, ends_left}
use Rattle.source_events.specs.Runs.{run_length}
use Rattle.trace_values.specs.Cells.{source_id}
use Rattle.trace_values.specs.declared.cell.Cell.{Cell}
use Rattle.frame_runs.specs.Pairs.{end_at}
use Rattle.frame_grammar.specs.declared.gather.PlacedFrame.{PlacedFrame}
use Rattle.frame_runs.specs.declared.split.Begun.{Begun}
use Rattle.frame_runs.specs.declared.split.PlacedData.{PlacedData}
use Rattle.frame_runs.specs.declared.split.RunsLeft.{RunsLeft}
use Rattle.frame_runs.specs.declared.split.SplitFrame.{SplitFrame}
use Rattle.frame_runs.specs.declared.split.SplitRun.{SplitRun}

-- a run that has begun: its source, how many IDs the frame has named up to it, and the index of its first byte
pub record RunStart : Type 0 where
  pub source : Option ℕ
  pub run : ℕ
  pub from : ℕ

-- what has begun, by the number of its source
abbrev pub run_begun : Begun → RunStart
run_begun begun = record { source = source_id begun.number; run = begun.run; from = begun.from }

-- the cells of the run that has begun, up to an index, where these bytes are at these offsets
abbrev pub begun_cells : List ℕ → List ℕ → RunStart → ℕ → List Cell
begun_cells offsets bytes begun end =
    run_cells (drop begun.from (take end offsets)) begun.source begun.run (drop begun.from (take end bytes))

-- the cells of a frame
abbrev pub split_cells : SplitFrame → List Cell
split_cells split = cells split.frame.now.bytes (frame_places split.frame.now) split.id

-- where the data of a frame are
abbrev pub data_places : PlacedData → List ℕ
data_places placed = places_of placed.at placed.behind

-- how one of its runs began
abbrev pub start_in : SplitRun → RunStart
start_in run = record { source = source_id run.number; run = run.run; from = run.from }

-- its cells
abbrev pub run_in : SplitRun → List Cell
run_in run = begun_cells (data_places run.placed.now) run.placed.now.bytes (start_in run) run.end

-- The data of a frame whose bytes are at these offsets are in their places.
pub record AreInPlace (frame at bytes places : List ℕ) : Type 0 where
  pub even : (k : ℕ) → k < 8 → slice_index bytes (2 * k) ≡ byte_in frame k
  pub odd : (k : ℕ) → k < 8 → slice_index bytes (2 * k + 1) ≡ slice_index frame (2 * k + 1)
  pub even_places : (k : ℕ) → k < 8 → slice_index places (2 * k) ≡ place_in frame at k
  pub odd_places : (k : ℕ) → k < 8 → slice_index places (2 * k + 1) ≡ slice_index at (2 * k + 1)

-- these are the data of this frame, in their places
abbrev pub IsDataOf : PlacedFrame → PlacedData → Type 0
IsDataOf frame placed = AreInPlace frame.bytes (frame_places frame) placed.bytes (data_places placed)

-- A frame is taken apart: its data are in their places, and it is known where its runs end.
pub record IsSplit (split : SplitFrame) : Type 0 where
  pub placed : IsDataOf split.frame.now split.placed.now
  pub ends : ends_left split.ends ≡ ends_from split.frame.now.bytes 0
  pub late : (k : ℕ) → k < 8 → 2 * k + split.late / 2 ^ k % 2 ≡ end_at split.frame.now.bytes k

-- what begins where a run ends at this pair
abbrev pub begun_after : List ℕ → RunStart → ℕ → RunStart
begun_after frame begun k =
    record { source = source_id (slice_index frame (2 * k) / 2); run = begun.run + 1; from = end_at frame k + 1 }

-- the cells of a frame from the run that has begun on, where its runs end at these pairs from there on
abbrev pub cells_to : SplitFrame → RunStart → List ℕ → List Cell
cells_to split begun [] = []
cells_to split begun (k ∷ ends) =
    begun_cells (data_places split.placed.now) split.placed.now.bytes begun (end_at split.frame.now.bytes k)
    ++ cells_to split (begun_after split.frame.now.bytes begun k) ends

-- those of the runs that are left
abbrev pub left_cells : SplitFrame → RunsLeft → List Cell
left_cells split left = cells_to split (run_begun left.begun) (ends_left left.ends)

-- They end at the frame's ends from a pair on. The first of them began before it, or there.
pub record IsLeft (split : SplitFrame) (left : RunsLeft) : Type 0 where
  pub pair : ℕ
  pub last : pair ≤ 8
  pub ends : ends_left left.ends ≡ ends_from split.frame.now.bytes pair
  pub run : left.begun.run ≤ pair
  pub from : left.begun.from ≤ 2 * pair

-- this run is the first one of these cells, and the rest follow it
pub record IsFirstRun (cells run rest : List Cell) : Type 0 where
  pub parts : cells ≡ run ++ rest
  pub size : length run ≡ run_length cells

-- How much each source sent, over the cells of each frame of a capture. The IDs 0 (null) and 125 (trigger) are as in
-- CoreSight Architecture Specification, Arm IHI 0029E (version 3.0), chapter 'Trace Formatter', its section on frames;
-- what an item is is this project's profile.
use Rattle.std.specs.Prelude.{ℕ, List, length, Bool, ◌==◌, ◌&&◌, if◌then◌else◌, is_none}
use Rattle.std.specs.List.{flat_map, count_by, sum_by, list_any, range_with_len}
use Rattle.trace_values.specs.declared.cell.Cell.{Cell}
use Rattle.frame_grammar.specs.Reading.{is_source, source_list}

-- the null source, and the trigger source
abbrev pub null_source : ℕ
null_source = 0

abbrev pub trigger_source : ℕ
trigger_source = 125

-- the bytes of a source: its cells in all frames
abbrev pub bytes_of : ℕ → List (List Cell) → ℕ
bytes_of id frames = length (source_list id (flat_map (λ cells. cells) frames))

-- some cell has this source and this run
abbrev pub has_run : ℕ → List Cell → ℕ → Bool
has_run id cells run = list_any (λ c. is_source id c.id && c.run == run) cells

-- in how many runs of one frame, 0 to 8, the source has a cell
abbrev pub runs_of : ℕ → List Cell → ℕ
runs_of id cells = count_by (has_run id cells) (range_with_len 0 9)

-- its items in one frame: none of the null source, each byte of the trigger source, and each run of any other
abbrev pub frame_items : ℕ → List Cell → ℕ
frame_items id cells =
    if id == null_source then 0
    else (if id == trigger_source then length (source_list id cells) else runs_of id cells)

-- its items
abbrev pub items_of : ℕ → List (List Cell) → ℕ
items_of id frames = sum_by (frame_items id) frames

-- the unattributed bytes: the cells without a source
abbrev pub unattributed_of : List (List Cell) → ℕ
unattributed_of frames = count_by (λ c. is_none c.id) (flat_map (λ cells. cells) frames)

-- What one more cell of a frame adds.
use Rattle.std.specs.Prelude.{ℕ, min, Bool, true, not, ◌==◌, ◌&&◌, if◌then◌else◌, Option}
use Rattle.frame_grammar.specs.Reading.{is_source}
use Rattle.source_counts.specs.Counts.{null_source, trigger_source}

-- a cell of this source begins an item
abbrev pub begins_item : ℕ → Bool → Bool
begins_item id new_run = not (id == null_source) && (if id == trigger_source then true else new_run)

-- what a cell adds to the bytes, and to the items of a source
abbrev pub byte_by : ℕ → Option ℕ → ℕ
byte_by id source = if is_source id source then 1 else 0

abbrev pub item_by : ℕ → Option ℕ → Bool → ℕ
item_by id source new_run = if is_source id source && begins_item id new_run then 1 else 0

-- the items of this many cells of one run
abbrev pub items_by_run : ℕ → ℕ → ℕ
items_by_run id n = if id == null_source then 0 else (if id == trigger_source then n else (min n 1))

-- what this many cells of one run add to the bytes, and to the items of a source
abbrev pub run_bytes : ℕ → Option ℕ → ℕ → ℕ
run_bytes id source n = if is_source id source then n else 0

abbrev pub run_items : ℕ → Option ℕ → ℕ → ℕ
run_items id source n = if is_source id source then (items_by_run id n) else 0

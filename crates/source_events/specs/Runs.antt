-- The runs of frames: the cells of a frame that follow one another and have one run, which is one source's (CoreSight
-- Architecture Specification, Arm IHI 0029E (version 3.0), chapter 'Trace Formatter', its section on frames: a source's
-- bytes from one ID byte to the next).
use Rattle.std.specs.Prelude.{◌≡◌, ℕ, suc, ◌+◌, ◌≤◌, List, [], ◌∷◌, ◌==◌, if◌then◌else◌, map, filter, flat_map}
use Rattle.std.specs.Prelude.{Option, None}
use Rattle.trace_values.specs.declared.cell.Cell.{Cell}
use Rattle.trace_values.specs.Placed.{Placed, byte_at}
use Rattle.frame_grammar.specs.Reading.{is_source}

-- a cell before runs: it joins the first of them where that has its run
abbrev pub joined : Cell → List (List Cell) → List (List Cell)
joined c [] = (c ∷ []) ∷ []
joined c ([] ∷ runs) = (c ∷ []) ∷ runs
joined c ((d ∷ run) ∷ runs) =
    if d.run == c.run then (c ∷ (d ∷ run)) ∷ runs else (c ∷ []) ∷ ((d ∷ run) ∷ runs)

-- the runs of a frame's cells, in order
abbrev pub runs_of : List Cell → List (List Cell)
runs_of [] = []
runs_of (c ∷ cells) = joined c (runs_of cells)

-- the runs of all frames
abbrev pub all_runs : List (List Cell) → List (List Cell)
all_runs frames = flat_map (λ frame. runs_of frame) frames

-- each of these runs is all the cells of one number, and the numbers rise, from this one on
abbrev pub AreWhole : ℕ → List Cell → List (List Cell) → Type 0
AreWhole n cells [] = Unit {0}
AreWhole n cells ([] ∷ runs) = ⊥
AreWhole n cells ((c ∷ run) ∷ runs) =
    (n ≤ c.run) × ((c ∷ run) ≡ filter (λ d. d.run == c.run) cells) × AreWhole (c.run + 1) cells runs

-- the ID of a run, which all its cells have
abbrev pub id_of : List Cell → Option ℕ
id_of [] = None
id_of (c ∷ run) = c.id

-- the bytes of a run, and the same with their places
abbrev pub bytes_of : List Cell → List ℕ
bytes_of run = map (λ c. c.byte) run

abbrev pub placed_run : List Cell → List Placed
placed_run run = map (λ c. byte_at c.at c.byte) run

-- the bytes of a source in these runs, with their places
abbrev pub list_of : ℕ → List (List Cell) → List Placed
list_of x runs = flat_map (λ run. if is_source x (id_of run) then placed_run run else []) runs

-- the offset of a run's last cell, and the one after it
abbrev pub last_at : List Cell → ℕ
last_at [] = 0
last_at (c ∷ []) = c.at
last_at (c ∷ (d ∷ run)) = last_at (d ∷ run)

abbrev pub end_of : List Cell → ℕ
end_of run = last_at run + 1

-- offsets rise from this one on
abbrev pub RisesFrom : ℕ → List Cell → Type 0
RisesFrom n [] = Unit {0}
RisesFrom n (c ∷ cells) = (n ≤ c.at) × RisesFrom (c.at + 1) cells

-- a run is not empty, and its offsets rise from this one on
abbrev pub IsRunFrom : ℕ → List Cell → Type 0
IsRunFrom n [] = ⊥
IsRunFrom n (c ∷ run) = RisesFrom n (c ∷ run)

-- how many of a frame's first cells are one run
abbrev pub more_of : Cell → List Cell → ℕ
more_of c [] = 0
more_of c (d ∷ cells) = if d.run == c.run then suc (more_of d cells) else 0

abbrev pub run_length : List Cell → ℕ
run_length [] = 0
run_length (c ∷ cells) = suc (more_of c cells)

-- The runs of frames whose cells rise in offset are in order, after the notice of the port's lock.
use Rattle.std.proofs.Common.{ℕ, zero, suc, ◌+◌, ◌≤◌, List, [], ◌∷◌, ◌++◌, length, take, drop, flat_map}
use Rattle.std.proofs.Common.{sym, subst, arith}
use Rattle.std.proofs.lemmas.List.{map-append}
use Rattle.trace_values.specs.declared.cell.Cell.{Cell}
use Rattle.trace_values.specs.Placed.{Place, Placed}
use Rattle.trace_values.specs.Reading.{Splits}
use Rattle.trace_values.specs.declared.reading_modes.FramesMode.{FramesMode}
use Rattle.trace_values.specs.declared.reading_modes.FramesMode.TheVariants.{Hunt, Aligned, Bare}
use Rattle.deformatter.specs.PortReading.{PortReading, port_reading}
use Rattle.deformatter.specs.Rising.{Rise, offsets_in, BytesRise, CellsRise, end_at}
use Rattle.deformatter.proofs.RisingLaws.{rise_split, reading_rises}
use Rattle.source_events.specs.Runs.{runs_of, all_runs, RisesFrom, IsRunFrom, end_of, more_of}
use Rattle.source_events.specs.Merge.{Between, InOrder}
use Rattle.source_events.specs.Report.{runs_in}
use Rattle.source_events.proofs.Running.{runs_split, rises_take, shorter}

-- runs from one offset on, up to another
abbrev pub RunsBetween : ℕ → ℕ → List (List Cell) → Type 0
RunsBetween n k runs = Between IsRunFrom end_of n k runs

pub rises_from : (cells : List Cell) (n k : ℕ) → CellsRise n k cells → RisesFrom n cells
rises_from [] n k r = tt
rises_from (c ∷ cells) n k r = (r.0, rises_from cells (c.at + 1) k r.1)

after_run : (m n k : ℕ) (c : Cell) (cells : List Cell) → CellsRise n k (c ∷ cells) →
    CellsRise (end_of (c ∷ take m cells)) k (drop m cells)
after_run zero n k c cells r = r.1
after_run (suc m) n k c [] r = r.1
after_run (suc m) n k c (d ∷ cells) r = after_run m (c.at + 1) k d cells r.1

-- the runs of cells that rise
frame_between : (size n k : ℕ) (cells : List Cell) → length cells ≤ size → CellsRise n k cells →
    RunsBetween n k (runs_of cells)
frame_between size n k [] l r = r
frame_between zero n k (c ∷ cells) l r = absurd (omega arith)
frame_between (suc size) n k (c ∷ cells) l r =
    subst (λ (x : List (List Cell)). Between IsRunFrom end_of n k x) (sym (runs_split c cells)) (
      (r.0, rises_take (more_of c cells) (c.at + 1) cells (rises_from cells (c.at + 1) k r.1)),
      frame_between size (end_of (c ∷ take (more_of c cells) cells)) k (drop (more_of c cells) cells)
          (omega (arith, shorter (more_of c cells) cells)) (after_run (more_of c cells) n k c cells r),
    )

pub between_join : (a b : List (List Cell)) (n m k : ℕ) → RunsBetween n m a → RunsBetween m k b →
    RunsBetween n k (a ++ b)
between_join [] [] n m k x y = (let p : n ≤ m = x in let q : m ≤ k = y in let z : n ≤ k = omega arith in z)
between_join [] ([] ∷ b) n m k x y = absurd y.0
between_join [] ((c ∷ run) ∷ b) n m k x y = (((let p : n ≤ m = x in let q = y.0.0 in omega arith), y.0.1), y.1)
between_join (run ∷ a) b n m k x y = (x.0, between_join a b (end_of run) m k x.1 y)

pub between_order : (runs : List (List Cell)) (n k : ℕ) → RunsBetween n k runs → InOrder IsRunFrom end_of n runs
between_order [] n k b = tt
between_order (run ∷ runs) n k b = (b.0, between_order runs (end_of run) k b.1)

-- the runs of all frames
pub frames_between : (frames : List (List Cell)) (n k : ℕ) →
    CellsRise n k (flat_map (λ (frame : List Cell). frame) frames) → RunsBetween n k (all_runs frames)
frames_between [] n k r = r
frames_between (f ∷ frames) n k r =
    let rest = flat_map (λ (frame : List Cell). frame) frames in
    let s = rise_split (offsets_in f) (offsets_in rest) n k
    (subst (λ (l : List ℕ). Rise n k l) (map-append (λ (c : Cell). c.at) f rest) r) in
    between_join (runs_of f) (all_runs frames) n (end_at n (offsets_in f)) k
    (frame_between (length f) n (end_at n (offsets_in f)) f (let q : length f ≤ length f = omega arith in q) s.0)
    (frames_between frames (end_at n (offsets_in f)) k s.1)

pub runs_between : (mode : FramesMode) (u : List Placed) (lo hi : ℕ) → BytesRise lo hi u →
    RunsBetween lo hi (runs_in (port_reading mode u))
runs_between mode u lo hi r = frames_between (port_reading mode u).frames lo hi (reading_rises mode u lo hi r)

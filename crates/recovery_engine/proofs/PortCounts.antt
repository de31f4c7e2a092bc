-- What bytes add to the counts of the port.
use Rattle.std.proofs.Common.{◌≡◌, ℕ, suc, ◌+◌, List, [], ◌∷◌, ◌++◌, refl, sym, ◌∙◌, ap, subst, arith, append-nil}
use Rattle.std.proofs.Common.{map, flat_map, length, Bool, true, false, cond, inl, inr, ◌⊎◌}
use Rattle.std.specs.Prelude.{◌==◌, ◌&&◌, ◌||◌, ◌≢◌, if◌then◌else◌, Option, None, Some}
use Rattle.std.specs.List.{count_by, range_with_len}
use Rattle.std.proofs.lemmas.Grind.{flat_map-append}
use Rattle.std.proofs.lemmas.List.{length-map}
use Rattle.std.proofs.lemmas.List.Sums.{sum_by-cons}
use Rattle.trace_values.specs.declared.cell.Cell.{Cell}
use Rattle.trace_values.specs.Placed.{Place, Placed}
use Rattle.trace_values.specs.declared.fault.Reason.{Reason}
use Rattle.trace_values.specs.declared.reading_modes.FramesMode.{FramesMode}
use Rattle.trace_values.specs.declared.reading_modes.FramesMode.TheVariants.{Hunt, Aligned, Bare}
use Rattle.deformatter.specs.PortReading.{bare_cell, framed}
use Rattle.deformatter.specs.Reading.{port_stream}
use Rattle.deformatter.specs.ReadingGrowth.{frames_by}
use Rattle.deformatter.specs.Runs.{HaveRuns}
use Rattle.deformatter.specs.declared.step.PortStep.{PortStep}
use Rattle.deformatter.specs.declared.step.PortStep.TheVariants.{Quiet, Half, Full as FullEnds, Frame, Locked}
use Rattle.deformatter.specs.declared.step.PortStep.TheVariants.{Fault as Faulty}
use Rattle.deformatter.proofs.PortReadingLaws.{frames_have_runs}
use Rattle.frame_grammar.specs.Port.{PortItem}
use Rattle.frame_grammar.specs.Reading.{source_list}
use Rattle.frame_grammar.specs.Runs.{HasRuns}
use Rattle.source_counts.proofs.Whole.{all_cells}
use Rattle.source_counts.specs.Counts.{bytes_of, frame_items, items_of, unattributed_of}
use Rattle.source_counts.specs.declared.counts.Counts.{Counts}
use Rattle.source_events.proofs.Merges.{same_or_not, test_other}
use Rattle.source_events.specs.Runs.{runs_of, all_runs as runs_in_all}
use Rattle.stretch_readings.specs.Stretches.{Stretch, Stretches}
use Rattle.recovering_machines.specs.Port.{raised}
use Rattle.recovery_report.specs.Counts.{CountsGrow}
use Rattle.recovery_report.specs.Port.{PortStretch, PortStretches, of_stretches, port_stretches, recovered, stretch_of}
use Rattle.recovery_report.specs.Port.{frames_of, fulls_of, halves_of}
use Rattle.recovery_report.specs.Report.{Run, break_of, lock_of, parts_of, run_in}
use Rattle.recovery_report.proofs.CountLaws.{frames_push}

-- a lock ends as much, whatever its count
pub by_raised : (old new : PortStretches) (count : ℕ) (step : PortStep) (cells : List Cell) →
    CountsGrow old new step cells → CountsGrow old new (raised count step) cells
by_raised old new count Quiet cells g = g
by_raised old new count Half cells g = g
by_raised old new count FullEnds cells g = g
by_raised old new count Frame cells g = g
by_raised old new count (Locked n) cells g = record { frames = g.frames; fulls = g.fulls; halves = g.halves }
by_raised old new count (Faulty f) cells g = g

-- what a quiet byte adds, and then more
pub counts_then : (a b c : PortStretches) (step : PortStep) (cells : List Cell) → CountsGrow a b Quiet [] →
    CountsGrow b c step cells → CountsGrow a c step cells
counts_then a b c step cells g h = record {
  frames = h.frames ∙ ap (λ l. l ++ frames_by step cells) (g.frames ∙ append-nil (frames_of a));
  fulls = (let x = g.fulls in let y = h.fulls in omega (arith, x, y));
  halves = (let x = g.halves in let y = h.halves in omega (arith, x, y));
}

pub counts_none : (a : PortStretches) → CountsGrow a a Quiet []
counts_none a = record {
  frames = sym (append-nil (frames_of a));
  fulls = (let e : fulls_of a ≡ fulls_of a + 0 = omega arith in e);
  halves = (let e : halves_of a ≡ halves_of a + 0 = omega arith in e);
}

-- with no formatter each byte is a frame of source 1
abbrev bare_frames : List Placed → List (List Cell)
bare_frames u = map (λ b. bare_cell b ∷ []) u

bare_frames_are : (u : List Placed) → frames_of (recovered Bare u) ≡ bare_frames u
bare_frames_are u = append-nil (bare_frames u)

sent_by : (x : ℕ) (u : List Placed) → bytes_of x (bare_frames u) ≡ cond (1 == x) (length u) 0
sent_by x [] = by (1 == x) where
  by : (t : Bool) → ◌≡◌ {A = ℕ} 0 (cond t 0 0)
  by true = refl
  by false = refl
sent_by x (b ∷ u) = by (1 == x) (sent_by x u) where
  by : (t : Bool) → bytes_of x (bare_frames u) ≡ cond t (length u) 0 →
      length (cond t (bare_cell b ∷ source_list x (all_cells (bare_frames u)))
      (source_list x (all_cells (bare_frames u)))) ≡ cond t (length (b ∷ u)) 0
  by true e = ap suc e
  by false e = e

one_item : (x : ℕ) (b : Placed) → frame_items x (bare_cell b ∷ []) ≡ cond (1 == x) 1 0
one_item x b = by (1 == x) (x == 0) (x == 125) not_null where
  not_null : (1 == x) ≡ true → (x == 0) ≡ false
  not_null e = elim (same_or_not 1 x) [
    | inl q ↦ test_other x 0 (λ z. (let a = q in let b = z in omega arith))
    | inr n ↦ (let f = test_other 1 x n in cc)
  ]

  by : (t n r : Bool) → (t ≡ true → n ≡ false) → cond n 0 (cond r (length (cond t (bare_cell b ∷ []) []))
      (count_by (λ (run : ℕ). (t && 0 == run) || false) (range_with_len 0 9))) ≡ cond t 1 0
  by true true r h = (let f = h refl in cc)
  by true false true h = refl
  by true false false h = refl
  by false true r h = refl
  by false false true h = refl
  by false false false h = refl

items_by : (x : ℕ) (u : List Placed) → items_of x (bare_frames u) ≡ cond (1 == x) (length u) 0
items_by x [] = by (1 == x) where
  by : (t : Bool) → ◌≡◌ {A = ℕ} 0 (cond t 0 0)
  by true = refl
  by false = refl
items_by x (b ∷ u) =
    sum_by-cons (frame_items x) (bare_cell b ∷ []) (bare_frames u)
    ∙ ap (λ (n : ℕ). n + items_of x (bare_frames u)) (one_item x b)
    ∙ ap (λ (n : ℕ). cond (1 == x) 1 0 + n) (items_by x u) ∙ by (1 == x) where
      by : (t : Bool) → cond t 1 0 + cond t (length u) 0 ≡ cond t (length (b ∷ u)) 0
      by true = (let e : 1 + length u ≡ suc (length u) = omega arith in e)
      by false = refl

same_counts : (a b n : ℕ) → a ≡ n → b ≡ n →
    (let c : Counts = record { bytes = n; items = n } in let d : Counts = record { bytes = a; items = b } in c ≡ d)
same_counts a b n e f = cc

pub bare_is : (mode : FramesMode) (x n : ℕ) (u : List Placed) → mode ≡ Bare → n ≡ cond (1 == x) (length u) 0 →
    (let frames = frames_of (recovered mode u) in let c : Counts = record { bytes = n; items = n } in
    let d : Counts = record { bytes = bytes_of x frames; items = items_of x frames } in c ≡ d)
bare_is mode x n u m e =
    let is : frames_of (recovered mode u) ≡ bare_frames u =
    ap (λ (k : FramesMode). frames_of (recovered k u)) m ∙ bare_frames_are u in
    same_counts _ _ n (ap (bytes_of x) is ∙ sent_by x u ∙ sym e) (ap (items_of x) is ∙ items_by x u ∙ sym e)

-- which is not a mode with frames
pub framed_by : (mode : FramesMode) → (mode ≡ Hunt) ⊎ (mode ≡ Aligned) → mode ≢ Bare
framed_by mode (inl e) = λ b. (let q : Hunt ≡ Bare = sym e ∙ b in cc)
framed_by mode (inr e) = λ b. (let q : Aligned ≡ Bare = sym e ∙ b in cc)

pub bare_unattributed : (u : List Placed) → unattributed_of (frames_of (recovered Bare u)) ≡ 0
bare_unattributed u = ap unattributed_of (bare_frames_are u) ∙ none_by u where
  none_by : (v : List Placed) → unattributed_of (bare_frames v) ≡ 0
  none_by [] = refl
  none_by (b ∷ v) = none_by v

pub bare_counts : (u : List Placed) →
    (fulls_of (recovered Bare u) ≡ 0) × (halves_of (recovered Bare u) ≡ 0)
    × (length (frames_of (recovered Bare u)) ≡ length u)
bare_counts u = (
  refl,
  refl,
  ap length (bare_frames_are u) ∙ length-map u (λ (b : Placed). bare_cell b ∷ []),
)

-- before the first byte nothing is counted
pub none_yet : (mode : FramesMode) →
    (frames_of (recovered mode []) ≡ []) × (fulls_of (recovered mode []) ≡ 0) × (halves_of (recovered mode []) ≡ 0)
none_yet Bare = (refl, refl, refl)
none_yet Aligned = (refl, refl, refl)
none_yet Hunt = (refl, refl, refl)

-- the cells of each frame have runs
have_append : (a b : List (List Cell)) → HaveRuns a → HaveRuns b → HaveRuns (a ++ b)
have_append [] b h k = k
have_append (frame ∷ a) b h k = (h.0, have_append a b h.1 k)

pub have_last : (a : List (List Cell)) (cells : List Cell) → HaveRuns (a ++ cells ∷ []) → HasRuns cells
have_last [] cells h = h.0
have_last (frame ∷ a) cells h = have_last a cells h.1

stretch_runs : (s : Stretch) → HaveRuns (stretch_of s).reading.frames
stretch_runs s = by s.hunts where
  by : (h : Bool) → HaveRuns (framed (port_stream h s.units)).frames
  by true = frames_have_runs Hunt s.units
  by false = frames_have_runs Aligned s.units

past_runs : (past : List Stretch) → HaveRuns (flat_map (λ (t : PortStretch). t.reading.frames) (map stretch_of past))
past_runs [] = tt
past_runs (s ∷ past) = have_append (stretch_of s).reading.frames _ (stretch_runs s) (past_runs past)

all_runs : (r : Stretches) → HaveRuns (frames_of (of_stretches r))
all_runs r = subst (λ l. HaveRuns l) (sym (frames_push (map stretch_of r.past) (stretch_of r.now)))
    (have_append _ (stretch_of r.now).reading.frames (past_runs r.past) (stretch_runs r.now))

pub recovered_runs : (mode : FramesMode) (u : List Placed) → HaveRuns (frames_of (recovered mode u))
recovered_runs Bare u = subst (λ l. HaveRuns l) (sym (bare_frames_are u)) (frames_have_runs Bare u)
recovered_runs Aligned u = all_runs (port_stretches Aligned u)
recovered_runs Hunt u = all_runs (port_stretches Hunt u)

-- the runs of the parts are those of the frames
no_lock : (h : Bool) (items : List (PortItem × Place)) (n : ℕ) →
    flat_map run_in (if h then lock_of items n else []) ≡ []
no_lock false items n = refl
no_lock true [] n = refl
no_lock true (item ∷ items) n = refl

no_break : (o : Option (Place × Reason)) → flat_map run_in (break_of o) ≡ []
no_break None = refl
no_break (Some f) = refl

run_back : (runs : List (List Cell)) → flat_map run_in (map Run runs) ≡ runs
run_back [] = refl
run_back (run ∷ runs) = ap (λ l. run ∷ l) (run_back runs)

runs_in_stretch : (s : PortStretch) → flat_map run_in (parts_of s) ≡ runs_in_all s.reading.frames
runs_in_stretch s =
    let lock = if s.hunts then lock_of s.items.items s.skipped else [] in
    let runs = map Run (runs_in_all s.reading.frames) in
    flat_map-append run_in lock (runs ++ break_of s.reading.fault)
    ∙ ap (λ l. l ++ flat_map run_in (runs ++ break_of s.reading.fault)) (no_lock s.hunts s.items.items s.skipped)
    ∙ flat_map-append run_in runs (break_of s.reading.fault)
    ∙ ap (λ l. flat_map run_in runs ++ l) (no_break s.reading.fault) ∙ append-nil (flat_map run_in runs)
    ∙ run_back (runs_in_all s.reading.frames)

pub runs_are : (ss : List PortStretch) →
    flat_map run_in (flat_map parts_of ss) ≡ runs_in_all (flat_map (λ (s : PortStretch). s.reading.frames) ss)
runs_are [] = refl
runs_are (s ∷ ss) =
    let frames : List (List Cell) = flat_map (λ (t : PortStretch). t.reading.frames) ss in
    flat_map-append run_in (parts_of s) (flat_map parts_of ss)
    ∙ ap (λ l. l ++ flat_map run_in (flat_map parts_of ss)) (runs_in_stretch s)
    ∙ ap (λ l. runs_in_all s.reading.frames ++ l) (runs_are ss)
    ∙ sym (flat_map-append (λ (frame : List Cell). runs_of frame) s.reading.frames frames)

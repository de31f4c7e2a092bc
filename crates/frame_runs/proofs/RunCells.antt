-- A run of a frame, whose bytes have others behind them.
use Rattle.std.proofs.Common.{◌≡◌, ℕ, ◌+◌, ◌-◌, ◌<◌, List, length, take, drop, get_or, ◌∙◌, sym, ap, arith}
use Rattle.std.proofs.lemmas.List.{drop-take, get_or-drop, get_or-take}
use Rattle.source_events.specs.Runs.{bytes_of}
use Rattle.trace_values.specs.Cells.{source_id}
use Rattle.trace_values.specs.declared.cell.Cell.{Cell}
use Rattle.frame_runs.specs.declared.split.SplitRun.{SplitRun}
use Rattle.frame_runs.specs.Run.{IsRunOf}
use Rattle.frame_runs.specs.Split.{data_places, run_in, start_in}
use Rattle.frame_runs.proofs.DataCells.{cells_bytes, cells_cell, cells_id}
use Rattle.frame_runs.proofs.Parts.{part_length, part_places, part_sized}
use Rattle.frame_runs.proofs.Splitting.{part_to, places_long}

module _ (run : SplitRun) where
  abbrev from : ℕ
  from = run.from

  abbrev end : ℕ
  end = run.end

  abbrev bytes : List ℕ
  bytes = run.placed.now.bytes

  abbrev places : List ℕ
  places = data_places run.placed.now

  pub run_length : length (run_in run) ≡ end - from
  run_length = part_length places bytes (places_long run.placed.now) run.placed.now.sized (part_to (start_in run) run.end) run.within

  own_places : length (drop from (take end places)) ≡ end - from
  own_places = part_places places bytes (places_long run.placed.now) run.placed.now.sized (part_to (start_in run) run.end) run.within

  own_bytes : length (drop from (take end bytes)) ≡ end - from
  own_bytes = part_sized places bytes (places_long run.placed.now) run.placed.now.sized (part_to (start_in run) run.end) run.within

  same : take (end - from) (drop from bytes) ≡ drop from (take end bytes)
  same =
      sym (drop-take from (end - from) bytes)
      ∙ ap (λ (n : ℕ). drop from (take n bytes)) (let a = run.some in let e : from + (end - from) ≡ end = omega arith in e)

  pub run_bytes : take (length (run_in run)) (drop from bytes) ≡ bytes_of (run_in run)
  run_bytes =
      ap (λ (n : ℕ). take n (drop from bytes)) run_length
      ∙ same
      ∙ sym (cells_bytes (drop from (take end places)) (source_id run.number) run.run (drop from (take end bytes))
      (let a = own_places in let b = own_bytes in omega arith))

  pub run_cell : (i : ℕ) (c : Cell) → i < end - from → get_or (run_in run) i c ≡
      record { at = get_or places (from + i) 0; id = source_id run.number; run = run.run; byte = get_or bytes (from + i) 0 }
  run_cell i c l =
      let a = own_places in
      let b = own_bytes in
      cells_cell (drop from (take end places)) (source_id run.number) run.run (drop from (take end bytes)) i 0 0 c (omega arith) (omega arith)
      ∙ ap (λ (x : ℕ). record { at = x; id = source_id run.number; run = run.run; byte = get_or (drop from (take end bytes)) i 0 })
      (get_or-drop from (take end places) i 0 ∙ get_or-take end places (from + i) 0 (omega arith))
      ∙ ap (λ (x : ℕ). record { at = get_or places (from + i) 0; id = source_id run.number; run = run.run; byte = x })
      (get_or-drop from (take end bytes) i 0 ∙ get_or-take end bytes (from + i) 0 (omega arith))

  pub run_own : IsRunOf (source_id run.number) (run_in run)
  run_own =
      let a = own_places in
      let b = own_bytes in
      let l = run_length in
      let some = run.some in
      let within = run.within in
      record {
        own = cells_id (drop from (take end places)) (source_id run.number) run.run (drop from (take end bytes)) (omega arith) (omega arith);
        some = omega arith;
        few = omega arith;
      }

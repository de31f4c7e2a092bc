use Rattle.std.proofs.Common.{◌<◌, ◌+◌, ◌-◌, ℕ, Option, sym, ◌∙◌, ap, arith}
use Rattle.std.specs.Prelude.{slice_index}
use Rattle.trace_values.specs.Cells.{source_id}
use Rattle.trace_values.specs.declared.cell.Cell.{Cell}
use Rattle.frame_runs.proofs.Placing.{offset_is}
use Rattle.frame_runs.proofs.RunCells.{run_length, run_cell}
use Rattle.frame_runs.proofs.split.SplitRunRun.cell.Goals as goal

pub overflow_add-here : goal.overflow_add-here
overflow_add-here c = (let l = run_length c.args.self.now in let i = c.requires in let w = c.args.self.now.within in omega (arith, l, i, w))

pub offset_of-requires : goal.offset_of-requires
offset_of-requires c = (let l = run_length c.args.self.now in let i = c.requires in let w = c.args.self.now.within in omega (arith, l, i, w))

pub byte_at-requires : goal.byte_at-requires
byte_at-requires c = (let l = run_length c.args.self.now in let i = c.requires in let w = c.args.self.now.within in omega (arith, l, i, w))

pub returns : goal.returns
returns c =
    let run = c.args.self.now in
    let placed = run.placed.now in
    let i = c.args.index in
    let within = run.within in
    let l : i < run.end - run.from = (let h = c.requires in let r = run_length run in omega (arith, h, r)) in
    let long = placed.places in
    let own : ℕ → ℕ → Cell = λ at byte. record { at = at; id = source_id run.number; run = run.run; byte = byte } in
    ap (λ (x : Option ℕ). record { at = c.offset_of.result; id = x; run = run.run; byte = c.byte_at.result }) c.new.ensures
    ∙ ap (λ (x : ℕ). own x c.byte_at.result) c.offset_of.ensures
    ∙ ap (λ (x : ℕ). own (placed.at + slice_index placed.behind (run.from + i)) x) c.byte_at.ensures
    ∙ ap (λ (x : ℕ). own x (slice_index placed.bytes (run.from + i)))
    (sym (offset_is placed.at placed.behind (run.from + i) (omega (arith, l, within, long))))
    ∙ sym (run_cell run i _ l)

use Rattle.std.proofs.Common.{◌≡◌, ◌<◌, ◌-◌, [], ◌∷◌, take, drop, length, map, sym, ◌∙◌, ap, subst, refl, arith}
use Rattle.std.proofs.Common.{List, ℕ, ◌≤◌}
use Rattle.std.proofs.lemmas.Bool.Decides.{nat_tests}
use Rattle.std.proofs.lemmas.List.{length-drop, length-take-le, take_all}
use Rattle.trace_values.specs.declared.cell.Cell.{Cell}
use Rattle.source_events.specs.Runs.{id_of, runs_of}
use Rattle.frame_runs.specs.Run.{cells_of}
use Rattle.frame_runs.proofs.FirstRuns.{cut_at}
use Rattle.recovery_engine.proofs.Frames.{id_is}
use Rattle.recovery_report.specs.Report.{Run}
use Rattle.recovery_engine.specs.Taking.{Takes}
use Rattle.recovery_engine.proofs.Parts.{takes_none, takes_then}
use Rattle.recovery_engine.proofs.router.+take_frame.Goals as goal

no_cells : (cells : List Cell) → length cells ≡ 0 → cells ≡ []
no_cells [] e = refl
no_cells (x ∷ cells) e = absurd (omega arith)

pub returns-then-is_empty-clause-takes : goal.returns-then-is_empty-clause-takes
returns-then-is_empty-clause-takes g t c =
    let none : length c.args.cells.now ≡ 0 = (let e = c.is_empty.ensures in let f = c.if-is_empty.ensures in
    let h = c.if-is_empty.true in grind (arith, nat_tests)) in
    subst (λ l. Takes g.V.Receiver.gets (map Run (runs_of l)) (c.args.slots.now, (c.args.out.now, c.args.to.now))
    (c.args.slots.now, (c.args.out.now, c.args.to.now))) (sym (no_cells c.args.cells.now none))
    (takes_none g.V.Receiver.gets g.met.V.Receiver.adds_up.none (c.args.slots.now, (c.args.out.now, c.args.to.now)))

pub returns-clause-takes : goal.returns-clause-takes
returns-clause-takes g t c =
    let cells = c.args.cells.now in
    let n = c.run_length-n.result in
    let some : 0 < length cells = (let x = c.run_length-n.ensures.some in let y =
    c.run_length-n.ensures.within in omega (arith, x, y)) in
    let rest = drop n cells in
    let more = take (length cells - n) rest in
    let left = length-drop n cells in
    let tail : more ≡ rest = take_all (length cells - n) rest (omega (arith, left)) in
    subst (λ l. Takes g.V.Receiver.gets (map Run l) (c.args.slots.now, (c.args.out.now, c.args.to.now))
    (c.take_frame.new.slots, (c.take_frame.new.out, c.take_frame.new.to)))
    (ap (λ l. take n cells ∷ runs_of l) tail ∙ sym (cut_at cells n c.run_length-n.ensures.value some))
    (takes_then g.V.Receiver.gets g.met.V.Receiver.adds_up.more (c.args.slots.now, (c.args.out.now, c.args.to.now)) (
      c.take_run.new.slots,
      (c.take_run.new.out, c.take_run.new.to),
    ) (c.take_frame.new.slots, (c.take_frame.new.out, c.take_frame.new.to))
    (Run (take n cells) ∷ []) (map Run (runs_of more))
    (subst (λ (l : List Cell). Takes g.V.Receiver.gets (Run l ∷ []) (c.args.slots.now, (c.args.out.now, c.args.to.now))
    (c.take_run.new.slots, (c.take_run.new.out, c.take_run.new.to))) c.of.ensures c.take_run.ensures.takes)
    c.take_frame.ensures.takes)

pub take_run-requires : goal.take_run-requires
take_run-requires g t c =
    let cells = c.args.cells.now in
    let n = c.run_length-n.result in
    let within = c.run_length-n.ensures.within in
    let some = c.run_length-n.ensures.some in
    let size : length (cells_of c.of.result) ≡ n = ap length c.of.ensures ∙ length-take-le n cells within in
    let few = c.requires.size in
    record {
      own =
          record {
            own =
                ap id_of c.of.ensures ∙ sym (id_is (take n cells) c.index-run-0.result
                (let a = length-take-le n cells within in omega (arith, a, some)));
            some = omega (arith, size, some);
            few = omega (arith, size, within, few);
          };
      few = (let a = c.requires.few in omega (arith, size, within, a));
      room = (let a = c.requires.room in omega (arith, size, within, a));
    }

-- what is left of the cells
left_size : (cells : List Cell) (n : ℕ) → n ≤ length cells →
    length (take (length cells - n) (drop n cells)) ≡ length cells - n
left_size cells n within =
    let d = length-drop n cells in length-take-le (length cells - n) (drop n cells) (omega (arith, d))

pub returns-clause-few : goal.returns-clause-few
returns-clause-few g t c =
    let cells = c.args.cells.now in
    let n = c.run_length-n.result in
    let within = c.run_length-n.ensures.within in
    let size : length (cells_of c.of.result) ≡ n = ap length c.of.ensures ∙ length-take-le n cells within in
    let left = left_size cells n within in
    let a = c.take_frame.ensures.few in
    let b = c.take_run.ensures.few in omega (arith, size, within, a, b, left)

pub returns-clause-room : goal.returns-clause-room
returns-clause-room g t c =
    let cells = c.args.cells.now in
    let n = c.run_length-n.result in
    let within = c.run_length-n.ensures.within in
    let size : length (cells_of c.of.result) ≡ n = ap length c.of.ensures ∙ length-take-le n cells within in
    let left = left_size cells n within in
    let a = c.take_frame.ensures.room in
    let b = c.take_run.ensures.room in omega (arith, size, within, a, b, left)

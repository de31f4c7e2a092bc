use Rattle.std.proofs.Common.{◌≡◌, ◌≤◌, ℕ, List, Option, map, refl, sym, ◌∙◌, ap, subst, arith, length}
use Rattle.trace_values.specs.declared.cell.Cell.{Cell}
use Rattle.frame_grammar.specs.Frame.{cells}
use Rattle.frame_grammar.specs.declared.gather.PlacedFrame.{PlacedFrame}
use Rattle.frame_grammar.proofs.CellLaws.{few_cells}
use Rattle.frame_runs.specs.Gathered.{frame_places}
use Rattle.source_events.specs.Runs.{runs_of}
use Rattle.frame_runs.specs.Split.{left_cells, run_in, split_cells}
use Rattle.frame_runs.specs.declared.split.SplitFrame.{SplitFrame}
use Rattle.frame_runs.proofs.Parts.{first_run}
use Rattle.recovery_report.specs.Report.{Run}
use Rattle.recovery_engine.specs.Taking.{Takes}
use Rattle.recovery_engine.proofs.Frames.{SoFar, all_taken, none_taken, one_more}
use Rattle.recovery_engine.proofs.router.take_whole.Goals as goal

pub loop-run-init : goal.loop-run-init
loop-run-init g c =
    let split = c.of-split.result in
    record {
      left = c.runs-left.ensures.left;
      so_far =
          subst (λ (l : List Cell). SoFar g.V.Receiver.gets g.V.Receiver.room (split_cells split)
          (c.args.slots.now, (c.args.out.now, c.args.to.now)) l (c.args.slots.now, (c.args.out.now, c.args.to.now)))
          (sym c.runs-left.ensures.all)
          (none_taken g.V.Receiver.gets g.V.Receiver.room (split_cells split)
          (c.args.slots.now, (c.args.out.now, c.args.to.now)) g.met.V.Receiver.adds_up.none);
    }

-- a frame has at most 15 cells
few : (split : SplitFrame) → length (split_cells split) ≤ 15
few split = few_cells split.frame.now.bytes (frame_places split.frame.now) split.id

pub take_run-requires : goal.take_run-requires
take_run-requires g c =
    let i = c.loop-run.invariant.so_far in
    let cut = first_run _ _ _ c.in-Some.ensures.first c.source.ensures.some in
    let all = cut.total in
    let most = few c.of-split.result in
    let size = i.size in
    record {
      own = c.source.ensures;
      few = (let now = i.few in let before = c.requires.few in omega (arith, all, most, size, now, before));
      room = (let now = i.space in let before = c.requires.room in omega (arith, all, most, size, now, before));
    }

pub loop-run-smaller : goal.loop-run-smaller
loop-run-smaller g c =
    let cut = first_run _ _ _ c.in-Some.ensures.first c.source.ensures.some in
    let all = cut.total in
    let some = c.source.ensures.some in
    omega (arith, all, some)

pub loop-run-preserved : goal.loop-run-preserved
loop-run-preserved g c =
    let split = c.of-split.result in
    let run = c.in-Some.run' in
    record {
      left = c.in-Some.ensures.left;
      so_far =
          one_more g.V.Receiver.gets g.V.Receiver.room (split_cells split)
          (c.args.slots.now, (c.args.out.now, c.args.to.now)) g.met.V.Receiver.adds_up.more
          (left_cells split c.loop-run.left) (run_in run) (left_cells split c.next_run.new.left)
          (c.loop-run.slots, (c.loop-run.out, c.loop-run.to))
          (c.take_run.new.slots, (c.take_run.new.out, c.take_run.new.to))
          (first_run _ _ _ c.in-Some.ensures.first c.source.ensures.some) c.loop-run.invariant.so_far
          c.take_run.ensures.takes c.take_run.ensures.len c.take_run.ensures.few c.take_run.ensures.room;
    }

pub returns : goal.returns
returns g c =
    let split = c.of-split.result in
    let i = c.loop-run.invariant.so_far in
    let most = few split in
    let same : split_cells split ≡ cells c.args.frame.now.bytes (frame_places c.args.frame.now) c.args.id.now =
    ap (λ (id : Option ℕ). cells split.frame.now.bytes (frame_places split.frame.now) id) c.of-split.ensures.id
    ∙ ap (λ (f : PlacedFrame). cells f.bytes (frame_places f) c.args.id.now) c.of-split.ensures.frame in
    record {
      takes =
          subst (λ (l : List Cell). Takes g.V.Receiver.gets (map Run (runs_of l))
          (c.args.slots.now, (c.args.out.now, c.args.to.now)) (c.loop-run.slots, (c.loop-run.out, c.loop-run.to))) same
          (all_taken g.V.Receiver.gets g.V.Receiver.room (split_cells split)
          (c.args.slots.now, (c.args.out.now, c.args.to.now))
          (left_cells split c.loop-run.left) (c.loop-run.slots, (c.loop-run.out, c.loop-run.to))
          (c.in_default.ensures.none refl) i);
      len = i.len;
      few = (let f = i.few in omega (arith, f, most));
      room = (let f = i.space in omega (arith, f, most));
    }

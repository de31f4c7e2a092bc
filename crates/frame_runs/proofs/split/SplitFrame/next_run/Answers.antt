use Rattle.std.proofs.Common.{◌≡◌, ◌+◌, ◌∙◌, ℕ, List, ap, arith, length, refl, subst, sym}
use Rattle.frame_runs.specs.Pairs.{ends_left}
use Rattle.trace_values.specs.declared.cell.Cell.{Cell}
use Rattle.frame_runs.specs.Split.{IsFirstRun, begun_after, begun_cells, cells_to, data_places, left_cells, run_begun}
use Rattle.frame_runs.specs.declared.split.RunsLeft.{RunsLeft}
use Rattle.frame_runs.proofs.Cuts.{first_here, next_left, none_here, pair_below, runs_below}
use Rattle.frame_runs.proofs.split.SplitFrame.next_run.Goals as goal

pub loop-pair-init : goal.loop-pair-init
loop-pair-init c = record { left = c.requires.left; same = refl }

pub end_of-end-requires-clause-pair : goal.end_of-end-requires-clause-pair
end_of-end-requires-clause-pair c =
    pair_below c.args.self.now c.loop-pair.left c.in-Some.pair (ends_left c.next.new.self) c.loop-pair.invariant.left
    c.in-Some.ensures.some

pub begun_after-left-requires-clause-pair : goal.begun_after-left-requires-clause-pair
begun_after-left-requires-clause-pair c =
    pair_below c.args.self.now c.loop-pair.left c.in-Some.pair (ends_left c.next.new.self) c.loop-pair.invariant.left
    c.in-Some.ensures.some

pub begun_after-left-requires-clause-run : goal.begun_after-left-requires-clause-run
begun_after-left-requires-clause-run c =
    runs_below c.args.self.now c.loop-pair.left c.in-Some.pair (ends_left c.next.new.self) c.loop-pair.invariant.left
    c.in-Some.ensures.some

pub loop-pair-preserved : goal.loop-pair-preserved
loop-pair-preserved c =
    let split = c.args.self.now in
    let i = c.loop-pair.invariant in
    let k = c.in-Some.pair in
    let next : RunsLeft = record { begun = c.begun_after-left.result; ends = c.next.new.self } in
    let after : run_begun next.begun ≡ begun_after split.frame.now.bytes (run_begun c.loop-pair.left.begun) k = ap run_begun c.begun_after-left.ensures
    ∙ ap (λ (m : ℕ). record (begun_after split.frame.now.bytes (run_begun c.loop-pair.left.begun) k) { from = m + 1 }) c.end_of-end.ensures.is in
    record {
      left = next_left split c.loop-pair.left next k i.left c.in-Some.ensures.some after;
      same =
          sym (none_here split c.loop-pair.left next k i.left c.in-Some.ensures.some after
          (let t = c.if-begun-end.false in let e = c.end_of-end.ensures.is in omega (arith, t, e))) ∙ i.same;
    }

pub loop-pair-smaller : goal.loop-pair-smaller
loop-pair-smaller c = let e = ap length c.in-Some.ensures.some in omega (arith, e)

pub returns-then-begun-end : goal.returns-then-begun-end
returns-then-begun-end c =
    let split = c.args.self.now in
    let i = c.loop-pair.invariant in
    let k = c.in-Some.pair in
    let begun = c.loop-pair.left.begun in
    let next : RunsLeft = record { begun = c.begun_after-left.result; ends = c.next.new.self } in
    let after : run_begun next.begun ≡ begun_after split.frame.now.bytes (run_begun begun) k = ap run_begun c.begun_after-left.ensures
    ∙ ap (λ (m : ℕ). record (begun_after split.frame.now.bytes (run_begun begun) k) { from = m + 1 }) c.end_of-end.ensures.is in
    let e = c.end_of-end.ensures.is in
    let first = first_here split c.loop-pair.left next k i.left c.in-Some.ensures.some after
    (let t = c.if-begun-end.true in omega (arith, t, e)) in
    record {
      left = next_left split c.loop-pair.left next k i.left c.in-Some.ensures.some after;
      none = λ q. cc;
      first = subst (λ (l : List Cell). IsFirstRun l (begun_cells (data_places split.placed.now) split.placed.now.bytes (run_begun begun) c.end_of-end.result)
          (left_cells split next)) i.same
          (subst (λ (m : ℕ). IsFirstRun (left_cells split c.loop-pair.left) (begun_cells (data_places split.placed.now) split.placed.now.bytes (run_begun begun) m)
          (left_cells split next)) (sym e) first);
    }

pub returns : goal.returns
returns c =
    let i = c.loop-pair.invariant in
    record {
      left = tt;
      none = λ q. sym i.same ∙ ap (λ (l : List ℕ). cells_to c.args.self.now (run_begun c.loop-pair.left.begun) l) (c.in_default.ensures.none refl);
      first = tt;
    }

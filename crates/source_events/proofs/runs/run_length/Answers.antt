use Rattle.std.proofs.Common.{◌-◌, arith, None, get_or}
use Rattle.trace_values.specs.declared.cell.Cell.{Cell}
use Rattle.source_events.proofs.Running.{none_more, other_next}
use Rattle.source_events.proofs.runs.run_length.Goals as goal

no_cell : Cell
no_cell = record { at = 0; id = None; run = 0; byte = 0 }

pub returns-clause-value : goal.returns-clause-value
returns-clause-value c =
    let k = none_more c.args.cells.now c.loop-n.n (get_or c.args.cells.now (c.loop-n.n - 1) no_cell) (omega arith) in
    omega (arith, c.loop-n.invariant.counted no_cell, k)

pub returns-then-cells-n-clause-value : goal.returns-then-cells-n-clause-value
returns-then-cells-n-clause-value c =
    let d = c.index-cells-n-in-loop-n.result in
    let k = other_next c.args.cells.now c.loop-n.n (get_or c.args.cells.now (c.loop-n.n - 1) d) c.index-cells-n.result c.loop-n-test.true c.if-cells-n.true in
    omega (arith, c.loop-n.invariant.counted d, k)

use Rattle.std.proofs.Common.{◌+◌, arith}
use Rattle.std.proofs.lemmas.List.{length-take}
use Rattle.source_counts.proofs.Parts.{IsMore, part_none, items_none, part_next, items_next}
use Rattle.source_counts.proofs.source_counts.SourceCounts.add_frame.Goals as goal

pub loop-cell-init : goal.loop-cell-init
loop-cell-init c = record { total = omega arith; part = part_none c.args.self.now; items = λ runs. items_none c.args.self.now }

pub loop-cell-preserved : goal.loop-cell-preserved
loop-cell-preserved c =
    let e = c.add_cell.ensures in
    let more : IsMore c.loop-cell.self c.add_cell.new.self c.cell-item.result c.ne.result = record { bytes = e.bytes; items = e.items; unattributed = e.unattributed; frames = e.frames; total = e.total } in
    record {
      total =
          let t = c.loop-cell.invariant.total in
          let h = c.loop-cell-test.true in
          omega (arith, e.total, length-take c.loop-cell.cell-index c.args.cells.now, length-take (c.loop-cell.cell-index + 1) c.args.cells.now);
      part = part_next c.args.self.now c.loop-cell.self c.add_cell.new.self c.args.cells.now c.loop-cell.cell-index c.cell-item.result c.ne.result c.loop-cell-test.true c.cell-item.is more
          c.loop-cell.invariant.part;
      items = λ runs. items_next c.args.self.now c.loop-cell.self c.add_cell.new.self c.args.cells.now c.loop-cell.cell-index c.cell-item.result c.ne.result c.loop-cell-test.true c.cell-item.is more
          c.loop-cell.before runs c.ne.ensures (c.loop-cell.invariant.items runs);
    }

pub add_cell-requires : goal.add_cell-requires
add_cell-requires c = let t = c.loop-cell.invariant.total in omega (arith, length-take c.loop-cell.cell-index c.args.cells.now)

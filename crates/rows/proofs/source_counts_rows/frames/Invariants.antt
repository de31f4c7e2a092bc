use Rattle.std.proofs.Common.{◌≤◌, ◌*◌}
use Rattle.source_counts.specs.Kept.{total_of}
use Rattle.rows.proofs.source_counts_rows.frames.Given as goal

abbrev pub invariant-loop-index : goal.invariant-loop-index
invariant-loop-index l = record { by_bytes : total_of l.by_bytes ≤ 16 * l.index; by_cells : total_of l.by_cells ≤ 16 * l.index }

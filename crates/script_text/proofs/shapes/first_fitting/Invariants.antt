use Rattle.std.proofs.Common.{◌≡◌, drop, map}
use Rattle.script_text.specs.Words.{texts}
use Rattle.script_text.specs.Shapes.{row_seen, first_row}
use Rattle.script_text.proofs.shapes.first_fitting.Given as goal

abbrev pub invariant-loop-row : goal.invariant-loop-row
invariant-loop-row l = first_row (map row_seen l.rows) (texts l.words)
    ≡ first_row (map row_seen (drop l.row-index l.rows)) (texts l.words)

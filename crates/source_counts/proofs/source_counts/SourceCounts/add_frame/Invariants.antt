use Rattle.std.proofs.Common.{◌≡◌, ◌+◌, length, take}
use Rattle.frame_grammar.specs.Runs.{HasRuns}
use Rattle.source_counts.specs.Kept.{total_of}
use Rattle.source_counts.proofs.Parts.{IsPart, IsItemsPart}
use Rattle.source_counts.proofs.source_counts.SourceCounts.add_frame.Given as goal

abbrev pub invariant-loop-cell : goal.invariant-loop-cell
invariant-loop-cell l = record {
  total : total_of l.self ≡ total_of l.initial.self + length (take l.cell-index l.cells);
  part : IsPart l.initial.self l.self (take l.cell-index l.cells);
  items : HasRuns l.cells → IsItemsPart l.initial.self l.self (take l.cell-index l.cells) l.before;
}

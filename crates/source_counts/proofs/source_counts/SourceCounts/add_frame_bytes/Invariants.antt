use Rattle.source_counts.proofs.Whole.{IsGoing}
use Rattle.source_counts.proofs.source_counts.SourceCounts.add_frame_bytes.Given as goal

abbrev pub invariant-loop-pair : goal.invariant-loop-pair
invariant-loop-pair l = IsGoing l.initial.self l.self l.frame l.fn.before l.pair l.id l.pending

use Rattle.std.proofs.Common.{length}
use Rattle.buffer_ring.proofs.Parts.{Took}
use Rattle.buffer_ring.proofs.buffer.TraceBuffer.push_all.Given as goal

abbrev pub invariant-loop-rest : goal.invariant-loop-rest
invariant-loop-rest l = Took l.initial.self l.self l.piece l.rest

abbrev pub decreases-loop-rest : goal.decreases-loop-rest
decreases-loop-rest l = length l.rest

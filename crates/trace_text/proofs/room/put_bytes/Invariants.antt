use Rattle.std.proofs.Common.{take}
use Rattle.trace_text.specs.Puts.{PutsAll}
use Rattle.trace_text.proofs.room.put_bytes.Given as goal

-- the bytes so far
abbrev pub invariant-loop-index : goal.invariant-loop-index
invariant-loop-index l = PutsAll l.fn.room l.room l.from l.end l.index (take l.index l.piece)

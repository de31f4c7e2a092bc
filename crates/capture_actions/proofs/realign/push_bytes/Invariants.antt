use Rattle.std.proofs.Common.{take}
use Rattle.capture_actions.specs.Realigner.{Pushes}
use Rattle.capture_actions.proofs.realign.push_bytes.Given as goal

abbrev pub invariant-loop-byte : goal.invariant-loop-byte
invariant-loop-byte l = Pushes l.fn.slip l.slip (take l.byte-index l.bytes) l.fn.outlet l.outlet

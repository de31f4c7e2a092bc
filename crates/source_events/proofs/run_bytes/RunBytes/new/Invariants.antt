use Rattle.std.proofs.Common.{◌≡◌, take}
use Rattle.source_events.proofs.run_bytes.RunBytes.new.Given as goal

abbrev pub invariant-loop-byte : goal.invariant-loop-byte
invariant-loop-byte l = l.bytes.items ≡ take l.byte-index l.run

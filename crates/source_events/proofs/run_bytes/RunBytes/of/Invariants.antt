use Rattle.std.proofs.Common.{◌≡◌, take}
use Rattle.source_events.specs.Runs.{bytes_of}
use Rattle.source_events.proofs.run_bytes.RunBytes.of.Given as goal

abbrev pub invariant-loop-cell : goal.invariant-loop-cell
invariant-loop-cell l = l.bytes.items ≡ bytes_of (take l.cell-index l.run)

use Rattle.std.proofs.Common.{◌*◌}
use Rattle.stp_codec.specs.Wholes.{nibbles_in}
use Rattle.stp_codec.proofs.Running.{IsRun}
use Rattle.stp_codec.proofs.run.run_in.Given as goal

-- nibbles F alone so far
abbrev pub invariant-loop-index : goal.invariant-loop-index
invariant-loop-index l = IsRun (nibbles_in l.bytes) (2 * l.index)

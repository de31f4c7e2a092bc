use Rattle.std.proofs.Common.{◌+◌, ◌*◌, ◌≤◌, take}
use Rattle.stp_codec.specs.Hunting.{Skips}
use Rattle.stp_codec.specs.Reading.{pattern}
use Rattle.stp_codec.specs.Wholes.{nibbles_in}
use Rattle.stp_codec.proofs.hunt.skip_in.Given as goal

-- the bytes so far are skipped
abbrev pub invariant-loop-index : goal.invariant-loop-index
invariant-loop-index l = record {
  skips : Skips l.run (nibbles_in (take l.index l.bytes)) l.after;
  most : l.after ≤ pattern.most;
  few : l.after ≤ l.run + 2 * l.index;
}

use Rattle.std.proofs.Common.{◌+◌, ◌≤◌, take}
use Rattle.itm_codec.specs.Hunting.{Skips}
use Rattle.itm_codec.proofs.hunt.skip_in.Given as goal

-- the bytes so far are skipped
abbrev pub invariant-loop-index : goal.invariant-loop-index
invariant-loop-index l = record {
  skips : Skips l.pattern l.run (take l.index l.bytes) l.after;
  most : l.after ≤ l.pattern.most;
  few : l.after ≤ l.run + l.index;
}

use Rattle.std.proofs.Common.{◌≡◌, take, replicate}
use Rattle.itm_codec.proofs.sync.zeros_in.Given as goal

-- the bytes so far are 00
abbrev pub invariant-loop-index : goal.invariant-loop-index
invariant-loop-index l = take l.index l.bytes ≡ replicate l.index 0

use Rattle.std.proofs.Common.{◌≡◌, ◌+◌, ◌++◌, take}
use Rattle.stp_codec.proofs.find.put_window.Given as goal

-- the bytes so far
abbrev pub invariant-loop-index : goal.invariant-loop-index
invariant-loop-index l = take (l.from + l.index) l.held ≡ take l.from l.fn.held ++ take l.index l.window

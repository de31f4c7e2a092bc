use Rattle.std.proofs.Common.{◌-◌}
use Rattle.script_rebuild.proofs.EachEncoder.{UpTo}
use Rattle.script_rebuild.proofs.encoders.encoders_for.Given as goal

-- there is one for each ID below the number, in order
abbrev pub invariant-loop-number : goal.invariant-loop-number
invariant-loop-number l = UpTo l.order l.fn.ids (l.number - 1) l.encoders.items

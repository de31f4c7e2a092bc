use Rattle.std.proofs.Common.{◌≡◌, ◌+◌, ◌*◌, ◌≤◌, ◌++◌, length, take, flat_map}
use Rattle.trace_text.specs.EndText.{source_line}
use Rattle.trace_text.proofs.ends.print_tails.Given as goal

abbrev pub invariant-loop-source : goal.invariant-loop-source
invariant-loop-source l =
    (l.outlet ≡ l.initial.outlet ++ flat_map source_line (take l.source-index l.source-items))
    × (length l.outlet ≤ length l.initial.outlet + 71 * l.source-index) × (length l.source-items ≤ 16)

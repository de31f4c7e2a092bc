use Rattle.std.proofs.Common.{◌≡◌, ◌+◌, ◌*◌, ◌++◌, length}
use Rattle.frame_grammar.specs.Port.{half_spelling}
use Rattle.frame_writer.proofs.frame.append_halves.Given as goal

abbrev pub invariant-loop-half : goal.invariant-loop-half
invariant-loop-half l = record {
  items : l.out.items ≡ l.fn.out.items ++ half_spelling l._half;
  room : length l.out.items ≡ length l.fn.out.items + 2 * l._half;
}

use Rattle.std.proofs.Common.{◌≡◌, true}
use Rattle.stp_grammar.specs.Rule.{is_sound}
use Rattle.rows.proofs.stp_grammar_rows.nibbles.Given as goal

abbrev pub invariant-loop-at : goal.invariant-loop-at
invariant-loop-at l = is_sound l.partial ≡ true

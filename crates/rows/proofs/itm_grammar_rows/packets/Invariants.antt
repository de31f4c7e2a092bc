use Rattle.std.proofs.Common.{◌≡◌, true}
use Rattle.itm_grammar.specs.Rule.{is_sound}
use Rattle.rows.proofs.itm_grammar_rows.packets.Given as goal

abbrev pub invariant-loop-at : goal.invariant-loop-at
invariant-loop-at l = is_sound l.partial ≡ true

use Rattle.std.proofs.Common.{◌∙◌, ap}
use Rattle.stp_grammar.specs.Opcodes.{head_of}
use Rattle.stp_grammar.specs.Rule.{first_opening}
use Rattle.stp_grammar.proofs.Openings.{first_is}
use Rattle.stp_grammar.proofs.partial.first.Goals as goal

pub returns-clause-next : goal.returns-clause-next
returns-clause-next c = c.opened.ensures.next (first_opening c.args.nibble) (c.opcode_of.ensures ∙ ap head_of (first_is c.args.nibble c.requires))

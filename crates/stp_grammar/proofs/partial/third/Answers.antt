use Rattle.std.proofs.Common.{◌∙◌, ap}
use Rattle.stp_grammar.specs.Opcodes.{head_of}
use Rattle.stp_grammar.specs.Rule.{third_opening}
use Rattle.stp_grammar.proofs.Openings.{third_is}
use Rattle.stp_grammar.proofs.partial.third.Goals as goal

pub returns-clause-next : goal.returns-clause-next
returns-clause-next c = c.opened.ensures.next (third_opening c.args.nibble) (c.opcode_of.ensures ∙ ap head_of (third_is c.args.nibble))

use Rattle.std.proofs.Common.{length, ◌∙◌, ap}
use Rattle.stp_grammar.specs.declared.packet.Row.{Row}
use Rattle.stp_grammar.specs.Opcodes.{line_of}
use Rattle.stp_grammar.proofs.Lines.{own_at}
use Rattle.stp_grammar.proofs.packet.Row.opcode_nibbles.Goals as goal

pub returns-clause-count : goal.returns-clause-count
returns-clause-count c =
    c.nibbles_at.ensures.count ∙ ap (λ (r : Row). length (line_of r).opcode) (own_at c.number.result c.args.self c.number.ensures.number)

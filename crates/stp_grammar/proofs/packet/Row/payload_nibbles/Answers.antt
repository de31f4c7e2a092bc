use Rattle.std.proofs.Common.{◌∙◌, ap}
use Rattle.stp_grammar.specs.declared.packet.Row.{Row}
use Rattle.stp_grammar.specs.Opcodes.{line_of}
use Rattle.stp_grammar.proofs.Lines.{own_at}
use Rattle.stp_grammar.proofs.packet.Row.payload_nibbles.Goals as goal

pub returns-clause-count : goal.returns-clause-count
returns-clause-count c =
    c.payload_at.ensures.count ∙ ap (λ (r : Row). (line_of r).payload) (own_at c.number.result c.args.self c.number.ensures.number)
